use Rattle.linemap_meaning.proofs.TableRangeHolders.{one_sequence as lemma}
use Rattle.linemap_meaning.proofs.table_laws.one_sequence.Goals as goal

pub returns : goal.returns
returns c = lemma
