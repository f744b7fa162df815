use Rattle.linemap_meaning.proofs.TableRangeHolders.{one_function as lemma}
use Rattle.linemap_meaning.proofs.table_laws.one_function.Goals as goal

pub returns : goal.returns
returns c = lemma
