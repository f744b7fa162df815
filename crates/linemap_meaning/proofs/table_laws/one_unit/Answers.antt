use Rattle.linemap_meaning.proofs.TableRangeHolders.{one_unit as lemma}
use Rattle.linemap_meaning.proofs.table_laws.one_unit.Goals as goal

pub returns : goal.returns
returns c = lemma
