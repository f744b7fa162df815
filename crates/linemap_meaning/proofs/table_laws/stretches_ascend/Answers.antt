use Rattle.linemap_meaning.proofs.StretchOrder.{stretches_ascend as lemma}
use Rattle.linemap_meaning.proofs.table_laws.stretches_ascend.Goals as goal

pub returns : goal.returns
returns c = lemma
