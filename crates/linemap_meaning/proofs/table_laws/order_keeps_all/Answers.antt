use Rattle.linemap_meaning.proofs.StretchOrder.{order_keeps_all as lemma}
use Rattle.linemap_meaning.proofs.table_laws.order_keeps_all.Goals as goal

pub returns : goal.returns
returns c = lemma
