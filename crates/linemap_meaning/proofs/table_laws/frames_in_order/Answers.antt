use Rattle.linemap_meaning.proofs.FrameLemmas.{frames_in_order as lemma}
use Rattle.linemap_meaning.proofs.table_laws.frames_in_order.Goals as goal

pub returns : goal.returns
returns c = lemma
