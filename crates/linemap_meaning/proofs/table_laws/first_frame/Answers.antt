use Rattle.linemap_meaning.proofs.FrameLemmas.{first_frame as lemma}
use Rattle.linemap_meaning.proofs.table_laws.first_frame.Goals as goal

pub returns : goal.returns
returns c = lemma
