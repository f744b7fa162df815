use Rattle.linemap_meaning.proofs.FrameLemmas.{no_frame as lemma}
use Rattle.linemap_meaning.proofs.table_laws.no_frame.Goals as goal

pub returns : goal.returns
returns c = lemma
