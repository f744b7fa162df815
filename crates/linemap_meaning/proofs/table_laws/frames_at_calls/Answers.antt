use Rattle.linemap_meaning.proofs.FrameLemmas.{frames_at_calls as lemma}
use Rattle.linemap_meaning.proofs.table_laws.frames_at_calls.Goals as goal

pub returns : goal.returns
returns c = lemma
