use Rattle.linemap_emit_rows.proofs.SoundSequenceLemmas.{sound_can_emit as can}
use Rattle.linemap_emit_rows.proofs.row_laws.sound_can_emit_sequences.Goals as goal

pub returns : goal.returns
returns c = can
