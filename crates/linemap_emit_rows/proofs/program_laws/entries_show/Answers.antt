use Rattle.std.proofs.Common.{refl}
use Rattle.linemap_emit_rows.proofs.EmittedProgramRows.{shows_again}
use Rattle.linemap_emit_rows.proofs.program_laws.entries_show.Goals as goal

pub returns : goal.returns
returns c =
    λ limit h entries wide can follow readable bytes.
    shows_again limit h h.program.is_big entries wide can follow readable refl bytes
