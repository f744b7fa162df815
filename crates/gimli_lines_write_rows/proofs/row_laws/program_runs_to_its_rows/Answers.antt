use Rattle.std.proofs.Common.{sym, ap, ◌∙◌}
use Rattle.gimli_lines_machine.specs.LineInstructions.{DefinedFile}
use Rattle.gimli_lines_write_rows.specs.BuiltRows.{first_row}
use Rattle.gimli_lines_write_rows.specs.EntryInstructions.{shows, instructions_from}
use Rattle.gimli_lines_write_rows.proofs.ProgramRuns.{program_told, first_placed, start_is, fits_64}
use Rattle.gimli_lines_write_rows.proofs.row_laws.program_runs_to_its_rows.Goals as goal

pub returns : goal.returns
returns c = λ w entries can_build f readable.
    let r = program_told DefinedFile w can_build (fits_64 w can_build) entries 0 (first_row w)
    (first_placed w can_build) f readable in
    (r.0, ap (λ s. shows {F = DefinedFile} w s (instructions_from w (first_row w) entries)) (sym (start_is w)) ∙ r.1)
