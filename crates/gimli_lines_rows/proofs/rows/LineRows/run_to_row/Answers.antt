use Rattle.std.proofs.Common.{◌∙◌}
use Rattle.gimli_lines_rows.proofs.StepsAtOnce.{run_fits, run_over}
use Rattle.gimli_lines_rows.proofs.rows.LineRows.run_to_row.Goals as goal

pub overflow_sub-len : goal.overflow_sub-len
overflow_sub-len g c =
    run_fits g.R.Offset.ReaderOffset.limit c.run_to_row-found.result c.header-header.result.now
    c.self.inside.registers c.self.inside.row c.run_to_row-found.new.registers c.run_to_row-found.new.row
    c.borrowed-bytes.result c.run_to_row-found.new.bytes c.slice-before.result.now c.slice.result.now
    c.slice-before.ensures c.slice.ensures c.run_to_row-found.ensures

pub returns : goal.returns
returns g c =
    run_over g.R.Offset.ReaderOffset.limit c.run_to_row-found.result c.args.self.now c.header-header.result.now
    (g.P.LineProgram.header_of c.self.inside.program) g.P.LineProgram.takes_files
    c.self.inside.registers c.self.inside.row c.run_to_row-found.new.registers c.run_to_row-found.new.row
    c.borrowed-bytes.result c.self.inside.instructions c.run_to_row-found.new.bytes c.skip.new.self
    c.slice-before.result.now c.slice.result.now c.self.view_is c.header-header.ensures
    (c.borrowed-bytes.ensures ∙ c.reader.ensures) c.slice-before.ensures c.slice.ensures c.skip.ensures
    c.run_to_row-found.ensures
