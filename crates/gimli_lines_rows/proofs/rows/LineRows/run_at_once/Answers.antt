use Rattle.std.proofs.Common.{◌∙◌}
use Rattle.gimli_lines_rows.proofs.SinkRows.{given_fits, given_over}
use Rattle.gimli_lines_rows.proofs.rows.LineRows.run_at_once.Goals as goal

pub overflow_sub-len : goal.overflow_sub-len
overflow_sub-len g c =
    given_fits g.R.Offset.ReaderOffset.limit g.S.RowSink.form g.S.RowSink.HasTaken c.run_into-given.result
    c.header-header.result.now
    c.self.inside.registers c.self.inside.row c.run_into-given.new.registers c.run_into-given.new.row
    c.borrowed-bytes.result c.run_into-given.new.bytes c.args.sink.now c.run_into-given.new.sink
    c.slice-before.result.now c.slice.result.now
    c.slice-before.ensures c.slice.ensures c.run_into-given.ensures

pub returns : goal.returns
returns g c =
    given_over g.R.Offset.ReaderOffset.limit g.S.RowSink.form g.S.RowSink.HasTaken c.run_into-given.result
    c.args.sink.now c.run_into-given.new.sink c.args.self.now c.header-header.result.now
    (g.P.LineProgram.header_of c.self.inside.program) g.P.LineProgram.takes_files
    c.self.inside.registers c.self.inside.row c.run_into-given.new.registers c.run_into-given.new.row
    c.borrowed-bytes.result c.self.inside.instructions c.run_into-given.new.bytes c.skip.new.self
    c.slice-before.result.now c.slice.result.now c.self.view_is c.header-header.ensures
    (c.borrowed-bytes.ensures ∙ c.reader.ensures) c.slice-before.ensures c.slice.ensures c.skip.ensures
    c.run_into-given.ensures
