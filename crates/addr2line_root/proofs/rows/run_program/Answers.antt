use Rattle.addr2line_root.proofs.LineProgramRows.{program_adds_rows, program_fault, program_without_memory}
use Rattle.addr2line_root.proofs.rows.run_program.Goals as goal

pub returns-in_err-rows : goal.returns-in_err-rows
returns-in_err-rows g c =
    program_without_memory g.R.Offset.ReaderOffset.limit c.from_residual.result c.args.header.now _
    c.args.sink.now.builder _ _
    c.from_residual.ensures.1 c.in_err-rows.ensures.value

pub returns-in_err-push_rows : goal.returns-in_err-push_rows
returns-in_err-push_rows g c =
    program_fault (Unit {0}) g.R.Offset.ReaderOffset.limit c.from_residual-in_err-push_rows.result c.args.header.now
    c.new.result c.in_ok-rows.rows c.push_rows.new.rows c.args.sink.now.builder c.push_rows.new.sink.builder _ _
    c.from_residual-in_err-push_rows.ensures.1 c.new.ensures c.in_ok-rows.ensures.value c.in_err-push_rows.ensures

pub returns : goal.returns
returns g c =
    program_adds_rows g.R.Offset.ReaderOffset.limit
    (tt {0}) c.args.header.now c.new.result c.in_ok-rows.rows c.push_rows.new.rows c.args.sink.now.builder
    c.push_rows.new.sink.builder c.new.ensures c.in_ok-rows.ensures.value c.in_ok-push_rows.ensures
