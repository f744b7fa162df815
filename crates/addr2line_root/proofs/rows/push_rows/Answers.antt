use Rattle.addr2line_root.proofs.BuilderRows.{rows_added}
use Rattle.addr2line_root.proofs.rows.push_rows.Goals as goal

pub returns : goal.returns
returns g c =
    rows_added g.R.Offset.ReaderOffset.limit c.run_all.result c.args.rows.now c.run_all.new.self (λ s. s.builder)
    c.args.sink.now c.run_all.new.sink c.run_all.ensures.rows
