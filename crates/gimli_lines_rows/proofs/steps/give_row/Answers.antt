use Rattle.gimli_lines_rows.proofs.SinkRows.{hidden_given, shown_given}
use Rattle.gimli_lines_rows.proofs.steps.give_row.Goals as goal

pub returns-then-registers-clause-given : goal.returns-then-registers-clause-given
returns-then-registers-clause-given g c =
    hidden_given g.S.RowSink.form g.S.RowSink.HasTaken (tt {0}) c.args.registers.now c.args.sink.now
    c.if-registers.true

pub returns-in-Ok-clause-given : goal.returns-in-Ok-clause-given
returns-in-Ok-clause-given g c =
    shown_given g.S.RowSink.form g.S.RowSink.HasTaken (tt {0}) c.args.registers.now c.of.result
    c.args.sink.now c.take.new.self c.if-registers.false c.of.ensures c.in-Ok.ensures.ok

pub returns-in-Err-clause-given : goal.returns-in-Err-clause-given
returns-in-Err-clause-given g c =
    (c.in-Err.ensures.refusal, c.if-registers.false, c.in-Err.ensures.err)
