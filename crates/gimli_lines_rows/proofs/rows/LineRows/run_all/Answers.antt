use Rattle.std.proofs.Common.{true, false, [], ◌∷◌, refl, ap, subst}
use Rattle.gimli_lines_machine.specs.declared.registers.Registers.{Registers}
use Rattle.gimli_lines_rows.specs.ProgramRows.{RemainingRows}
use Rattle.gimli_lines_rows.specs.RowSinks.{Takes}
use Rattle.gimli_lines_rows.proofs.RowPaths.{next_step_as, answered_none}
use Rattle.gimli_lines_rows.proofs.SinkRows.{none_given, given_run, given_no_more, given_shown, given_smaller, given_no_file, all_given, given_to_fault, given_to_refusal, given_to_sink, refused_by_run, refused_by_step, refused_by_sink}
use Rattle.gimli_lines_rows.proofs.rows.LineRows.run_all.Goals as goal

pub loop-self-init : goal.loop-self-init
loop-self-init g c = none_given _ _ _ _ _

-- the step showed no row
pub loop-self-preserved : goal.loop-self-preserved
loop-self-preserved g c =
    let limit = g.R.Offset.ReaderOffset.limit in
    given_no_more limit g.S.RowSink.form g.S.RowSink.HasTaken c.args.self.now c.run_at_once.new.self c.step.new.self
    c.args.sink.now c.run_at_once.new.sink
    (given_run limit g.S.RowSink.form g.S.RowSink.HasTaken (tt {0}) c.args.self.now c.loop-self.self
    c.run_at_once.new.self c.args.sink.now c.loop-self.sink c.run_at_once.new.sink c.loop-self.invariant
    c.in_ok-run_at_once.ensures)
    (next_step_as limit _ _ _ _ false c.in_ok-is_shown.ensures.step c.in-Some.is c.if-is_shown.false)

pub loop-self-smaller : goal.loop-self-smaller
loop-self-smaller g c =
    let limit = g.R.Offset.ReaderOffset.limit in
    given_smaller limit g.S.RowSink.form g.S.RowSink.HasTaken (tt {0}) c.loop-self.self c.run_at_once.new.self
    c.step.new.self c.loop-self.sink c.run_at_once.new.sink _ c.in_ok-run_at_once.ensures
    (next_step_as limit _ _ _ _ _ c.in_ok-is_shown.ensures.step c.in-Some.is refl)

-- it showed one, which the sink has taken
pub loop-self-preserved-in-Continue-branch-4 : goal.loop-self-preserved-in-Continue-branch-4
loop-self-preserved-in-Continue-branch-4 g c =
    let limit = g.R.Offset.ReaderOffset.limit in
    given_shown limit g.S.RowSink.form g.S.RowSink.HasTaken c.args.self.now c.run_at_once.new.self c.step.new.self
    c.args.sink.now c.run_at_once.new.sink c.take.new.self
    (given_run limit g.S.RowSink.form g.S.RowSink.HasTaken (tt {0}) c.args.self.now c.loop-self.self
    c.run_at_once.new.self c.args.sink.now c.loop-self.sink c.run_at_once.new.sink c.loop-self.invariant
    c.in_ok-run_at_once.ensures)
    (next_step_as limit _ _ _ _ true c.in_ok-is_shown.ensures.step c.in-Some.is c.if-is_shown.true)
    (subst (λ (r : Registers). Takes g.S.RowSink.HasTaken c.run_at_once.new.sink c.take.new.self
    (g.S.RowSink.form r ∷ [])) (ap (λ (s : RemainingRows). s.last) c.self.view_is) c.in_ok-take.ensures.ok)

pub loop-self-smaller-in-Continue-branch-4 : goal.loop-self-smaller-in-Continue-branch-4
loop-self-smaller-in-Continue-branch-4 g c =
    let limit = g.R.Offset.ReaderOffset.limit in
    given_smaller limit g.S.RowSink.form g.S.RowSink.HasTaken (tt {0}) c.loop-self.self c.run_at_once.new.self
    c.step.new.self c.loop-self.sink c.run_at_once.new.sink _ c.in_ok-run_at_once.ensures
    (next_step_as limit _ _ _ _ _ c.in_ok-is_shown.ensures.step c.in-Some.is refl)

pub returns-in_default-clause-rows : goal.returns-in_default-clause-rows
returns-in_default-clause-rows g c =
    let limit = g.R.Offset.ReaderOffset.limit in
    all_given limit g.S.RowSink.form g.S.RowSink.HasTaken (tt {0}) c.args.self.now c.run_at_once.new.self
    c.step.new.self c.args.sink.now c.run_at_once.new.sink
    (given_run limit g.S.RowSink.form g.S.RowSink.HasTaken (tt {0}) c.args.self.now c.loop-self.self
    c.run_at_once.new.self c.args.sink.now c.loop-self.sink c.run_at_once.new.sink c.loop-self.invariant
    c.in_ok-run_at_once.ensures)
    (answered_none limit _ _ _ c.in_ok-is_shown.ensures.step c.in_default.is)

pub returns-in_err-run_at_once-clause-rows : goal.returns-in_err-run_at_once-clause-rows
returns-in_err-run_at_once-clause-rows g c =
    given_to_refusal (Unit {0}) g.R.Offset.ReaderOffset.limit g.S.RowSink.form g.S.RowSink.HasTaken
    c.from_residual.result c.args.self.now c.loop-self.self c.run_at_once.new.self c.args.sink.now c.loop-self.sink
    c.run_at_once.new.sink _
    c.from_residual.ensures.1 c.loop-self.invariant c.in_err-run_at_once.ensures

pub returns-in_err-run_at_once-clause-free : goal.returns-in_err-run_at_once-clause-free
returns-in_err-run_at_once-clause-free g c = λ copies none.
    refused_by_run (Unit {0}) g.R.Offset.ReaderOffset.limit g.S.RowSink.form g.S.RowSink.HasTaken c.from_residual.result
    c.args.self.now c.loop-self.self c.run_at_once.new.self c.args.sink.now c.loop-self.sink c.run_at_once.new.sink _
    c.from_residual.ensures.1 c.loop-self.invariant c.in_err-run_at_once.ensures

pub returns-in_err-is_shown-clause-rows : goal.returns-in_err-is_shown-clause-rows
returns-in_err-is_shown-clause-rows g c =
    let limit = g.R.Offset.ReaderOffset.limit in
    given_to_fault limit g.S.RowSink.form g.S.RowSink.HasTaken c.from_residual-in_err-is_shown.result
    c.args.self.now c.run_at_once.new.self c.step.new.self c.args.sink.now c.run_at_once.new.sink _
    c.from_residual-in_err-is_shown.ensures.1
    (given_run limit g.S.RowSink.form g.S.RowSink.HasTaken (tt {0}) c.args.self.now c.loop-self.self
    c.run_at_once.new.self c.args.sink.now c.loop-self.sink c.run_at_once.new.sink c.loop-self.invariant
    c.in_ok-run_at_once.ensures) c.in_err-is_shown.ensures.step

pub returns-in_err-is_shown-clause-free : goal.returns-in_err-is_shown-clause-free
returns-in_err-is_shown-clause-free g c = λ copies none.
    let limit = g.R.Offset.ReaderOffset.limit in
    let ran = given_run limit g.S.RowSink.form g.S.RowSink.HasTaken (tt {0}) c.args.self.now c.loop-self.self
    c.run_at_once.new.self c.args.sink.now c.loop-self.sink c.run_at_once.new.sink c.loop-self.invariant
    c.in_ok-run_at_once.ensures in
    refused_by_step limit g.S.RowSink.form g.S.RowSink.HasTaken c.from_residual-in_err-is_shown.result
    c.args.self.now c.run_at_once.new.self c.step.new.self c.args.sink.now c.run_at_once.new.sink _
    c.from_residual-in_err-is_shown.ensures.1 ran
    (c.in_err-is_shown.ensures.free copies
    (given_no_file limit g.S.RowSink.form g.S.RowSink.HasTaken c.args.self.now c.run_at_once.new.self c.args.sink.now
    c.run_at_once.new.sink g.P.LineProgram.takes_files ran none))

pub returns-in_err-take-clause-rows : goal.returns-in_err-take-clause-rows
returns-in_err-take-clause-rows g c =
    let limit = g.R.Offset.ReaderOffset.limit in
    given_to_sink limit g.S.RowSink.form g.S.RowSink.HasTaken c.from_residual-in_err-take.result
    c.args.self.now c.run_at_once.new.self c.step.new.self c.args.sink.now c.run_at_once.new.sink c.take.new.self _
    c.from_residual-in_err-take.ensures.1 c.in_err-take.ensures.refusal
    (given_run limit g.S.RowSink.form g.S.RowSink.HasTaken (tt {0}) c.args.self.now c.loop-self.self
    c.run_at_once.new.self c.args.sink.now c.loop-self.sink c.run_at_once.new.sink c.loop-self.invariant
    c.in_ok-run_at_once.ensures)
    (next_step_as limit _ _ _ _ true c.in_ok-is_shown.ensures.step c.in-Some.is c.if-is_shown.true)
    c.in_err-take.ensures.err

pub returns-in_err-take-clause-free : goal.returns-in_err-take-clause-free
returns-in_err-take-clause-free g c = λ copies none.
    let limit = g.R.Offset.ReaderOffset.limit in
    refused_by_sink limit g.S.RowSink.form g.S.RowSink.HasTaken c.from_residual-in_err-take.result
    c.args.self.now c.run_at_once.new.self c.step.new.self c.args.sink.now c.run_at_once.new.sink _
    c.from_residual-in_err-take.ensures.1
    (given_run limit g.S.RowSink.form g.S.RowSink.HasTaken (tt {0}) c.args.self.now c.loop-self.self
    c.run_at_once.new.self c.args.sink.now c.loop-self.sink c.run_at_once.new.sink c.loop-self.invariant
    c.in_ok-run_at_once.ensures)
    (next_step_as limit _ _ _ _ true c.in_ok-is_shown.ensures.step c.in-Some.is c.if-is_shown.true)
