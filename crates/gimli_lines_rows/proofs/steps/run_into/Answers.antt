use Rattle.std.proofs.Common.{true, false, not, [], None, refl, ap, subst, ◌∙◌}
use Rattle.gimli_lines_machine.specs.declared.rules.LineRules.{LineRules}
use Rattle.gimli_lines_machine.specs.Machine.{after_row}
use Rattle.gimli_lines_rows.specs.ProgramRows.{Path, stays, shows}
use Rattle.gimli_lines_rows.specs.NumericSteps.{rows_at}
use Rattle.gimli_lines_rows.proofs.LineRowSteps.{step_smaller}
use Rattle.gimli_lines_rows.proofs.RowPaths.{next_step_as}
use Rattle.gimli_lines_rows.proofs.StepsAtOnce.{steps_without_row, steps_row, no_step_at}
use Rattle.gimli_lines_rows.proofs.SinkRows.{takes_none, none_on_the_way, step_on_the_way, way_ends, way_refused}
use Rattle.gimli_lines_rows.proofs.steps.run_into.Goals as goal

pub loop-gives_row-init : goal.loop-gives_row-init
loop-gives_row-init g c = λ takes_files. none_on_the_way _ _ _ _ _

-- an instruction that gives no row
pub loop-gives_row-preserved : goal.loop-gives_row-preserved
loop-gives_row-preserved g c = λ takes_files.
    let limit = g.R.Offset.ReaderOffset.limit in
    step_on_the_way limit g.S.RowSink.form g.S.RowSink.HasTaken _ _ _ _ _ _ false c.run_next.new.registers
    c.loop-gives_row.shown (c.loop-gives_row.invariant takes_files)
    (steps_without_row limit c.args.header.now c.args.rules.now c.loop-gives_row.registers c.loop-gives_row.shown
    c.loop-gives_row.bytes c.run_next.new.bytes c.run_next.new.registers c.in-Some.gives_row c.requires
    c.if-gives_row.false c.in-Some.ensures takes_files)
    refl (takes_none g.S.RowSink.HasTaken c.loop-gives_row.sink)

pub loop-gives_row-smaller : goal.loop-gives_row-smaller
loop-gives_row-smaller g c =
    let limit = g.R.Offset.ReaderOffset.limit in
    step_smaller limit _ _ _
    (steps_without_row limit c.args.header.now c.args.rules.now c.loop-gives_row.registers c.loop-gives_row.shown
    c.loop-gives_row.bytes c.run_next.new.bytes c.run_next.new.registers c.in-Some.gives_row c.requires
    c.if-gives_row.false c.in-Some.ensures true)

-- one that gives one, which the sink has taken where it is shown
pub loop-gives_row-preserved-in-Ok : goal.loop-gives_row-preserved-in-Ok
loop-gives_row-preserved-in-Ok g c = λ takes_files.
    let limit = g.R.Offset.ReaderOffset.limit in
    let after = c.run_next.new.registers in
    step_on_the_way limit g.S.RowSink.form g.S.RowSink.HasTaken _ _ _ _ _ _ (not after.is_hidden) after
    c.loop-gives_row.shown (c.loop-gives_row.invariant takes_files)
    (steps_row limit c.args.header.now c.args.rules.now c.loop-gives_row.registers c.loop-gives_row.shown
    c.loop-gives_row.bytes c.run_next.new.bytes after c.give_row.new.registers c.give_row.new.row
    c.in-Some.gives_row (not after.is_hidden) c.requires c.if-gives_row.true c.in-Some.ensures refl
    c.give_row.ensures.row
    (c.give_row.ensures.registers ∙ ap (λ (rules : LineRules). after_row rules after) c.line_rules.ensures.value)
    takes_files)
    c.give_row.ensures.row c.in-Ok.ensures.given

pub loop-gives_row-smaller-in-Ok : goal.loop-gives_row-smaller-in-Ok
loop-gives_row-smaller-in-Ok g c =
    let limit = g.R.Offset.ReaderOffset.limit in
    let after = c.run_next.new.registers in
    step_smaller limit _ _ _
    (steps_row limit c.args.header.now c.args.rules.now c.loop-gives_row.registers c.loop-gives_row.shown
    c.loop-gives_row.bytes c.run_next.new.bytes after c.give_row.new.registers c.give_row.new.row
    c.in-Some.gives_row (not after.is_hidden) c.requires c.if-gives_row.true c.in-Some.ensures refl
    c.give_row.ensures.row
    (c.give_row.ensures.registers ∙ ap (λ (rules : LineRules). after_row rules after) c.line_rules.ensures.value)
    true)

-- or refused
pub returns-in-Err : goal.returns-in-Err
returns-in-Err g c = λ takes_files.
    let limit = g.R.Offset.ReaderOffset.limit in
    let after = c.run_next.new.registers in
    let new = rows_at c.args.header.now takes_files c.give_row.new.registers c.give_row.new.row
    c.run_next.new.bytes in
    let step = next_step_as limit _ _ _ _ true
    (steps_row limit c.args.header.now c.args.rules.now c.loop-gives_row.registers c.loop-gives_row.shown
    c.loop-gives_row.bytes c.run_next.new.bytes after c.give_row.new.registers c.give_row.new.row
    c.in-Some.gives_row (not after.is_hidden) c.requires c.if-gives_row.true c.in-Some.ensures refl
    c.give_row.ensures.row
    (c.give_row.ensures.registers ∙ ap (λ (rules : LineRules). after_row rules after) c.line_rules.ensures.value)
    takes_files) refl (ap not c.in-Err.ensures.given.1) in
    way_refused (Unit {0}) limit g.S.RowSink.form g.S.RowSink.HasTaken _ _ _ new _ _ _ c.in-Err.ensures.given.0
    (c.loop-gives_row.invariant takes_files) (shows _ new new [] step (stays new)) c.in-Err.ensures.given.2

pub returns : goal.returns
returns g c = λ takes_files.
    let limit = g.R.Offset.ReaderOffset.limit in
    let h = c.args.header.now in
    let mid = rows_at h takes_files c.loop-gives_row.registers c.loop-gives_row.shown c.loop-gives_row.bytes in
    way_ends limit g.S.RowSink.form g.S.RowSink.HasTaken (tt {0}) _ mid
    (rows_at h takes_files c.run_next.new.registers c.args.row.now c.run_next.new.bytes) _ _
    c.loop-gives_row.shown (c.loop-gives_row.invariant takes_files)
    (subst (Path limit mid [])
    (no_step_at limit h None c.loop-gives_row.registers c.loop-gives_row.shown c.run_next.new.registers
    c.loop-gives_row.shown c.loop-gives_row.bytes c.run_next.new.bytes refl
    (c.in_default.ensures.1, refl, c.in_default.ensures.0) takes_files)
    (stays mid))
