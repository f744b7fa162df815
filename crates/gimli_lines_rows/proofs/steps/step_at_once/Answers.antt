use Rattle.std.proofs.Common.{ap, ◌∙◌}
use Rattle.gimli_lines_machine.specs.declared.rules.LineRules.{LineRules}
use Rattle.gimli_lines_machine.specs.Machine.{after_row}
use Rattle.gimli_lines_rows.proofs.StepsAtOnce.{steps_without_row, steps_row}
use Rattle.gimli_lines_rows.proofs.steps.step_at_once.Goals as goal

pub returns-then-not-gives_row : goal.returns-then-not-gives_row
returns-then-not-gives_row g c =
    steps_without_row g.R.Offset.ReaderOffset.limit c.args.header.now c.args.rules.now c.args.registers.now
    c.args.row.now c.args.bytes.now c.run_next.new.bytes c.run_next.new.registers c.in_ok-gives_row.gives_row c.requires
    c.if-not-gives_row.true c.in_ok-gives_row.ensures

pub returns : goal.returns
returns g c =
    steps_row g.R.Offset.ReaderOffset.limit c.args.header.now c.args.rules.now c.args.registers.now c.args.row.now
    c.args.bytes.now c.run_next.new.bytes c.run_next.new.registers c.end_row.new.registers c.end_row.new.row
    c.in_ok-gives_row.gives_row c.end_row.result c.requires c.if-not-gives_row.false c.in_ok-gives_row.ensures
    c.end_row.ensures.shown c.end_row.ensures.row
    (c.end_row.ensures.registers
    ∙ ap (λ (rules : LineRules). after_row rules c.run_next.new.registers) c.line_rules.ensures.value)
