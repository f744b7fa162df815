use Rattle.std.proofs.Common.{ℕ, Result, sym, ap, ◌∙◌, subst}
use Rattle.addr2line_functions.specs.Error.{Error}
use Rattle.addr2line_functions.specs.Lines.{Lines}
use Rattle.addr2line_functions.specs.UnitLines.{lines_of_unit}
use Rattle.addr2line_unit.specs.LineWalks.{WalkGoesOn, StepsOn}
use Rattle.addr2line_unit.specs.ResolvedUnits.{ResolvedUnit, KeepsParses}
use Rattle.addr2line_unit.proofs.KeptWalks.{of_kept, step_looks, step_name}
use Rattle.addr2line_unit.proofs.unit.ResUnit.next_between.Goals as goal

pub invariant_of-self : goal.invariant_of-self
invariant_of-self g c =
    let i = c.self.inside in
    let lines = lines_of_unit i.main.counted.unit in
    let new = c.next_in_kept.new.probes in
    let found = c.next_in_kept.result in
    let same =
    step_name i.probes new c.args.cursor lines found
    (step_looks i.probes.name lines i.probes new c.args.cursor found i.lines c.self.invariant.lines_are
    c.next_in_kept.ensures.cost) in
    subst (λ (n : ℕ). KeepsParses i.main i.load i.first i.lines i.functions n) (sym same) c.self.invariant

pub returns-clause-row : goal.returns-clause-row
returns-clause-row g c = λ kept.
    let i = c.self.inside in
    let goes_on : Result Lines Error → Type 0 =
    λ r. WalkGoesOn c.args.low c.args.high c.args.cursor r c.next_in_kept.result in
    subst (λ (u : ResolvedUnit). goes_on u.value.unit.lines) c.self.view_is
    (of_kept i.probes.name (lines_of_unit i.main.counted.unit) goes_on i.lines c.self.invariant.lines_are
    (ap (λ (u : ResolvedUnit). u.keeps_lines) c.self.view_is ∙ kept) c.next_in_kept.ensures.row)

pub returns-clause-cost : goal.returns-clause-cost
returns-clause-cost g c =
    let i = c.self.inside in
    let P : ResolvedUnit → Type 0 =
    λ u. StepsOn c.args.cursor u.value.unit.lines c.next_in_kept.result u.probes c.next_in_kept.new.probes in
    subst P c.self.view_is
    (step_looks i.probes.name (lines_of_unit i.main.counted.unit) i.probes c.next_in_kept.new.probes c.args.cursor
    c.next_in_kept.result i.lines c.self.invariant.lines_are c.next_in_kept.ensures.cost)
