use Rattle.std.proofs.Common.{ℕ, Result, sym, ap, ◌∙◌, subst}
use Rattle.addr2line_functions.specs.Error.{Error}
use Rattle.addr2line_functions.specs.Lines.{Lines}
use Rattle.addr2line_functions.specs.UnitLines.{lines_of_unit}
use Rattle.addr2line_root.specs.Searches.{AtMostProbes}
use Rattle.addr2line_unit.specs.LineWalks.{WalkBegins, cursor_probes}
use Rattle.addr2line_unit.specs.ResolvedUnits.{ResolvedUnit, KeepsParses}
use Rattle.addr2line_unit.proofs.KeptWalks.{of_kept, cursor_looks}
use Rattle.addr2line_unit.proofs.unit.ResUnit.cursor_from.Goals as goal

pub invariant_of-self : goal.invariant_of-self
invariant_of-self g c =
    let i = c.self.inside in
    let looks =
    cursor_looks i.probes.name (lines_of_unit i.main.counted.unit) i.probes c.cursor_in_kept.new.probes i.lines
    c.self.invariant.lines_are c.cursor_in_kept.ensures.cost in
    subst (λ (n : ℕ). KeepsParses i.main i.load i.first i.lines i.functions n) (sym looks.0) c.self.invariant

pub returns-clause-rows : goal.returns-clause-rows
returns-clause-rows g c = λ kept.
    let i = c.self.inside in
    let begins : Result Lines Error → Type 0 = λ r. WalkBegins c.args.low r c.cursor_in_kept.result in
    subst (λ (u : ResolvedUnit). begins u.value.unit.lines) c.self.view_is
    (of_kept i.probes.name (lines_of_unit i.main.counted.unit) begins i.lines c.self.invariant.lines_are
    (ap (λ (u : ResolvedUnit). u.keeps_lines) c.self.view_is ∙ kept) c.cursor_in_kept.ensures.rows)

pub returns-clause-cost : goal.returns-clause-cost
returns-clause-cost g c =
    let i = c.self.inside in
    let P : ResolvedUnit → Type 0 =
    λ u. AtMostProbes (cursor_probes u.value.unit.lines) u.probes c.cursor_in_kept.new.probes in
    subst P c.self.view_is
    (cursor_looks i.probes.name (lines_of_unit i.main.counted.unit) i.probes c.cursor_in_kept.new.probes i.lines
    c.self.invariant.lines_are c.cursor_in_kept.ensures.cost)
