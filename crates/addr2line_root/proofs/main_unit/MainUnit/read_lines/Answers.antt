use Rattle.std.proofs.Common.{◌≡◌, true, Ok, sym, ap, subst, ◌∙◌}
use Rattle.addr2line_ranges.specs.Calls.{ReturnsOrNoMemory}
use Rattle.addr2line_ranges.specs.LineIndexes.{counted_lines}
use Rattle.addr2line_ranges.specs.UnitLines.{lines_of_unit}
use Rattle.addr2line_root.specs.CountedRuns.{CountedUnit, CountsRun}
use Rattle.addr2line_root.specs.MainUnits.{MainUnit}
use Rattle.addr2line_root.proofs.KeptUnits.{counted_as_it_is, keeps_if_whole}
use Rattle.addr2line_root.proofs.main_unit.MainUnit.read_lines.Goals as goal

pub invariant_of-self : goal.invariant_of-self
invariant_of-self g c =
    keeps_if_whole c.self.inside.is_whole c.run.new.unit.unit
    (ap (λ (u : MainUnit). u.is_whole) c.self.view_is ∙ c.in_ok-make_whole.ensures.ok)

pub returns-clause-lines : goal.returns-clause-lines
returns-clause-lines g c =
    let i = c.self.inside in
    let whole : i.is_whole ≡ true =
    ap (λ (u : MainUnit). u.is_whole) c.self.view_is ∙ c.in_ok-make_whole.ensures.ok in
    let same : i.counted ≡ c.args.self.now.counted =
    sym (counted_as_it_is i.is_whole i.counted whole) ∙ ap (λ (u : MainUnit). u.counted) c.self.view_is
    ∙ c.in_ok-make_whole.ensures.unit in
    let P : CountedUnit → Type 0 = λ u.
    ReturnsOrNoMemory c.run.result (Ok (counted_lines c.args.probes.now.name (lines_of_unit u.unit))) in
    subst P same c.run.ensures.lines

pub returns-clause-counted : goal.returns-clause-counted
returns-clause-counted g c =
    let i = c.self.inside in
    let whole : i.is_whole ≡ true =
    ap (λ (u : MainUnit). u.is_whole) c.self.view_is ∙ c.in_ok-make_whole.ensures.ok in
    let same : i.counted ≡ c.args.self.now.counted =
    sym (counted_as_it_is i.is_whole i.counted whole) ∙ ap (λ (u : MainUnit). u.counted) c.self.view_is
    ∙ c.in_ok-make_whole.ensures.unit in
    let P : CountedUnit → Type 0 = λ u. CountsRun c.run.result u c.run.new.unit in
    let Q : CountedUnit → Type 0 = λ u. CountsRun c.run.result c.args.self.now.counted u in
    subst Q (sym (counted_as_it_is i.is_whole c.run.new.unit whole)) (subst P same c.run.ensures.counted)

pub returns-clause-whole : goal.returns-clause-whole
returns-clause-whole g c = λ was.
    ap (λ (u : MainUnit). u.is_whole) c.self.view_is ∙ c.in_ok-make_whole.ensures.ok
