use Rattle.std.proofs.Common.{◌≡◌, true, IfOk, Ok, sym, ap, subst, ◌∙◌, rules}
use Rattle.addr2line_ranges.specs.Calls.{ReturnsAsOrNoMemory}
use Rattle.addr2line_ranges.specs.UnitLines.{lines_of_unit}
use Rattle.addr2line_ranges.specs.UnitRanges.{or_else, ranges_of_lines}
use Rattle.addr2line_root.specs.CountedRuns.{CountedUnit}
use Rattle.addr2line_root.specs.LastPrograms.{HasHeaderInFile, IsLastProgramOf, IsLastProgramFor}
use Rattle.addr2line_root.specs.MainUnits.{MainUnit}
use Rattle.addr2line_root.specs.RootRanges.{RootRanges, RunsForRanges}
use Rattle.addr2line_root.proofs.KeptUnits.{counted_as_it_is, keeps_if_whole}
use Rattle.addr2line_root.proofs.ranges.or_by_program.Goals as goal

pub ranges_by_program-requires-clause-last : goal.ranges_by_program-requires-clause-last
ranges_by_program-requires-clause-last g c =
    let i = c.unit.inside in
    let whole : i.is_whole ≡ true =
    ap (λ (u : MainUnit). u.is_whole) c.unit.view_is ∙ c.in_ok-make_whole.ensures.ok in
    let same : i.counted ≡ c.args.unit.now.counted =
    sym (counted_as_it_is i.is_whole i.counted whole) ∙ ap (λ (u : MainUnit). u.counted) c.unit.view_is
    ∙ c.in_ok-make_whole.ensures.unit in
    subst (λ (u : CountedUnit). IsLastProgramFor u.unit c.args.last.now) (sym same) c.requires.last

pub invariant_of-unit : goal.invariant_of-unit
invariant_of-unit g c =
    keeps_if_whole c.unit.inside.is_whole c.ranges_by_program.new.unit.unit
    (ap (λ (u : MainUnit). u.is_whole) c.unit.view_is ∙ c.in_ok-make_whole.ensures.ok)

pub returns-then-is_empty-clause-ranges : goal.returns-then-is_empty-clause-ranges
returns-then-is_empty-clause-ranges g c =
    let i = c.unit.inside in
    let whole : i.is_whole ≡ true =
    ap (λ (u : MainUnit). u.is_whole) c.unit.view_is ∙ c.in_ok-make_whole.ensures.ok in
    let same : i.counted ≡ c.args.unit.now.counted =
    sym (counted_as_it_is i.is_whole i.counted whole) ∙ ap (λ (u : MainUnit). u.counted) c.unit.view_is
    ∙ c.in_ok-make_whole.ensures.unit in
    let P : CountedUnit → Type 0 = λ u.
    ReturnsAsOrNoMemory (λ (r : RootRanges). r.ranges) c.ranges_by_program.result
    (Ok (or_else c.args.declared.value.items (ranges_of_lines (lines_of_unit u.unit)))) in
    let here : P i.counted = search rules in
    subst P same here

pub returns-then-is_empty-clause-lines : goal.returns-then-is_empty-clause-lines
returns-then-is_empty-clause-lines g c =
    let i = c.unit.inside in
    let new = c.ranges_by_program.new.unit in
    let n = c.args.probes.now.name in
    let whole : i.is_whole ≡ true =
    ap (λ (u : MainUnit). u.is_whole) c.unit.view_is ∙ c.in_ok-make_whole.ensures.ok in
    let same : i.counted ≡ c.args.unit.now.counted =
    sym (counted_as_it_is i.is_whole i.counted whole) ∙ ap (λ (u : MainUnit). u.counted) c.unit.view_is
    ∙ c.in_ok-make_whole.ensures.unit in
    let P : CountedUnit → Type 0 = λ u.
    IfOk c.ranges_by_program.result (λ r. RunsForRanges n r.ranges r.lines u new) in
    let Q : CountedUnit → Type 0 = λ u.
    IfOk c.ranges_by_program.result (λ r. RunsForRanges n r.ranges r.lines c.args.unit.now.counted u) in
    subst Q (sym (counted_as_it_is i.is_whole new whole)) (subst P same c.ranges_by_program.ensures.lines)

pub returns-then-is_empty-clause-last : goal.returns-then-is_empty-clause-last
returns-then-is_empty-clause-last g c =
    let i = c.unit.inside in
    let whole : i.is_whole ≡ true =
    ap (λ (u : MainUnit). u.is_whole) c.unit.view_is ∙ c.in_ok-make_whole.ensures.ok in
    let same : i.counted ≡ c.args.unit.now.counted =
    sym (counted_as_it_is i.is_whole i.counted whole) ∙ ap (λ (u : MainUnit). u.counted) c.unit.view_is
    ∙ c.in_ok-make_whole.ensures.unit in
    subst (λ (u : CountedUnit). HasHeaderInFile u.unit → IsLastProgramOf u.unit.file c.ranges_by_program.new.last) same
    c.ranges_by_program.ensures.last
