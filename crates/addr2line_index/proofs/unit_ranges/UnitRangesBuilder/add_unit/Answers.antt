use Rattle.std.proofs.Common.{◌≡◌, ◌++◌, ◌∷◌, [], length, ◌∙◌, ap, sym, refl, subst}
use Rattle.std.specs.Vec.{with_items}
use Rattle.std.proofs.lemmas.List.{with_items_is}
use Rattle.addr2line_index.specs.declared.unit_run.UnitRun.{UnitRun}
use Rattle.addr2line_index.specs.SharedRanges.{AreShareable, LastGoesOn, with_unit, with_last, pairs_of_runs}
use Rattle.addr2line_index.proofs.SharedRangeLemmas.{longer, longer_shareable, length-last, new_run, AreShareable-append, IsShareable-single}
use Rattle.addr2line_index.proofs.NumberedRangeLemmas.{ranges-add_unit}
use Rattle.addr2line_index.proofs.unit_ranges.UnitRangesBuilder.add_unit.Goals as goal

-- the runs with a longer last one
lengthened : (c : goal.After-self-1)
    → (with_items c.self.inside.runs c.lengthen.new.runs).items ≡ with_last c.args.unit c.self.inside.runs.items
lengthened c =
    let runs = c.self.inside.runs in
    let longer = c.lengthen.ensures ∙ ap (with_last c.args.unit) c.as_mut_slice.ensures.value in
    with_items_is runs c.lengthen.new.runs
    (ap length longer ∙ length-last runs.items c.args.unit ∙ sym runs.ok.0)
    ∙ longer

goes_on : (c : goal.After-self-1) → LastGoesOn c.self.inside.runs.items c.args.unit c.args.ranges.now
goes_on c =
    subst (λ l. LastGoesOn l c.args.unit c.args.ranges.now) c.as_slice.ensures.value
    (c.may_lengthen.ensures c.if-may_lengthen.true)

pub invariant_of-self : goal.invariant_of-self
invariant_of-self c =
    let a = c.args in
    subst AreShareable (sym (lengthened c))
    (longer_shareable c.self.inside.runs.items a.unit a.ranges.now c.self.invariant (goes_on c))

pub returns-then-may_lengthen-clause-ok : goal.returns-then-may_lengthen-clause-ok
returns-then-may_lengthen-clause-ok c units of count =
    let a = c.args in
    let runs = c.self.inside.runs.items in
    ranges-add_unit a.self.now (pairs_of_runs (with_items c.self.inside.runs c.lengthen.new.runs).items) a.ranges.now
    a.unit units
    (ap pairs_of_runs (lengthened c)
    ∙ longer runs a.unit a.ranges.now c.self.invariant (goes_on c)
    ∙ ap (λ l. l ++ with_unit a.unit a.ranges.now) c.self.view_is) of count

pub invariant_of-self-2 : goal.invariant_of-self-2
invariant_of-self-2 c =
    let a = c.args in
    let runs = c.self.inside.runs.items in
    let run : UnitRun = record { ranges = a.ranges; first = a.unit; last = a.unit } in
    subst AreShareable (sym c.in_ok-push.ensures.items)
    (AreShareable-append runs (run ∷ []) c.self.invariant (IsShareable-single run refl, tt))

pub returns-clause-ok : goal.returns-clause-ok
returns-clause-ok c units of count =
    let a = c.args in
    let runs = c.self.inside.runs.items in
    let run : UnitRun = record { ranges = a.ranges; first = a.unit; last = a.unit } in
    ranges-add_unit a.self.now (pairs_of_runs c.push.new.self.items) a.ranges.now a.unit units
    (ap pairs_of_runs c.in_ok-push.ensures.items ∙ new_run runs run refl
    ∙ ap (λ l. l ++ with_unit a.unit a.ranges.now) c.self.view_is) of count
