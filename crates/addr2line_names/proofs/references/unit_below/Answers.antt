use Rattle.std.proofs.Common.{◌≡◌, ◌+◌, ◌-◌, ◌<◌, length, Some, option_map, sym, ap, ◌∙◌, arith}
use Rattle.std.proofs.lemmas.Option.{slice_get-get_or}
use Rattle.addr2line_names.specs.EntryReferences.{begins_below}
use Rattle.addr2line_names.proofs.LastUnitBelow.{none_before_point, last_before_point}
use Rattle.addr2line_names.proofs.references.unit_below.Goals as goal

pub returns-then-count-eq0 : goal.returns-then-count-eq0
returns-then-count-eq0 g c =
    let below = begins_below (g.R.Offset.ReaderOffset.count c.args.offset.0) in
    sym (none_before_point g.U.HasUnit.facts below c.count_below-count.result c.args.units.now c.if-count-eq0.true
    c.count_below-count.ensures.point)

pub returns : goal.returns
returns g c =
    let facts = g.U.HasUnit.facts in
    let below = begins_below (g.R.Offset.ReaderOffset.count c.args.offset.0) in
    let units = c.args.units.now in
    let n = c.count_below-count.result in
    let some = c.if-count-eq0.false in
    let within = c.count_below-count.ensures.within in
    let last : n ≡ (n - 1) + 1 = omega (arith, some) in
    let here : n - 1 < length units = omega (arith, some, within) in
    sym (last_before_point facts below n (n - 1) units last within c.count_below-count.ensures.point
    ∙ ap (option_map facts) (slice_get-get_or units (n - 1) c.index-units-count.result here)
    ∙ ap (λ u. Some (facts u)) (sym c.index-units-count.is))
