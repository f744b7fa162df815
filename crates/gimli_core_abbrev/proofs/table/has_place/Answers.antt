use Rattle.std.proofs.Common.{ap, sym, ◌∙◌, is_some, arith}
use Rattle.std.specs.Ordering.{nat_cmp}
use Rattle.std.specs.BTreeMap.{get}
use Rattle.gimli_core_abbrev.proofs.DeclarationPlaces.{place_above, place_below}
use Rattle.gimli_core_abbrev.proofs.table.has_place.Goals as goal

pub returns-then-in_order-code : goal.returns-then-in_order-code
returns-then-in_order-code c =
    c.contains_key.ensures
    ∙ ap is_some (sym (place_above c.args.in_order c.args.code (get nat_cmp c.args.places.now)
    (omega (arith, c.if-in_order-code.true))))

pub returns-else-in_order-code : goal.returns-else-in_order-code
returns-else-in_order-code c =
    sym (place_below c.args.in_order c.args.code (get nat_cmp c.args.places.now)
    (omega (arith, c.if-in_order-code.false)))
