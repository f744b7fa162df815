use Rattle.std.proofs.Common.{List, map, option_map, sym, ap, ◌∙◌, subst, Ok, Option}
use Rattle.addr2line_unit.specs.Calls.{ReturnsAsOrNoMemory}
use Rattle.addr2line_unit.specs.FirstAnswers.{SplitLoad}
use Rattle.addr2line_unit.specs.NumberedRanges.{covering_ranges}
use Rattle.addr2line_unit.specs.ContextUnits.{ordered_ranges}
use Rattle.addr2line_unit.specs.ResolvedUnits.{ResolvedUnit, plain_unit, value_of_unit}
use Rattle.addr2line_lookups.specs.Preloads.{loads_at, load_at}
use Rattle.addr2line_lookups.proofs.FirstLoads.{load_of_first, no_first_load}
use Rattle.addr2line_lookups.proofs.units.Units.first_load.Goals as goal

pub returns-in-Some : goal.returns-in-Some
returns-in-Some g c =
    let us = c.args.self.now in
    let finds : Option SplitLoad → Type 0 =
    λ o. ReturnsAsOrNoMemory (option_map (λ l. l)) c.copy_load_at.result (Ok o) in
    subst finds
    (sym (load_of_first (map value_of_unit us) (covering_ranges c.args.probe (ordered_ranges (map plain_unit us)))
    c.in-Some.number c.in-Some.ensures))
    (subst
    (λ (xs : List ResolvedUnit). finds (option_map (λ p. p.load) (load_at (map value_of_unit xs) c.in-Some.number)))
    (c.as_slice.ensures.value ∙ c.self.view_is) c.copy_load_at.ensures)

pub returns-in-None : goal.returns-in-None
returns-in-None g c =
    let us = c.args.self.now in
    ap Ok
    (no_first_load (loads_at (map value_of_unit us) (covering_ranges c.args.probe (ordered_ranges (map plain_unit us))))
    c.in-None.ensures)
