use Rattle.std.proofs.Common.{subst, map, None, Ok}
use Rattle.addr2line_lookups.specs.ResolvedUnits.{value_of_unit}
use Rattle.addr2line_lookups.specs.UnitLookups.{FoundUnit, SettlesUnit, unit_at_number}
use Rattle.addr2line_context.specs.SettledLookups.{unit_in}
use Rattle.addr2line_context.specs.ContextCosts.{unit_search}
use Rattle.addr2line_lookups.proofs.AskedFunctions.{is_value}
use Rattle.addr2line_context.proofs.FoundRows.{same_refusal}
use Rattle.addr2line_context.proofs.ResumedLookups.{with_memory}
use Rattle.addr2line_context.proofs.unit_loads.settle_unit.Goals as goal

pub returns-in-Ok-Waits-clause-settles : goal.returns-in-Ok-Waits-clause-settles
returns-in-Ok-Waits-clause-settles g c =
    subst (λ o. SettlesUnit (map value_of_unit c.settle_unit.new.self.units) c.settle_unit.new.self.units
    (unit_in c.args.context.now.value c.args.probe) (Ok o))
    c.in-Ok-Waits.field-0-is c.in-Ok-Waits.ensures.found

pub returns-in-Ok-Nothing-clause-settles : goal.returns-in-Ok-Nothing-clause-settles
returns-in-Ok-Nothing-clause-settles g c =
    let none =
    subst (λ o. SettlesUnit (map value_of_unit c.settle_unit.new.self.units) c.settle_unit.new.self.units
    (unit_in c.args.context.now.value c.args.probe) (Ok o))
    c.in-Ok-Nothing.field-0-is c.in-Ok-Nothing.ensures.found in ((None, none), none)

pub returns-in-Ok-Found-clause-settles : goal.returns-in-Ok-Found-clause-settles
returns-in-Ok-Found-clause-settles g c =
    let us = c.settle_unit.new.self.units in
    let vs = map value_of_unit us in
    let meaning = unit_in c.args.context.now.value c.args.probe in
    let found : FoundUnit vs us meaning c.in-Ok-Found.number =
    subst (λ o. SettlesUnit vs us meaning (Ok o)) c.in-Ok-Found.field-0-is c.in-Ok-Found.ensures.found in
    ((unit_at_number vs c.in-Ok-Found.number, found.is_found), found)

pub returns-in-Ok-Waits-clause-after : goal.returns-in-Ok-Waits-clause-after
returns-in-Ok-Waits-clause-after g c =
    with_memory unit_search _ _ c.args.probe c.args.context.now _ (λ has. is_value _) c.in-Ok-Waits.ensures.after

pub returns-in-Ok-Nothing-clause-after : goal.returns-in-Ok-Nothing-clause-after
returns-in-Ok-Nothing-clause-after g c =
    with_memory unit_search _ _ c.args.probe c.args.context.now _ (λ has. is_value _) c.in-Ok-Nothing.ensures.after

pub returns-in-Ok-Found-clause-after : goal.returns-in-Ok-Found-clause-after
returns-in-Ok-Found-clause-after g c =
    with_memory unit_search _ _ c.args.probe c.args.context.now _ (λ has. is_value _) c.in-Ok-Found.ensures.after

pub returns-in-Err-clause-after : goal.returns-in-Err-clause-after
returns-in-Err-clause-after g c =
    with_memory unit_search _ _ c.args.probe c.args.context.now _ (same_refusal _) c.in-Err.ensures.after
