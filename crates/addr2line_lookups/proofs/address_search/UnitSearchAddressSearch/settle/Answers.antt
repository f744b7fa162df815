use Rattle.std.proofs.Common.{◌≢◌, Err, ap, subst, ◌∙◌}
use Rattle.addr2line_unit.specs.Error.TheVariants.{Memory}
use Rattle.addr2line_lookups.specs.FramePlaces.{FindsFrames, HoldsFrames, frames_at_number}
use Rattle.addr2line_lookups.specs.KeptUnits.{KeepsFunctionsAt}
use Rattle.addr2line_lookups.proofs.SettledUnits.{ok_place, no_unit, refused_unit, has_unit}
use Rattle.addr2line_lookups.proofs.address_search.UnitSearchAddressSearch.settle.Goals as goal

pub returns-in-Some-clause-settled : goal.returns-in-Some-clause-settled
returns-in-Some-clause-settled c known a vs us found kept =
    let holds : HoldsFrames us (frames_at_number known vs a c.args.number) c.in-Some._place =
    subst (FindsFrames us (frames_at_number known vs a c.args.number))
    (c.in-Ok.is ∙ ap ok_place c.in-Some.is) found in
    has_unit known vs a c.args.number us holds.has_some (subst (λ r. r ≢ Err Memory → KeepsFunctionsAt us c.args.number)
    (c.in-Ok.is ∙ ap ok_place c.in-Some.is) kept (λ is. absurd cc))

pub returns-in-None-clause-settled : goal.returns-in-None-clause-settled
returns-in-None-clause-settled c known a vs us found kept =
    no_unit known vs a c.args.number
    (subst (FindsFrames us (frames_at_number known vs a c.args.number))
    (c.in-Ok.is ∙ ap ok_place c.in-None.is) found)

pub returns-in_default-clause-settled : goal.returns-in_default-clause-settled
returns-in_default-clause-settled c known a vs us found kept =
    refused_unit known vs a c.args.number c.in-Err.error
    (subst (FindsFrames us (frames_at_number known vs a c.args.number)) c.in-Err.is found
    (λ m. c.in_default.not-Memory m))
