use Rattle.std.proofs.Common.{◌∙◌, List, map, ap, sym, subst}
use Rattle.addr2line_unit.specs.ContextUnits.{ordered_ranges}
use Rattle.addr2line_unit.specs.ResolvedUnits.{ResolvedUnit, value_of_unit}
use Rattle.addr2line_lookups.specs.KeptUnits.{ReadsNoLines}
use Rattle.addr2line_lookups.specs.KeptCalls.{known_among, HoldCalls}
use Rattle.addr2line_lookups.specs.UnitParses.{check_calls_of, WalksOrNoMemory}
use Rattle.addr2line_lookups.proofs.UnitWalks.{plain_walked}
use Rattle.addr2line_lookups.proofs.units.Units.check_calls.Goals as goal

pub check_calls-requires : goal.check_calls-requires
check_calls-requires g c =
    subst (λ (us : List ResolvedUnit). HoldCalls (known_among us c.args.supplement_units.now) us) (sym c.self.view_is)
    c.requires

pub invariant_of-self : goal.invariant_of-self
invariant_of-self g c =
    let us = c.self.inside.units.items in
    c.self.invariant
    ∙ ap ordered_ranges
    (sym (plain_walked (check_calls_of (known_among us c.args.supplement_units.now)) c.check_calls.result us
    c.check_calls.new.units.items c.check_calls.ensures.walk))

pub returns-clause-walk : goal.returns-clause-walk
returns-clause-walk g c =
    subst (λ (us : List ResolvedUnit). WalksOrNoMemory (check_calls_of (known_among us c.args.supplement_units.now))
    c.check_calls.result (map value_of_unit us) (map value_of_unit c.check_calls.new.units.items)) c.self.view_is
    c.check_calls.ensures.walk

pub returns-clause-kept : goal.returns-clause-kept
returns-clause-kept g c = c.check_calls.ensures.kept

pub returns-clause-calls : goal.returns-clause-calls
returns-clause-calls g c = c.check_calls.ensures.calls

pub returns-clause-lines : goal.returns-clause-lines
returns-clause-lines g c =
    subst (λ (us : List ResolvedUnit). ReadsNoLines us c.check_calls.new.units.items) c.self.view_is
    c.check_calls.ensures.lines
