use Rattle.std.proofs.Common.{◌∙◌, List, map, ap, sym, subst}
use Rattle.addr2line_unit.specs.ContextUnits.{ordered_ranges}
use Rattle.addr2line_unit.specs.ResolvedUnits.{ResolvedUnit, value_of_unit}
use Rattle.addr2line_lookups.specs.KeptUnits.{ReadsNoLines}
use Rattle.addr2line_lookups.specs.KeptCalls.{LeavesCalls}
use Rattle.addr2line_lookups.specs.UnitParses.{check_functions_of, WalksOrNoMemory}
use Rattle.addr2line_lookups.proofs.UnitWalks.{plain_walked}
use Rattle.addr2line_lookups.proofs.units.Units.check_functions.Goals as goal

pub invariant_of-self : goal.invariant_of-self
invariant_of-self g c =
    c.self.invariant
    ∙ ap ordered_ranges
    (sym (plain_walked check_functions_of c.check_functions.result c.self.inside.units.items
    c.check_functions.new.units.items c.check_functions.ensures.walk))

pub returns-clause-walk : goal.returns-clause-walk
returns-clause-walk g c =
    subst (λ (us : List ResolvedUnit). WalksOrNoMemory check_functions_of c.check_functions.result
    (map value_of_unit us) (map value_of_unit c.check_functions.new.units.items)) c.self.view_is
    c.check_functions.ensures.walk

pub returns-clause-kept : goal.returns-clause-kept
returns-clause-kept g c = c.check_functions.ensures.kept

pub returns-clause-calls : goal.returns-clause-calls
returns-clause-calls g c =
    subst (λ (us : List ResolvedUnit). LeavesCalls us c.check_functions.new.units.items) c.self.view_is
    c.check_functions.ensures.calls

pub returns-clause-lines : goal.returns-clause-lines
returns-clause-lines g c =
    subst (λ (us : List ResolvedUnit). ReadsNoLines us c.check_functions.new.units.items) c.self.view_is
    c.check_functions.ensures.lines
