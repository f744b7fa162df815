use Rattle.std.proofs.Common.{◌∙◌, List, map, ap, sym, subst}
use Rattle.addr2line_unit.specs.ContextUnits.{ordered_ranges}
use Rattle.addr2line_unit.specs.ResolvedUnits.{ResolvedUnit, plain_unit}
use Rattle.addr2line_lookups.specs.KeptCalls.{LeavesCalls}
use Rattle.addr2line_lookups.specs.KeptUnits.{KeepsAsked, ReadsAsked, AsksForLines, ReadsNoFunctions}
use Rattle.addr2line_lookups.proofs.KeptLines.{same_plain}
use Rattle.addr2line_lookups.proofs.units.Units.check_lines.Goals as goal

pub invariant_of-self : goal.invariant_of-self
invariant_of-self g c =
    c.self.invariant
    ∙ ap ordered_ranges
    (sym (same_plain c.check_lines.new.units.items c.self.inside.units.items c.check_lines.ensures.change.values))

pub returns-clause-calls : goal.returns-clause-calls
returns-clause-calls g c =
    subst (λ (us : List ResolvedUnit). LeavesCalls us c.check_lines.new.units.items) c.self.view_is
    c.check_lines.ensures.change.calls

pub returns-clause-asked : goal.returns-clause-asked
returns-clause-asked g c = λ answered.
    let Q : List ResolvedUnit → Type 0 =
    λ us. KeepsAsked (AsksForLines (map plain_unit us)) c.check_lines.new.units.items in
    subst Q c.self.view_is (c.check_lines.ensures.asked answered)

pub returns-clause-reads : goal.returns-clause-reads
returns-clause-reads g c =
    let Q : List ResolvedUnit → Type 0 =
    λ us. ReadsAsked (AsksForLines (map plain_unit us)) us c.check_lines.new.units.items in
    subst Q c.self.view_is c.check_lines.ensures.reads

pub returns-clause-free : goal.returns-clause-free
returns-clause-free g c = λ kept.
    let Q : List ResolvedUnit → Type 0 = λ us. KeepsAsked (AsksForLines (map plain_unit us)) us in
    c.check_lines.ensures.free (subst Q (sym c.self.view_is) kept)

pub returns-clause-functions : goal.returns-clause-functions
returns-clause-functions g c =
    subst (λ (us : List ResolvedUnit). ReadsNoFunctions us c.check_lines.new.units.items) c.self.view_is
    c.check_lines.ensures.change.functions
