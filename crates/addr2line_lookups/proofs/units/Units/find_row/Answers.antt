use Rattle.std.proofs.Common.{◌∙◌, List, map, ap, sym, subst}
use Rattle.addr2line_unit.specs.ContextUnits.{ordered_ranges}
use Rattle.addr2line_unit.specs.ResolvedUnits.{ResolvedUnit, plain_unit}
use Rattle.addr2line_lookups.specs.KeptCalls.{LeavesCalls}
use Rattle.addr2line_lookups.proofs.KeptLines.{same_plain}
use Rattle.addr2line_unit.specs.UnitRange.{UnitRange}
use Rattle.addr2line_unit.specs.NumberedRanges.{covering_ranges}
use Rattle.addr2line_lookups.specs.KeptUnits.{KeepsAsked, ReadsAsked, AsksAmong, AsksForRow, ReadsNoFunctions}
use Rattle.addr2line_lookups.specs.LookupCosts.{AtMostLooks}
use Rattle.addr2line_lookups.proofs.LookupProbes.{row_probes_among}
use Rattle.addr2line_lookups.proofs.units.Units.find_row.Goals as goal

pub invariant_of-self : goal.invariant_of-self
invariant_of-self g c =
    c.self.invariant
    ∙ ap ordered_ranges
    (sym (same_plain c.find_row.new.units.items c.self.inside.units.items c.find_row.ensures.values))

pub returns-clause-calls : goal.returns-clause-calls
returns-clause-calls g c =
    subst (λ (us : List ResolvedUnit). LeavesCalls us c.find_row.new.units.items) c.self.view_is
    c.find_row.ensures.calls

pub returns-clause-cost : goal.returns-clause-cost
returns-clause-cost g c =
    let us = c.self.inside.units.items in
    let a = c.args.probe in
    let looks : List ResolvedUnit → List UnitRange → Type 0 =
    λ us rs. AtMostLooks (row_probes_among us a (covering_ranges a rs)) us c.find_row.new.units.items in
    subst (λ (us : List ResolvedUnit). looks us (ordered_ranges (map plain_unit us))) c.self.view_is
    (subst (looks us) c.self.invariant c.find_row.ensures.cost)

pub returns-clause-free : goal.returns-clause-free
returns-clause-free g c = λ kept.
    let us = c.self.inside.units.items in
    let a = c.args.probe in
    let P : List UnitRange → Type 0 =
    λ rs. KeepsAsked (AsksAmong (map plain_unit us) a (covering_ranges a rs)) us in
    let Q : List ResolvedUnit → Type 0 = λ vs. KeepsAsked (AsksForRow (map plain_unit vs) a) vs in
    c.find_row.ensures.free (subst P (sym c.self.invariant) (subst Q (sym c.self.view_is) kept))

pub returns-clause-asked : goal.returns-clause-asked
returns-clause-asked g c = λ answered.
    let us = c.self.inside.units.items in
    let new = c.find_row.new.units.items in
    let a = c.args.probe in
    let P : List UnitRange → Type 0 =
    λ rs. KeepsAsked (AsksAmong (map plain_unit us) a (covering_ranges a rs)) new in
    let Q : List ResolvedUnit → Type 0 = λ vs. KeepsAsked (AsksForRow (map plain_unit vs) a) new in
    subst Q c.self.view_is (subst P c.self.invariant (c.find_row.ensures.asked answered))

pub returns-clause-reads : goal.returns-clause-reads
returns-clause-reads g c =
    let us = c.self.inside.units.items in
    let new = c.find_row.new.units.items in
    let a = c.args.probe in
    let P : List UnitRange → Type 0 =
    λ rs. ReadsAsked (AsksAmong (map plain_unit us) a (covering_ranges a rs)) us new in
    let Q : List ResolvedUnit → Type 0 = λ vs. ReadsAsked (AsksForRow (map plain_unit vs) a) vs new in
    subst Q c.self.view_is (subst P c.self.invariant c.find_row.ensures.reads)

pub returns-clause-functions : goal.returns-clause-functions
returns-clause-functions g c =
    subst (λ (us : List ResolvedUnit). ReadsNoFunctions us c.find_row.new.units.items) c.self.view_is
    c.find_row.ensures.functions
