use Rattle.std.proofs.Common.{◌∙◌, ◌+◌, List, ap, sym, subst, map}
use Rattle.addr2line_unit.specs.UnitRange.{UnitRange}
use Rattle.addr2line_unit.specs.ContextUnits.{unit_places, ordered_ranges}
use Rattle.addr2line_unit.specs.ResolvedUnits.{ResolvedUnit, plain_unit}
use Rattle.addr2line_lookups.specs.KeptUnits.{KeepsAsked, ReadsAsked, ReadsNoFunctions}
use Rattle.addr2line_lookups.specs.KeptCalls.{LeavesCalls}
use Rattle.addr2line_lookups.specs.LookupCosts.{TakesLooks}
use Rattle.addr2line_lookups.specs.RangeWalks.{FindsStretch, walk_left, stretches_left, walk_looks, AsksForStretch, StaysOnItsWay}
use Rattle.addr2line_lookups.proofs.KeptLines.{same_plain}
use Rattle.addr2line_lookups.proofs.units.Units.next_stretch.Goals as goal

pub invariant_of-self : goal.invariant_of-self
invariant_of-self g c =
    c.self.invariant
    ∙ ap ordered_ranges
    (sym (same_plain c.next_stretch.new.units.items c.self.inside.units.items c.next_stretch.ensures.change.values))

pub returns-clause-stretch : goal.returns-clause-stretch
returns-clause-stretch g c =
    let old = c.args.walk.now in
    let new = c.next_stretch.new.walk in
    let units = map plain_unit c.self.inside.units.items in
    let us = map unit_places units in
    subst (λ (xs : List ResolvedUnit). FindsStretch (map plain_unit xs) c.next_stretch.result
    (stretches_left (map plain_unit xs) old) (stretches_left (map plain_unit xs) new)) c.self.view_is
    (subst (λ (rs : List UnitRange). FindsStretch units c.next_stretch.result (walk_left us rs old)
    (walk_left us rs new)) c.self.invariant c.next_stretch.ensures.stretch)

pub returns-clause-calls : goal.returns-clause-calls
returns-clause-calls g c =
    subst (λ (us : List ResolvedUnit). LeavesCalls us c.next_stretch.new.units.items) c.self.view_is
    c.next_stretch.ensures.change.calls

pub returns-clause-cost : goal.returns-clause-cost
returns-clause-cost g c =
    let old = c.args.walk.now in
    let new = c.next_stretch.new.walk in
    let takes : List ResolvedUnit → List UnitRange → Type 0 =
    λ us rs.
    TakesLooks (walk_looks (map plain_unit us) rs old + 3) (walk_looks (map plain_unit us) rs new) us
    c.next_stretch.new.units.items in
    subst (λ (us : List ResolvedUnit). takes us (ordered_ranges (map plain_unit us))) c.self.view_is
    (subst (takes c.self.inside.units.items) c.self.invariant c.next_stretch.ensures.change.cost)

pub returns-clause-asked : goal.returns-clause-asked
returns-clause-asked g c = λ answered.
    let w = c.args.walk.now in
    let new = c.next_stretch.new.units.items in
    let keeps : List ResolvedUnit → List UnitRange → Type 0 =
    λ us rs. KeepsAsked (AsksForStretch (map unit_places (map plain_unit us)) rs w) new in
    subst (λ (us : List ResolvedUnit). keeps us (ordered_ranges (map plain_unit us))) c.self.view_is
    (subst (keeps c.self.inside.units.items) c.self.invariant (c.next_stretch.ensures.asked answered))

pub returns-clause-reads : goal.returns-clause-reads
returns-clause-reads g c =
    let w = c.args.walk.now in
    let new = c.next_stretch.new.units.items in
    let reads : List ResolvedUnit → List UnitRange → Type 0 =
    λ us rs. ReadsAsked (AsksForStretch (map unit_places (map plain_unit us)) rs w) us new in
    subst (λ (us : List ResolvedUnit). reads us (ordered_ranges (map plain_unit us))) c.self.view_is
    (subst (reads c.self.inside.units.items) c.self.invariant c.next_stretch.ensures.reads)

pub returns-clause-free : goal.returns-clause-free
returns-clause-free g c = λ kept.
    let w = c.args.walk.now in
    let keeps : List ResolvedUnit → List UnitRange → Type 0 =
    λ us rs. KeepsAsked (AsksForStretch (map unit_places (map plain_unit us)) rs w) us in
    c.next_stretch.ensures.free
    (subst (keeps c.self.inside.units.items) (sym c.self.invariant)
    (subst (λ (us : List ResolvedUnit). keeps us (ordered_ranges (map plain_unit us))) (sym c.self.view_is) kept))

pub returns-clause-way : goal.returns-clause-way
returns-clause-way g c =
    let way : List UnitRange → Type 0 = λ rs. StaysOnItsWay rs c.args.walk.now c.next_stretch.new.walk in
    subst (λ (us : List ResolvedUnit). way (ordered_ranges (map plain_unit us))) c.self.view_is
    (subst way c.self.invariant c.next_stretch.ensures.way)

pub returns-clause-functions : goal.returns-clause-functions
returns-clause-functions g c =
    subst (λ (us : List ResolvedUnit). ReadsNoFunctions us c.next_stretch.new.units.items) c.self.view_is
    c.next_stretch.ensures.change.functions
