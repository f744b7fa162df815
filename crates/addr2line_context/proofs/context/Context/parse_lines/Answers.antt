use Rattle.std.proofs.Common.{refl, sym, subst}
use Rattle.addr2line_lookups.specs.KeptUnits.{KeepsAsked, ReadsAsked, AsksForLines}
use Rattle.addr2line_context.specs.KeptContexts.{ResolvedContext}
use Rattle.addr2line_context.proofs.ContextParts.{after_lookup, functions_since}
use Rattle.addr2line_context.proofs.KeptUnits.{holds_same}
use Rattle.addr2line_context.proofs.context.Context.parse_lines.Goals as goal

pub returns-clause-after : goal.returns-clause-after
returns-clause-after g c =
    after_lookup _ _ _ _ c.self.view_is 0 0 c.check_lines.new.self refl c.check_lines.ensures.values
    c.check_lines.ensures.cost

pub invariant_of-self : goal.invariant_of-self
invariant_of-self g c =
    holds_same _ _ _ _ c.self.invariant c.check_lines.ensures.values c.check_lines.ensures.calls
    c.check_lines.ensures.cost.functions

pub returns-clause-asked : goal.returns-clause-asked
returns-clause-asked g c = λ answered.
    let P : ResolvedContext → Type 0 =
    λ x. KeepsAsked (AsksForLines x.value.plain.context.units) c.check_lines.new.self in
    subst P c.self.view_is (c.check_lines.ensures.asked answered)

pub returns-clause-reads : goal.returns-clause-reads
returns-clause-reads g c =
    let P : ResolvedContext → Type 0 =
    λ x. ReadsAsked (AsksForLines x.value.plain.context.units) x.units c.check_lines.new.self in
    subst P c.self.view_is c.check_lines.ensures.reads

pub returns-clause-free : goal.returns-clause-free
returns-clause-free g c = λ kept.
    let P : ResolvedContext → Type 0 = λ x. KeepsAsked (AsksForLines x.value.plain.context.units) x.units in
    c.check_lines.ensures.free (subst P (sym c.self.view_is) kept)

pub returns-clause-functions : goal.returns-clause-functions
returns-clause-functions g c =
    functions_since _ _ _ _ c.self.view_is c.check_lines.new.self c.check_lines.ensures.functions
