use Rattle.std.proofs.Common.{subst}
use Rattle.addr2line_lookups.specs.RangeWalks.{FindsStretch}
use Rattle.addr2line_context.specs.KeptContexts.{ResolvedContext}
use Rattle.addr2line_context.specs.LocationRanges.{left_in}
use Rattle.addr2line_context.proofs.ContextParts.{after_step, keeps_stretch}
use Rattle.addr2line_context.proofs.KeptUnits.{holds_same}
use Rattle.addr2line_context.proofs.context.Context.next_stretch.Goals as goal

pub returns-clause-stretch : goal.returns-clause-stretch
returns-clause-stretch g c =
    subst (λ (x : ResolvedContext). FindsStretch x.value.plain.context.units c.next_stretch.result
    (left_in x c.args.walk.now) (left_in x c.next_stretch.new.walk)) c.self.view_is c.next_stretch.ensures.stretch

pub returns-clause-after : goal.returns-clause-after
returns-clause-after g c =
    after_step _ _ _ _ c.self.view_is c.next_stretch.result c.args.walk.now c.next_stretch.new.walk
    c.next_stretch.new.self c.next_stretch.ensures.values c.next_stretch.ensures.cost c.next_stretch.ensures.asked
    c.next_stretch.ensures.reads c.next_stretch.ensures.functions c.next_stretch.ensures.way

pub returns-clause-free : goal.returns-clause-free
returns-clause-free g c = λ kept.
    c.next_stretch.ensures.free (keeps_stretch _ _ _ _ c.self.view_is c.args.walk.now kept)

pub invariant_of-self : goal.invariant_of-self
invariant_of-self g c =
    holds_same _ _ _ _ c.self.invariant c.next_stretch.ensures.values c.next_stretch.ensures.calls
    c.next_stretch.ensures.cost.functions
