use Rattle.std.proofs.Common.{List, sym, subst}
use Rattle.addr2line_lookups.specs.UnitFacts.{UnitFacts}
use Rattle.addr2line_lookups.specs.KeptCalls.{known_among, HoldCalls}
use Rattle.addr2line_context.proofs.ContextParts.{value_is, looks_since, lines_since}
use Rattle.addr2line_context.proofs.ContextWalks.{of_file_calls, calls_of_context, same_plain_calls}
use Rattle.addr2line_context.proofs.KeptUnits.{frames_first, units_first, keeps_first}
use Rattle.addr2line_context.proofs.context.Context.parse_inlined_functions.Goals as goal

pub check_calls-requires : goal.check_calls-requires
check_calls-requires g c =
    subst (λ (s : List UnitFacts). HoldCalls (known_among c.self.inside.units s) c.self.inside.units)
    (sym c.as_slice.ensures.value) c.self.invariant.calls_are_kept

pub invariant_of-self : goal.invariant_of-self
invariant_of-self g c =
    let new = c.check_calls.new.self in
    let Holds : List UnitFacts → Type 0 = λ units. HoldCalls (known_among new units) new in
    record {
      are_of_file =
          of_file_calls _ _ _ c.self.invariant.are_of_file _ c.as_slice.ensures.value new _ c.check_calls.ensures.walk;
      calls_are_kept = subst Holds c.as_slice.ensures.value c.check_calls.ensures.calls;
      pass_frames = frames_first _ new _ _ c.none-self-inside.ensures;
      pass_units = units_first _ new _ _ c.none-self-inside-2.ensures;
      frames_are_kept = keeps_first _ _ new c.none-self-inside.ensures;
      units_are_kept = keeps_first _ _ new c.none-self-inside-2.ensures;
    }

pub returns-clause-calls : goal.returns-clause-calls
returns-clause-calls g c =
    calls_of_context _ _ _ c.self.invariant.are_of_file _ c.as_slice.ensures.value c.check_calls.new.self _
    c.check_calls.ensures.walk c.args.self.now.value (value_is _ _ _ _ c.self.view_is)

pub returns-clause-kept : goal.returns-clause-kept
returns-clause-kept g c = c.check_calls.ensures.kept

pub returns-clause-plain : goal.returns-clause-plain
returns-clause-plain g c =
    same_plain_calls _ _ _ c.self.invariant.are_of_file _ c.as_slice.ensures.value c.check_calls.new.self _
    c.check_calls.ensures.walk c.args.self.now.value (value_is _ _ _ _ c.self.view_is)

pub returns-clause-cost : goal.returns-clause-cost
returns-clause-cost g c = looks_since _ _ _ _ c.self.view_is 0 c.check_calls.new.self c.check_calls.ensures.cost

pub returns-clause-lines : goal.returns-clause-lines
returns-clause-lines g c = lines_since _ _ _ _ c.self.view_is c.check_calls.new.self c.check_calls.ensures.lines
