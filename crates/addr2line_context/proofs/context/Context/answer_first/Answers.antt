use Rattle.std.proofs.Common.{inl, option_map, sym, ◌∙◌}
use Rattle.addr2line_lookups.proofs.AnsweredLoads.{file_left, plain_left}
use Rattle.addr2line_lookups.proofs.UnitProbes.{looks_none}
use Rattle.addr2line_lookups.proofs.PassedUnits.{decided_same}
use Rattle.addr2line_context.proofs.ContextParts.{value_is, looks_since, lines_since, functions_since}
use Rattle.addr2line_context.proofs.KeptUnits.{holds_after, loads_pending}
use Rattle.addr2line_context.proofs.FirstLoads.{none_answered, none_fewer, answer_left, answered_ok, answered_refusal, answered_fewer}
use Rattle.addr2line_context.proofs.context.Context.answer_first.Goals as goal

pub returns : goal.returns
returns g c =
    let of_file = c.self.invariant.are_of_file in
    let a = c.args.probe in
    let is = value_is _ _ _ _ c.self.view_is in
    let n = c.in-Some.number in
    let first = c.in-Some.ensures in
    let new = c.answer_at-answered.new.self in
    let h = c.answer_at-answered.ensures.answer in
    let r = c.memory_alone.result in
    let alone = c.memory_alone.ensures in
    record {
      ok = answered_ok _ _ _ of_file a _ is _ n first new _ h r alone;
      fewer = answered_fewer _ _ _ of_file a _ is _ n first new _ h r alone;
      left = answer_left _ _ _ of_file a _ is _ n first new _ h;
      refusal = answered_refusal _ _ _ of_file a _ is _ n first new _ h r alone;
      cost = looks_since _ _ _ _ c.self.view_is 0 new c.answer_at-answered.ensures.cost;
      lines = lines_since _ _ _ _ c.self.view_is new c.answer_at-answered.ensures.lines;
      functions = functions_since _ _ _ _ c.self.view_is new c.answer_at-answered.ensures.functions;
    }

pub returns-in_default : goal.returns-in_default
returns-in_default g c =
    let of_file = c.self.invariant.are_of_file in
    let is = value_is _ _ _ _ c.self.view_is in
    let answer = option_map (λ f. f.value.file) c.args.file in
    let first = sym c.in_default.is ∙ c.first_waiting.ensures in
    let same = none_answered _ _ _ of_file c.args.probe _ is answer first in
    record {
      ok = same;
      fewer = none_fewer _ _ _ of_file c.args.probe _ is answer first;
      left = inl same;
      refusal = tt;
      cost = looks_none 0 _;
      lines = λ number kept. kept;
      functions = λ number kept. kept;
    }

pub invariant_of-self : goal.invariant_of-self
invariant_of-self g c =
    let us = c.self.inside.units in
    let vs = c.answer_at-answered.new.self in
    let answered = c.answer_at-answered.result in
    let h = c.answer_at-answered.ensures.answer in
    holds_after _ _ us vs c.self.invariant (plain_left us vs answered _ _ h)
    (file_left us vs answered _ _ h c.self.inside.sections.value.file c.self.invariant.are_of_file)
    c.answer_at-answered.ensures.calls c.answer_at-answered.ensures.cost.functions (decided_same _ _ _ _ answered h)

pub first_waiting-requires : goal.first_waiting-requires
first_waiting-requires g c = loads_pending _ _ _ c.self.invariant c.args.probe _ c.furthest_for-from.ensures
