use Rattle.std.proofs.Common.{◌≡◌, ◌∙◌, ap, sym, subst, map, option_map, List, None}
use Rattle.addr2line_unit.specs.ContextUnits.{ordered_ranges}
use Rattle.addr2line_unit.specs.ResolvedUnits.{ResolvedUnit, value_of_unit}
use Rattle.addr2line_lookups.specs.KeptUnits.{ReadsNoLines, ReadsNoFunctions}
use Rattle.addr2line_lookups.specs.KeptCalls.{LeavesCalls}
use Rattle.addr2line_lookups.specs.Preloads.{load_at}
use Rattle.addr2line_lookups.specs.LoadAnswers.{AnswersOrNoMemory, answer_at}
use Rattle.addr2line_lookups.proofs.AnsweredLoads.{plain_left}
use Rattle.addr2line_lookups.proofs.units.Units.answer_at.Goals as goal

pub invariant_of-self : goal.invariant_of-self
invariant_of-self g c =
    c.self.invariant
    ∙ ap ordered_ranges
    (sym (plain_left c.self.inside.units.items c.answer_at.new.units.items c.answer_at.result c.args.number _
    c.answer_at.ensures.answer))

pub returns-clause-answer : goal.returns-clause-answer
returns-clause-answer g c =
    subst (λ (us : List ResolvedUnit). AnswersOrNoMemory c.answer_at.result (map value_of_unit us)
    (map value_of_unit c.answer_at.new.units.items)
    (answer_at (map value_of_unit us) c.args.number (option_map (λ f. f.value.file) c.args.file))) c.self.view_is
    c.answer_at.ensures.answer

pub returns-clause-calls : goal.returns-clause-calls
returns-clause-calls g c =
    subst (λ (us : List ResolvedUnit). LeavesCalls us c.answer_at.new.units.items) c.self.view_is
    c.answer_at.ensures.calls

pub returns-clause-decided : goal.returns-clause-decided
returns-clause-decided g c =
    subst (λ (us : List ResolvedUnit). load_at (map value_of_unit us) c.args.number ≡ None
    → answer_at (map value_of_unit us) c.args.number (option_map (λ f. f.value.file) c.args.file)
    ≡ (c.answer_at.result, map value_of_unit c.answer_at.new.units.items)) c.self.view_is c.answer_at.ensures.decided

pub returns-clause-lines : goal.returns-clause-lines
returns-clause-lines g c =
    subst (λ (us : List ResolvedUnit). ReadsNoLines us c.answer_at.new.units.items) c.self.view_is
    c.answer_at.ensures.lines

pub returns-clause-functions : goal.returns-clause-functions
returns-clause-functions g c =
    subst (λ (us : List ResolvedUnit). ReadsNoFunctions us c.answer_at.new.units.items) c.self.view_is
    c.answer_at.ensures.functions
