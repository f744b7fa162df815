use Rattle.std.proofs.Common.{ap, inl, option_map}
use Rattle.addr2line_unit.specs.ResolvedUnits.{ResolvedUnit}
use Rattle.addr2line_lookups.proofs.AnsweredLoads.{answer_without_load}
use Rattle.addr2line_lookups.proofs.CallsLeft.{leaves_answer}
use Rattle.addr2line_lookups.proofs.KeptFunctionLists.{functions_same}
use Rattle.addr2line_lookups.proofs.UnitProbes.{looks_nowhere}
use Rattle.addr2line_lookups.proofs.load_answers.record_answer.Goals as goal

pub returns-clause-calls : goal.returns-clause-calls
returns-clause-calls g c =
    leaves_answer c.args.unit.now c.record_answer.new.self c.in_ok-answer.answer c.record_answer.ensures.value
    (ap (λ (u : ResolvedUnit). u.calls) c.record_answer.ensures.kept) c.record_answer.ensures.functions

pub returns-clause-cost : goal.returns-clause-cost
returns-clause-cost g c =
    let kept = c.record_answer.ensures.kept in
    looks_nowhere c.args.unit.now c.record_answer.new.self (ap (λ (u : ResolvedUnit). u.probes) kept)
    (ap (λ (u : ResolvedUnit). u.runs) kept)
    (ap (λ (u : ResolvedUnit). u.keeps_lines) kept)
    (functions_same c.args.unit.now c.record_answer.new.self (ap (λ (u : ResolvedUnit). u.keeps_functions) kept)
    (ap (λ (u : ResolvedUnit). u.calls) kept))

pub returns-clause-lines : goal.returns-clause-lines
returns-clause-lines g c = ap (λ (u : ResolvedUnit). u.keeps_lines) c.record_answer.ensures.kept

pub returns-clause-functions : goal.returns-clause-functions
returns-clause-functions g c = ap (λ (u : ResolvedUnit). u.keeps_functions) c.record_answer.ensures.kept

-- ---- a unit without a load

pub returns-in_default-clause-answer : goal.returns-in_default-clause-answer
returns-in_default-clause-answer g c =
    inl (answer_without_load c.args.unit.now.value (option_map (λ f. f.value.file) c.args.file) c.check_unit.result
    c.in_default.ensures c.check_unit.ensures)
