use Rattle.std.proofs.Common.{Ok, None, ap}
use Rattle.addr2line_unit.specs.ResolvedUnits.{ResolvedUnit}
use Rattle.addr2line_lookups.proofs.CallsLeft.{leaves_answer}
use Rattle.addr2line_lookups.proofs.UnitCalls.{decided_after_answer}
use Rattle.addr2line_lookups.proofs.KeptFunctionLists.{functions_same}
use Rattle.addr2line_lookups.proofs.UnitProbes.{looks_nowhere}
use Rattle.addr2line_lookups.proofs.parsing_functions.skip_load.Goals as goal

pub returns : goal.returns
returns g c =
    let old = c.args.unit.now in
    let new = c.record_answer.new.self in
    record {
      value = c.record_answer.ensures.value;
      load = decided_after_answer old new (Ok None) c.record_answer.ensures.value;
      calls =
          leaves_answer old new (Ok None) c.record_answer.ensures.value
          (ap (λ (u : ResolvedUnit). u.calls) c.record_answer.ensures.kept) c.record_answer.ensures.functions;
      cost =
          looks_nowhere old new (ap (λ (u : ResolvedUnit). u.probes) c.record_answer.ensures.kept)
          (ap (λ (u : ResolvedUnit). u.runs) c.record_answer.ensures.kept)
          (ap (λ (u : ResolvedUnit). u.keeps_lines) c.record_answer.ensures.kept)
          (functions_same old new (ap (λ (u : ResolvedUnit). u.keeps_functions) c.record_answer.ensures.kept)
          (ap (λ (u : ResolvedUnit). u.calls) c.record_answer.ensures.kept));
      lines = ap (λ (u : ResolvedUnit). u.keeps_lines) c.record_answer.ensures.kept;
    }
