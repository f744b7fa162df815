-- Calls that read lines alone.
use Rattle.std.proofs.Common.{◌≡◌, ℕ, ◌<◌, List, length, get_or, set, refl, ap, ◌∙◌}
use Rattle.addr2line_unit.specs.ResolvedUnits.{ResolvedUnit, KeepsLines, value_of_unit}
use Rattle.addr2line_lookups.specs.LookupCosts.{ReadsLines}
use Rattle.addr2line_lookups.proofs.CallsLeft.{leaves_none, leaves_both, leaves_value}
use Rattle.addr2line_lookups.proofs.CallsOfUnits.{leaves_calls}
use Rattle.addr2line_lookups.proofs.KeptFunctionLists.{functions_same, no_functions_none, no_functions_both, no_functions_set}
use Rattle.addr2line_lookups.proofs.UnitProbes.{looks_none, looks_after, looks_set, looks_same}
use Rattle.addr2line_lookups.proofs.UnitRows.{same_values}

-- none are
pub lines_none : (us : List ResolvedUnit) → ReadsLines us us
lines_none us =
    record { values = refl; calls = leaves_none us; cost = looks_none 0 us; functions = no_functions_none us }

-- one call after the other
pub lines_both : {us vs ws : List ResolvedUnit} → ReadsLines us vs → ReadsLines vs ws → ReadsLines us ws
lines_both {us} {vs} {ws} first then = record {
  values = then.values ∙ first.values;
  calls = leaves_both us vs ws first.calls then.calls;
  cost = looks_after 0 us vs ws first.cost then.cost;
  functions = no_functions_both us vs ws first.functions then.functions;
}

-- those of one unit, which is put back
pub lines_set : (us : List ResolvedUnit) (n : ℕ) (u new : ResolvedUnit) → n < length us → u ≡ get_or us n u
    → new ≡ record u { keeps_lines = new.keeps_lines } → (KeepsLines u → KeepsLines new) → ReadsLines us (set us n new)
lines_set us n u new below is read more =
    let value = ap value_of_unit read in
    let calls = ap (λ (x : ResolvedUnit). x.calls) read in
    let functions = ap (λ (x : ResolvedUnit). x.keeps_functions) read in
    let probes = ap (λ (x : ResolvedUnit). x.probes) read in
    let runs = ap (λ (x : ResolvedUnit). x.runs) read in
    record {
      values = same_values us n u new is value;
      calls = leaves_calls us n u below is new (leaves_value u new value calls);
      cost =
          looks_set us n u below is new 0
          (looks_same u new probes runs more (functions_same u new functions calls));
      functions = no_functions_set us n u is new functions;
    }
