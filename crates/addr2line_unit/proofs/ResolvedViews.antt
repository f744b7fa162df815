-- A unit as contracts see it, after functions or calls were kept.
use Rattle.std.proofs.Common.{◌≡◌, ◌≢◌, ℕ, ◌<◌, Bool, true, false, cond, List, length, map, Option, Some, None, is_some, option_map, Result, Ok, Err, IfOk, IfSome, OnOk, sym, ap, ◌∙◌, arith}
use Rattle.std.proofs.lemmas.List.{length-map}
use Rattle.addr2line_functions.specs.Error.{Error}
use Rattle.addr2line_functions.specs.Error.TheVariants.{Memory}
use Rattle.addr2line_functions.specs.Calls.{ReturnsAsOrNoMemory}
use Rattle.addr2line_functions.specs.Range.{Range}
use Rattle.addr2line_functions.specs.UnitLines.{lines_of_unit}
use Rattle.addr2line_functions.specs.FirstAnswers.{FirstAnswer}
use Rattle.addr2line_functions.specs.InlinedCalls.{FunctionCalls}
use Rattle.addr2line_functions.specs.CountedFunctions.{CountedFunctions, CountedCalls}
use Rattle.addr2line_root.specs.CountedRuns.{CountedUnit}
use Rattle.addr2line_root.specs.ProbedLists.{ProbeCount}
use Rattle.addr2line_unit.specs.KeptFunctions.{KeptFunctions, plain_functions, plain_calls, count_of_functions, function_count, calls_of_none, functions_read, calls_read}
use Rattle.addr2line_unit.specs.ResolvedUnits.{AnsweredUnit, ResolvedUnit, functions_of, with_functions, with_calls}
use Rattle.addr2line_unit.proofs.FunctionParses.{functions_are_read, plain_calls_read, plain_calls_of_none}

-- what is seen of a unit
abbrev pub seen : AnsweredUnit → Bool → ℕ → KeptFunctions → ProbeCount → List ℕ → ResolvedUnit
seen v keeps_lines runs k probes chain = record {
  value = v;
  keeps_lines = keeps_lines;
  runs = runs;
  keeps_functions = is_some k.functions;
  calls = map (option_map plain_calls) k.calls;
  probes = probes;
  chain = chain;
}

-- the same of a unit with its counter
abbrev pub seen_unit : CountedUnit → List Range → Option ℕ → Option FirstAnswer → Bool → KeptFunctions → ProbeCount
    → List ℕ → ResolvedUnit
seen_unit u ranges language first keeps_lines k probes chain =
    seen (record {
      file = u.unit.file;
      unit = record {
        facts = u.unit.facts;
        ranges = ranges;
        language = language;
        lines = lines_of_unit u.unit;
      };
      first = first;
    }) keeps_lines u.runs.name k probes chain

-- it is seen so whether it is kept whole or not
pub same_seen : (u w : CountedUnit) (ranges : List Range) (language : Option ℕ) (first : Option FirstAnswer)
    (keeps_lines : Bool) (k : KeptFunctions) (probes : ProbeCount) (chain : List ℕ) (v : ResolvedUnit) → w ≡ u
    → seen_unit u ranges language first keeps_lines k probes chain ≡ v
    → seen_unit w ranges language first keeps_lines k probes chain ≡ v
same_seen u w ranges language first keeps_lines k probes chain v same view =
    ap (λ (x : CountedUnit). seen_unit x ranges language first keeps_lines k probes chain) same ∙ view

-- with other calls
abbrev with_all_calls : AnsweredUnit → Bool → ℕ → Bool → ProbeCount → List ℕ
    → List (Option (Result FunctionCalls Error)) → ResolvedUnit
with_all_calls v keeps_lines runs keeps_functions probes chain calls = record {
  value = v;
  keeps_lines = keeps_lines;
  runs = runs;
  keeps_functions = keeps_functions;
  calls = calls;
  probes = probes;
  chain = chain;
}

module _ (v : AnsweredUnit) (keeps_lines : Bool) (runs : ℕ) (k new : KeptFunctions) (probes : ProbeCount)
    (chain : List ℕ) (u : ResolvedUnit) where
  functions_seen : (read : Result CountedFunctions Error) → new ≡ functions_read read
      → plain_functions read ≡ functions_of v → is_some k.functions ≡ false
      → seen v keeps_lines runs k probes chain ≡ u
      → seen v keeps_lines runs new probes chain ≡ with_functions u
  functions_seen read is same none view =
      ap (λ x. seen v keeps_lines runs x probes chain) is
      ∙ ap (with_all_calls v keeps_lines runs true probes chain)
      (plain_calls_of_none (function_count (Some read)) ∙ ap (λ r. calls_of_none (count_of_functions r)) same)
      ∙ sym (ap (λ b. cond b (seen v keeps_lines runs k probes chain)
      (with_all_calls v keeps_lines runs true probes chain (calls_of_none (count_of_functions (functions_of v))))) none)
      ∙ ap with_functions view

  -- after functions were kept, unless that was out of memory
  pub with_functions_after : (read : Result CountedFunctions Error) (r : Result (Unit {0}) Error)
      → OnOk r (new ≡ functions_read read) → OnOk r (read ≢ Err Memory)
      → ReturnsAsOrNoMemory (λ (f : CountedFunctions). f.functions) read (functions_of v)
      → is_some k.functions ≡ false → seen v keeps_lines runs k probes chain ≡ u
      → OnOk r (seen v keeps_lines runs new probes chain ≡ with_functions u)
  with_functions_after read (Ok x) is not h none view =
      functions_seen read is (functions_are_read read (functions_of v) h not) none view
  with_functions_after read (Err e) is not h none view = tt

  -- after calls were
  pub with_calls_after : (number : ℕ) (read : Result CountedCalls Error) (r : Result (Unit {0}) Error)
      → OnOk r (new ≡ calls_read k number read) → seen v keeps_lines runs k probes chain ≡ u
      → OnOk r (seen v keeps_lines runs new probes chain ≡ with_calls u number (plain_calls read))
  with_calls_after number read (Ok x) is view =
      ap (λ y. seen v keeps_lines runs y probes chain) is
      ∙ ap (with_all_calls v keeps_lines runs (is_some k.functions) probes chain) (plain_calls_read k number read)
      ∙ ap (λ y. with_calls y number (plain_calls read)) view
  with_calls_after number read (Err e) is view = tt

-- a number that is below that of the calls
pub below_calls : (k : KeptFunctions) (r : Result (Option ℕ) Error)
    → IfOk r (λ o. IfSome o (λ n. n < length k.calls))
    → IfOk r (λ o. IfSome o (λ n. n < length (map (option_map plain_calls) k.calls)))
below_calls k (Err e) h = tt
below_calls k (Ok None) h = tt
below_calls k (Ok (Some n)) h = let same = length-map k.calls (option_map plain_calls) in omega (arith, h, same)
