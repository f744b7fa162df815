-- What is kept of a unit is what the definitions say.
use Rattle.std.proofs.Common.{◌≡◌, ◌≢◌, ℕ, ◌+◌, List, Bool, true, false, Option, Some, None, is_some, Result, Ok, Err, refl, sym, ap, subst, ◌∙◌, arith}
use Rattle.std.specs.Prelude.{MatchOption, OnOk, OnErr}
use Rattle.addr2line_functions.specs.Error.{Error}
use Rattle.addr2line_functions.specs.Error.TheVariants.{Memory}
use Rattle.addr2line_functions.specs.Calls.{Returns, ReturnsOrNoMemory}
use Rattle.addr2line_functions.specs.OptionalValues.{if_any}
use Rattle.addr2line_functions.specs.UnitFacts.{UnitInFile}
use Rattle.addr2line_functions.specs.EntryReferences.{HoldingUnit}
use Rattle.addr2line_functions.specs.CountedFunctions.{CountedCalls}
use Rattle.addr2line_functions.specs.Range.{Range}
use Rattle.addr2line_functions.specs.UnitLines.{lines_of_unit}
use Rattle.addr2line_functions.specs.UnitRanges.{ranges_of_lines}
use Rattle.addr2line_root.specs.CountedRuns.{CountedUnit, runs_for_lines, without_runs, after_run}
use Rattle.addr2line_root.specs.LineIndexes.{CountedLines, counted_lines}
use Rattle.addr2line_root.specs.MainUnits.{MainUnit}
use Rattle.addr2line_root.specs.RootRanges.{RunsForRanges}
use Rattle.addr2line_functions.specs.FirstAnswers.{SplitLoad, FirstAnswer, load_of, load_of_id}
use Rattle.addr2line_unit.specs.KeptFunctions.{KeptFunctions, nothing_kept, calls_read}
use Rattle.addr2line_unit.specs.ResolvedUnits.{ResolvedUnit, main_unit, decided, first_answer, unit_of_functions, IsKeptOf, if_kept, runs_if_kept, KeepsFunctions, KeepsParses}
use Rattle.addr2line_unit.proofs.FunctionParses.{keeps_nothing}

-- what is kept is there, or isn't
pub kept_is : {A : Type 0} (x : A) (k : Option A) → IsKeptOf x k → k ≡ if_kept (is_some k) x
kept_is x None h = refl
kept_is x (Some y) h = ap Some h

-- the unit that has the functions, by the load that is kept
pub unit_by_load : (v : ResolvedUnit) (u : UnitInFile) (load : Result (Option SplitLoad) Error)
    (first : Option FirstAnswer) (d : FirstAnswer)
    → unit_of_functions u (decided (load_of u) first) ≡ unit_of_functions (main_unit v.value) (first_answer v.value)
    → load ≡ load_of u → decided load first ≡ d
    → unit_of_functions (main_unit v.value) (first_answer v.value) ≡ unit_of_functions u d
unit_by_load v u load first d view is h =
    sym view ∙ ap (λ l. unit_of_functions u (decided l first)) (sym is) ∙ ap (unit_of_functions u) h

-- the same unit
pub of_same_unit : (P : Result HoldingUnit Error → Type 0) (u v : UnitInFile) (d : FirstAnswer) → u ≡ v
    → P (unit_of_functions u d) → P (unit_of_functions v d)
of_same_unit P u v d same h = subst (λ (w : UnitInFile). P (unit_of_functions w d)) same h

-- other functions
pub keeps_functions : (u : MainUnit) (load : Result (Option SplitLoad) Error) (first : Option FirstAnswer)
    (lines : Option (Result CountedLines Error)) (old new : KeptFunctions) (counter : ℕ)
    → KeepsParses u load first lines old counter → KeepsFunctions u.counted.unit load first new counter
    → (is_some new.functions ≡ true → u.is_whole ≡ true)
    → KeepsParses u load first lines new counter
keeps_functions u load first lines old new counter keeps functions whole = record {
  load_is = keeps.load_is;
  lines_are = keeps.lines_are;
  runs_are = keeps.runs_are;
  functions_are = functions;
  is_whole = whole;
}

-- a unit without an identifier has no load
pub no_load : (u : UnitInFile) → u.facts.dwo_id ≡ None → load_of u ≡ Ok None
no_load u none = ap (if_any (load_of_id u)) none

-- the unit, if it is whole, or one without a load
pub whole_or_no_load : {A : Type 0} (see : A → UnitInFile) (o : Option A) (is_whole : Bool) (u v : UnitInFile) → u ≡ v
    → MatchOption o ((is_whole ≡ false) × (u.facts.dwo_id ≡ None)) (λ x. see x ≡ u)
    → MatchOption o (load_of v ≡ Ok None) (λ x. see x ≡ v)
whole_or_no_load see None is_whole u v same h = ap load_of (sym same) ∙ no_load u h.1
whole_or_no_load see (Some x) is_whole u v same h = h ∙ same

-- what a call returns, it returns unless out of memory
pub unless_memory : {A : Type 0} (r meaning : Result A Error) → Returns r meaning → ReturnsOrNoMemory r meaning
unless_memory (Ok x) meaning h = h
unless_memory (Err e) meaning h = λ other. h

-- what decides a unit, by the load that is kept
pub decided_by_load : (v : ResolvedUnit) (u : UnitInFile) (load : Result (Option SplitLoad) Error)
    (first : Option FirstAnswer) (d : FirstAnswer)
    → decided (load_of u) first ≡ first_answer v.value
    → load ≡ load_of u → decided load first ≡ d
    → d ≡ first_answer v.value
decided_by_load v u load first d view is h = sym h ∙ ap (λ l. decided l first) is ∙ view

-- the functions are the same after calls were kept
pub same_functions : (old new : KeptFunctions) (number : ℕ) (read : Result CountedCalls Error)
    (r : Result (Unit {0}) Error) → OnOk r (new ≡ calls_read old number read) → OnErr r (new ≡ old)
    → is_some new.functions ≡ is_some old.functions
same_functions old new number read (Ok x) is same = ap (λ (k : KeptFunctions). is_some k.functions) is
same_functions old new number read (Err e) is same = ap (λ (k : KeptFunctions). is_some k.functions) same

-- the same unit with another counter, kept whole or not
abbrev with_counter : Bool → CountedUnit → MainUnit
with_counter is_whole u = record { counted = u; is_whole = is_whole }

-- the same of a unit that was made whole
pub keeps_whole : (old new : MainUnit) (load : Result (Option SplitLoad) Error) (first : Option FirstAnswer)
    (lines : Option (Result CountedLines Error)) (k : KeptFunctions) (counter : ℕ) → new.counted ≡ old.counted
    → (old.is_whole ≡ true → new.is_whole ≡ true)
    → KeepsParses old load first lines k counter → KeepsParses new load first lines k counter
keeps_whole old new load first lines k counter same whole keeps =
    subst (λ (x : CountedUnit). KeepsParses (with_counter new.is_whole x) load first lines k counter) (sym same)
    (record {
      load_is = keeps.load_is;
      lines_are = keeps.lines_are;
      runs_are = keeps.runs_are;
      functions_are = keeps.functions_are;
      is_whole = λ kept. whole (keeps.is_whole kept);
    })

-- a unit that was whole is, after it is made whole
pub stays_whole : (result : Result (Unit {0}) Error) (old new : MainUnit) → OnOk result (new.is_whole ≡ true)
    → OnErr result (new ≡ old) → old.is_whole ≡ true → new.is_whole ≡ true
stays_whole (Ok x) old new ok err whole = ok
stays_whole (Err e) old new ok err whole = ap (λ (u : MainUnit). u.is_whole) err ∙ whole

-- ---- a unit that was made just now

-- a result that is a load
abbrev made : Result (Option SplitLoad) Error → Result (Result (Option SplitLoad) Error) Error
made load = Ok load

pub load_made : (load meaning : Result (Option SplitLoad) Error) → made meaning ≡ made load → load ≡ meaning
load_made load meaning h = cc

-- runs that are counted from none on
from_none : (n m : ℕ) → n ≡ 0 + m → n ≡ m
from_none n m is = omega arith

-- a counter that is at none, and one that counted a run after it
none_counted : (u : CountedUnit) → u ≡ without_runs u → u.runs.count ≡ 0
none_counted u is = ap (λ (x : CountedUnit). x.runs.count) is

run_counted : (old new : CountedUnit) → new ≡ after_run old
    → new.runs.count ≡ old.runs.count + runs_for_lines old.unit.facts
run_counted old new is = ap (λ (x : CountedUnit). x.runs.count) is

-- no functions are kept
none_read : (k : KeptFunctions) → k ≡ nothing_kept → is_some k.functions ≡ false
none_read k none = ap (λ (x : KeptFunctions). is_some x.functions) none

module _ (u : MainUnit) (ranges : List Range) (counter : ℕ) where
  keeps_root : (load : Result (Option SplitLoad) Error) (read : Option (Result CountedLines Error)) (k : KeptFunctions)
      → RunsForRanges counter ranges read (without_runs u.counted) u.counted
      → load ≡ load_of u.counted.unit → k ≡ nothing_kept → KeepsParses u load None read k counter
  keeps_root load None k run is none = record {
    load_is = is;
    lines_are = tt;
    runs_are = none_counted u.counted run;
    functions_are = keeps_nothing u.counted.unit load None k counter none;
    is_whole = λ kept. let nothing = none_read k none in absurd cc;
  }
  keeps_root load (Some l) k run is none = record {
    load_is = is;
    lines_are = run.0;
    runs_are = from_none u.counted.runs.count (runs_for_lines u.counted.unit.facts)
        (run_counted (without_runs u.counted) u.counted run.2);
    functions_are = keeps_nothing u.counted.unit load None k counter none;
    is_whole = λ kept. let nothing = none_read k none in absurd cc;
  }

  pub keeps_new : (load : Result (Option SplitLoad) Error) (read lines : Option (Result CountedLines Error))
      (k : KeptFunctions) → lines ≡ read → RunsForRanges counter ranges read (without_runs u.counted) u.counted
      → load ≡ load_of u.counted.unit → k ≡ nothing_kept → KeepsParses u load None lines k counter
  keeps_new load read lines k same run is none =
      let P : Option (Result CountedLines Error) → Type 0 = λ l. KeepsParses u load None l k counter in
      subst P (sym same) (keeps_root load read k run is none)

  ranges_run : (read : Option (Result CountedLines Error))
      → RunsForRanges counter ranges read (without_runs u.counted) u.counted → is_some read ≡ true
      → ranges ≡ ranges_of_lines (lines_of_unit u.counted.unit)
  ranges_run None run kept = absurd cc
  ranges_run (Some l) run kept = run.1

  -- its ranges are those of its lines where these are kept
  pub ranges_new : (read lines : Option (Result CountedLines Error)) → lines ≡ read
      → RunsForRanges counter ranges read (without_runs u.counted) u.counted → is_some lines ≡ true
      → ranges ≡ ranges_of_lines (lines_of_unit u.counted.unit)
  ranges_new read lines same run kept = ranges_run read run (sym (ap is_some same) ∙ kept)

-- what was run for a root, of a unit whose program was never run before
pub runs_from_none : (counter : ℕ) (ranges : List Range) (lines : Option (Result CountedLines Error))
    (old new : CountedUnit) → old.runs.count ≡ 0 → RunsForRanges counter ranges lines old new
    → RunsForRanges counter ranges lines (without_runs new) new
runs_from_none counter ranges None old new none run =
    subst (λ (u : CountedUnit). u ≡ without_runs u) (sym run)
    (ap (λ n. record old { runs = record old.runs { count = n } }) none)
runs_from_none counter ranges (Some l) old new none run =
    let P : UnitInFile → Type 0 =
    λ u. (l ≡ counted_lines counter (lines_of_unit u)) × (ranges ≡ ranges_of_lines (lines_of_unit u)) in
    let same : new.unit ≡ old.unit = ap (λ (u : CountedUnit). u.unit) run.2 in
    let here : P new.unit = subst P (sym same) (run.0, run.1) in (
      here.0,
      here.1,
      subst (λ (u : CountedUnit). u ≡ after_run (without_runs u)) (sym run.2)
          (ap (λ n. record old { runs = record old.runs { count = n + runs_for_lines old.unit.facts } }) none),
    )

-- ---- lines that were run for just now

-- an answer that isn't out of memory is kept
kept_answer : {A : Type 0} (result : Result (Unit {0}) Error) (read : Result A Error) (new : Option (Result A Error))
    → OnOk result (new ≡ Some read) → OnErr result (read ≡ Err Memory) → read ≢ Err Memory → new ≡ Some read
kept_answer (Ok x) read new ok err not = ok
kept_answer (Err e) read new ok err not = absurd (not err)

abbrev pub ok_lines : Result CountedLines Error → Result (Result CountedLines Error) Error
ok_lines r = Ok r

-- what is kept after a run
pub keeps_run : (u later : MainUnit) (load : Result (Option SplitLoad) Error) (first : Option FirstAnswer)
    (old new : Option (Result CountedLines Error)) (k : KeptFunctions) (counter : ℕ)
    (result : Result (Unit {0}) Error) (read : Result CountedLines Error)
    → KeepsParses u load first old k counter → is_some old ≡ false
    → ok_lines (counted_lines counter (lines_of_unit u.counted.unit)) ≡ ok_lines read
    → later.counted ≡ after_run u.counted → (u.is_whole ≡ true → later.is_whole ≡ true)
    → OnOk result (new ≡ Some read) → OnErr result (read ≡ Err Memory) → read ≢ Err Memory
    → KeepsParses later load first new k counter
keeps_run u later load first old new k counter result read before nothing found counted whole ok err not =
    let facts = u.counted.unit.facts in
    let runs = u.counted.runs.count in
    let lines : read ≡ counted_lines counter (lines_of_unit u.counted.unit) = cc in
    let kept : new ≡ Some read = kept_answer result read new ok err not in
    let none : runs ≡ 0 = before.runs_are ∙ ap (runs_if_kept facts) nothing in
    let after : KeepsParses (with_counter later.is_whole (after_run u.counted)) load first new k counter =
    record {
      load_is = before.load_is;
      lines_are = subst (IsKeptOf (counted_lines counter (lines_of_unit u.counted.unit))) (sym kept) lines;
      runs_are =
          from_none (runs + runs_for_lines facts) (runs_for_lines facts) (ap (λ n. n + runs_for_lines facts) none)
          ∙ sym (ap (λ o. runs_if_kept facts (is_some o)) kept);
      functions_are = before.functions_are;
      is_whole = λ read. whole (before.is_whole read);
    } in
    subst (λ (x : CountedUnit). KeepsParses (with_counter later.is_whole x) load first new k counter) (sym counted)
    after
