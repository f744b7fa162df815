-- Looks that lookups take in the unit of a number.
use Rattle.std.proofs.Common.{◌≡◌, ℕ, ◌+◌, ◌<◌, Bool, true, false, List, ◌∷◌, length, set, get_or, map, slice_get, Option, Some, None, is_some, Result, Ok, sym, ap, ◌∙◌, subst, arith}
use Rattle.addr2line_unit.specs.Error.{Error}
use Rattle.addr2line_unit.specs.UnitFacts.{UnitFacts}
use Rattle.addr2line_unit.specs.UnitRange.{UnitRange}
use Rattle.addr2line_unit.specs.EntryReferences.{KnownUnits}
use Rattle.addr2line_unit.specs.Searches.{AtMostProbes}
use Rattle.addr2line_unit.specs.KeptFunctions.{kept_at, number_probes, kept_chain_probes}
use Rattle.addr2line_unit.specs.ResolvedUnits.{ResolvedUnit, AnsweredUnit, KeepsLines, value_of_unit, plain_unit, functions_of, lines_probes, with_functions, with_probes}
use Rattle.addr2line_lookups.specs.KeptUnits.{KeepsMoreFunctions, row_at_number, ends_with_row, ends_with_row_at}
use Rattle.addr2line_lookups.specs.UnitLookups.{ends_search_at}
use Rattle.addr2line_lookups.specs.KeptCalls.{known_among, HoldsCalls}
use Rattle.addr2line_lookups.specs.FunctionPlaces.{function_number_at, calls_of_any}
use Rattle.addr2line_lookups.specs.LookupCosts.{AtMostLooksOf, AtMostLooks, row_probes_of, row_probes_at, number_probes_of, number_probes_at, chain_probes_at, found_chain_probes, function_probes_at, frame_probes_at, row_looks, search_looks}
use Rattle.addr2line_lookups.proofs.CallsLeft.{known_same}
use Rattle.addr2line_lookups.proofs.KeptLines.{same_plain}
use Rattle.addr2line_lookups.proofs.CallsOfUnits.{value_left, counts_left, runs_left, value_here}
use Rattle.addr2line_lookups.proofs.FoundFunctions.{kept_is}
use Rattle.addr2line_lookups.proofs.KeptFunctionLists.{functions_same, functions_read, functions_both_of}
use Rattle.addr2line_lookups.proofs.UnitProbes.{LooksLeft, looks_set, looks_both, looks_weaker, looks_next, looks_stop}

-- ---- a search

-- among functions that were read just now
pub looks_for_function_of : (u w new : ResolvedUnit) → w ≡ with_functions u → new ≡ with_probes w new.probes
    → AtMostProbes (number_probes (functions_of w.value)) w.probes new.probes
    → AtMostLooksOf (number_probes (functions_of u.value)) u new
looks_for_function_of u w new read looked probes =
    let counts = counts_left u w read in
    record {
      probes =
          subst (λ (v : AnsweredUnit). AtMostProbes (number_probes (functions_of v)) u.probes new.probes)
          (value_left u w read)
          (subst (λ p. AtMostProbes (number_probes (functions_of w.value)) p new.probes) counts.0 probes);
      runs = ap (λ (x : ResolvedUnit). x.runs) looked ∙ runs_left u w read;
      more = λ kept. ap (λ (x : ResolvedUnit). x.keeps_lines) looked ∙ counts.1 ∙ kept;
      functions =
          functions_both_of u w new (functions_read u w read)
          (functions_same w new (ap (λ (x : ResolvedUnit). x.keeps_functions) looked)
          (ap (λ (x : ResolvedUnit). x.calls) looked));
    }

module _ (us : List ResolvedUnit) (n : ℕ) (u : ResolvedUnit) (below : n < length us) (is : u ≡ get_or us n u)
    (new : ResolvedUnit) where
  -- among sequences and rows
  pub looks_for_row : (a : ℕ) → AtMostProbes (lines_probes a u.value.unit.lines) u.probes new.probes
      → new.runs ≡ u.runs → (KeepsLines u → KeepsLines new) → KeepsMoreFunctions u new
      → AtMostLooks (row_probes_at (map value_of_unit us) a n) us (set us n new)
  looks_for_row a probes runs more functions =
      subst (λ m. AtMostLooks m us (set us n new)) (sym (ap (row_probes_of a) (value_here us n u below is)))
      (looks_set us n u below is new (lines_probes a u.value.unit.lines) (record {
        probes = probes;
        runs = runs;
        more = more;
        functions = functions;
      }))

  -- among functions
  pub looks_for_number : AtMostLooksOf (number_probes (functions_of u.value)) u new
      → AtMostLooks (number_probes_at (map value_of_unit us) n) us (set us n new)
  looks_for_number h =
      subst (λ m. AtMostLooks m us (set us n new)) (sym (ap number_probes_of (value_here us n u below is)))
      (looks_set us n u below is new (number_probes (functions_of u.value)) h)

  -- among calls that are kept
  pub looks_for_chain : (known : KnownUnits) (vs : List AnsweredUnit) (a k : ℕ) → map value_of_unit us ≡ vs
      → HoldsCalls known u → is_some (kept_at u.calls k) ≡ true
      → AtMostLooksOf (kept_chain_probes (kept_at u.calls k) a) u new
      → AtMostLooks (chain_probes_at known vs a k n) us (set us n new)
  looks_for_chain known vs a k same holds kept h =
      let value : slice_get vs n ≡ Some u.value =
      ap (λ (l : List AnsweredUnit). slice_get l n) (sym same) ∙ value_here us n u below is in
      let cost : kept_chain_probes (kept_at u.calls k) a ≡ chain_probes_at known vs a k n =
      ap (λ o. kept_chain_probes o a) (kept_is known u k holds kept)
      ∙ ap (λ o. kept_chain_probes (Some (calls_of_any known k o)) a) (sym value) in
      subst (λ m. AtMostLooks m us (set us n new)) cost
      (looks_set us n u below is new (kept_chain_probes (kept_at u.calls k) a) h)

-- ---- one search after the other

-- a function of which no calls were looked at
pub looks_without_calls : (known : KnownUnits) (vs : List AnsweredUnit) (a n : ℕ) (us ws : List ResolvedUnit)
    → AtMostLooks (number_probes_at vs n) us ws → AtMostLooks (function_probes_at known vs a n) us ws
looks_without_calls known vs a n us ws h =
    looks_weaker (number_probes_at vs n) (function_probes_at known vs a n) us ws (omega arith) h

-- frames without a row
pub looks_without_row : (known : KnownUnits) (vs : List AnsweredUnit) (a n : ℕ) (us ws : List ResolvedUnit)
    → AtMostLooks (function_probes_at known vs a n) us ws → AtMostLooks (frame_probes_at known vs a n) us ws
looks_without_row known vs a n us ws h =
    looks_weaker (function_probes_at known vs a n) (frame_probes_at known vs a n) us ws (omega arith) h

module _ (us ws xs : List ResolvedUnit) (same : map value_of_unit ws ≡ map value_of_unit us) (s : List UnitFacts)
    (a n : ℕ) where
  -- a function and its calls
  pub looks_for_function : (k : ℕ) → function_number_at (map value_of_unit us) a n ≡ Ok (Some k)
      → AtMostLooks (number_probes_at (map value_of_unit us) n) us ws
      → AtMostLooks (chain_probes_at (known_among ws s) (map value_of_unit ws) a k n) ws xs
      → AtMostLooks (function_probes_at (known_among us s) (map value_of_unit us) a n) us xs
  looks_for_function k found number chain =
      let known = known_among us s in
      let vs = map value_of_unit us in
      subst (λ (r : Result (Option ℕ) Error).
      AtMostLooks (number_probes_at vs n + found_chain_probes known vs a r n) us xs) (sym found)
      (looks_both (number_probes_at vs n) (chain_probes_at known vs a k n) us ws xs number
      (subst (λ (l : List AnsweredUnit). AtMostLooks (chain_probes_at known l a k n) ws xs) same
      (subst (λ (x : KnownUnits). AtMostLooks (chain_probes_at x (map value_of_unit ws) a k n) ws xs)
      (known_same us ws same s) chain)))

  -- and a row
  pub looks_for_frames : (known : KnownUnits)
      → AtMostLooks (function_probes_at known (map value_of_unit us) a n) us ws
      → AtMostLooks (row_probes_at (map value_of_unit ws) a n) ws xs
      → AtMostLooks (frame_probes_at known (map value_of_unit us) a n) us xs
  looks_for_frames known function row =
      let vs = map value_of_unit us in
      looks_both (function_probes_at known vs a n) (row_probes_at vs a n) us ws xs function
      (subst (λ (l : List AnsweredUnit). AtMostLooks (row_probes_at l a n) ws xs) same row)

-- ---- in the units of ranges

abbrev pub row_probes_among : List ResolvedUnit → ℕ → List UnitRange → ℕ
row_probes_among us a rs = row_looks (map plain_unit us) (map value_of_unit us) a rs

abbrev pub frame_probes_among : {A : Type 0} → (A → Bool) → (AnsweredUnit → A) → A → List ResolvedUnit
    → List UnitFacts → ℕ → List UnitRange → ℕ
frame_probes_among is_something ask nothing us s a rs =
    search_looks is_something ask nothing (known_among us s) (map value_of_unit us) a rs

-- the units' values alone matter
module _ (us vs : List ResolvedUnit) (same : map value_of_unit vs ≡ map value_of_unit us) (a all : ℕ)
    (r : UnitRange) (old rest : List UnitRange) (is : old ≡ r ∷ rest) (ws : List ResolvedUnit) where
  module _ (before : LooksLeft all (row_probes_among us a old) us vs)
      (here : AtMostLooks (row_probes_at (map value_of_unit vs) a r.unit) vs ws) where
    looks_here : AtMostLooks (row_probes_at (map value_of_unit us) a r.unit) vs ws
    looks_here = subst (λ (l : List AnsweredUnit). AtMostLooks (row_probes_at l a r.unit) vs ws) same here

    pub rows_further : row_at_number (map plain_unit vs) a r.unit ≡ Ok None
        → LooksLeft all (row_probes_among us a rest) us ws
    rows_further none =
        looks_next (ends_with_row_at (map plain_unit us) a) (row_probes_at (map value_of_unit us) a) all us vs r old
        rest is before
        (ap (λ l. ends_with_row_at l a r.unit) (sym (same_plain vs us same)) ∙ ap ends_with_row none) ws looks_here

    pub rows_stop : AtMostLooks all us ws
    rows_stop =
        looks_stop (ends_with_row_at (map plain_unit us) a) (row_probes_at (map value_of_unit us) a) all us vs r old
        rest is before ws looks_here

  module _ {A : Type 0} (is_something : A → Bool) (ask : AnsweredUnit → A) (nothing : A) (s : List UnitFacts)
      (before : LooksLeft all (frame_probes_among is_something ask nothing us s a old) us vs)
      (here : AtMostLooks (frame_probes_at (known_among vs s) (map value_of_unit vs) a r.unit) vs ws) where
    abbrev frame_probes : ℕ → ℕ
    frame_probes n = frame_probes_at (known_among us s) (map value_of_unit us) a n

    abbrev ends : ℕ → Bool
    ends n = ends_search_at is_something ask nothing (map value_of_unit us) n

    frames_here : AtMostLooks (frame_probes r.unit) vs ws
    frames_here =
        subst (λ m. AtMostLooks m vs ws)
        (ap (λ (x : KnownUnits). frame_probes_at x (map value_of_unit vs) a r.unit) (known_same us vs same s)
        ∙ ap (λ (l : List AnsweredUnit). frame_probes_at (known_among us s) l a r.unit) same) here

    pub frames_further : ends_search_at is_something ask nothing (map value_of_unit us) r.unit ≡ false
        → LooksLeft all (frame_probes_among is_something ask nothing us s a rest) us ws
    frames_further goes_on = looks_next ends frame_probes all us vs r old rest is before goes_on ws frames_here

    pub frames_stop : AtMostLooks all us ws
    frames_stop = looks_stop ends frame_probes all us vs r old rest is before ws frames_here
