-- Lookups of frames and of units keep the functions of the units that they ask.
use Rattle.std.proofs.Common.{◌≡◌, ◌≢◌, ◌⊎◌, inl, inr, ℕ, true, false, List, [], ◌∷◌, ◌++◌, All, map, Option, None, is_some, Result, Ok, Err, sym, ap, ◌∙◌, subst}
use Rattle.std.proofs.lemmas.List.Elements.{All-head, All-tail}
use Rattle.addr2line_unit.specs.Error.{Error}
use Rattle.addr2line_unit.specs.Error.TheVariants.{Memory}
use Rattle.addr2line_unit.specs.FirstAnswers.{PendingLoad}
use Rattle.addr2line_unit.specs.UnitRange.{UnitRange}
use Rattle.addr2line_unit.specs.ResolvedUnits.{AnsweredUnit, ResolvedUnit, value_of_unit}
use Rattle.addr2line_lookups.specs.KeptUnits.{KeepMoreFunctions, KeepsFunctionsAt}
use Rattle.addr2line_lookups.specs.Preloads.{load_at}
use Rattle.addr2line_lookups.specs.PassedUnits.{KeepsFunctionsOf, KnowsNothing, AsksUntil, KeepsAskedFunctions}
use Rattle.addr2line_lookups.proofs.PassedUnits.{has_no_load}

-- ---- results

abbrev value : (A : Type 0) → A → Result A Error
value A x = Ok x

abbrev refusal : (A : Type 0) → Error → Result A Error
refusal A e = Err e

-- a value isn't out of memory
pub is_value : {A : Type 0} (x : A) → value A x ≢ refusal A Memory
is_value {A} x same = cc

-- nor is another refusal
pub is_other : {A : Type 0} (e : Error) → e ≢ Memory → refusal A e ≢ refusal A Memory
is_other {A} e other same = let is : e ≡ Memory = cc in other is

-- out of memory is
pub memory_refused : {A : Type 0} (e : Error) → e ≡ Memory → refusal A e ≢ refusal A Memory → ⊥
memory_refused {A} e is other = other (ap (refusal A) is)

-- ---- one unit

-- one that waits isn't decided
pub waits_undecided : (us xs : List ResolvedUnit) (n : ℕ) → xs ≡ us
    → true ≡ is_some (load_at (map value_of_unit xs) n) → load_at (map value_of_unit us) n ≡ None → ⊥
waits_undecided us xs n same waits none =
    let here : true ≡ is_some (load_at (map value_of_unit us) n) =
    subst (λ (l : List ResolvedUnit). true ≡ is_some (load_at (map value_of_unit l) n)) same waits in
    let never : true ≡ false = here ∙ ap (λ (o : Option PendingLoad). is_some o) none in cc

-- ---- one unit after the other

module _ {A : Type 0} (ask : AnsweredUnit → A) (nothing : A) (us : List ResolvedUnit) (all : List UnitRange) where
  abbrev asks_until : List UnitRange → ℕ → Type 0
  asks_until rs = AsksUntil ask nothing (map value_of_unit us) rs

  -- The functions of the units that were asked are kept; the others are those of the ranges that are left.
  abbrev pub FunctionsAsked : List UnitRange → List ResolvedUnit → Type 0
  FunctionsAsked rest vs =
      (n : ℕ) → asks_until all n → load_at (map value_of_unit us) n ≡ None → KeepsFunctionsAt vs n ⊎ asks_until rest n

  asked_or_left : (passed rest : List UnitRange) → All (KeepsFunctionsOf us) passed → (n : ℕ)
      → asks_until (passed ++ rest) n → KeepsFunctionsAt us n ⊎ asks_until rest n
  asked_or_left [] rest kept n asks = inr asks
  asked_or_left (r ∷ rs) rest kept n asks =
      by asks (asked_or_left rs rest (All-tail (KeepsFunctionsOf us) r rs kept) n)
    where
      by : (n ≡ r.unit) ⊎ (KnowsNothing ask nothing (map value_of_unit us) r × asks_until (rs ++ rest) n)
          → (asks_until (rs ++ rest) n → KeepsFunctionsAt us n ⊎ asks_until rest n)
          → KeepsFunctionsAt us n ⊎ asks_until rest n
      by (inl at) later =
          inl (subst (KeepsFunctionsAt us) (sym at) (All-head (KeepsFunctionsOf us) r rs kept))
      by (inr left) later = later left.1

  -- the first units keep theirs
  pub functions_begin : (passed rest : List UnitRange) → all ≡ passed ++ rest → All (KeepsFunctionsOf us) passed
      → FunctionsAsked rest us
  functions_begin passed rest are kept n asks none =
      asked_or_left passed rest kept n (subst (λ (rs : List UnitRange). asks_until rs n) are asks)

  -- one that knows nothing is decided, so that its functions are kept
  pub functions_here : (vs ws : List ResolvedUnit) (r : UnitRange) → map value_of_unit vs ≡ map value_of_unit us
      → KnowsNothing ask nothing (map value_of_unit us) r
      → (load_at (map value_of_unit vs) r.unit ≡ None → KeepsFunctionsAt ws r.unit) → KeepsFunctionsAt ws r.unit
  functions_here vs ws r same none kept =
      kept
      (ap (λ (values : List AnsweredUnit). load_at values r.unit) same
      ∙ has_no_load ask nothing (map value_of_unit us) r none)

  decided_before : (vs : List ResolvedUnit) (n : ℕ) → map value_of_unit vs ≡ map value_of_unit us
      → load_at (map value_of_unit vs) n ≡ None → load_at (map value_of_unit us) n ≡ None
  decided_before vs n same none = ap (λ (values : List AnsweredUnit). load_at values n) (sym same) ∙ none

  pub functions_end : (rest : List UnitRange) (vs : List ResolvedUnit) → rest ≡ []
      → map value_of_unit vs ≡ map value_of_unit us → FunctionsAsked rest vs → KeepsAskedFunctions (asks_until all) vs
  functions_end rest vs is same asked n asks none = by (asked n asks (decided_before vs n same none))
    where
      left_none : asks_until rest n → ⊥
      left_none left = subst (λ (rs : List UnitRange). asks_until rs n) is left

      by : KeepsFunctionsAt vs n ⊎ asks_until rest n → KeepsFunctionsAt vs n
      by (inl kept) = kept
      by (inr left) = absurd (left_none left)

  module _ (vs ws : List ResolvedUnit) (r : UnitRange) (old rest : List UnitRange) (is : old ≡ r ∷ rest)
      (same : map value_of_unit vs ≡ map value_of_unit us) (more : KeepMoreFunctions vs ws)
      (here : load_at (map value_of_unit vs) r.unit ≡ None → KeepsFunctionsAt ws r.unit)
      (asked : FunctionsAsked old vs) where
    one_more : (n : ℕ) → asks_until all n → load_at (map value_of_unit us) n ≡ None
        → KeepsFunctionsAt ws n ⊎ (KnowsNothing ask nothing (map value_of_unit us) r × asks_until rest n)
    one_more n asks none = by (asked n asks none)
      where
        decided_here : n ≡ r.unit → load_at (map value_of_unit vs) r.unit ≡ None
        decided_here at =
            ap (λ (values : List AnsweredUnit). load_at values r.unit) same
            ∙ ap (λ m. load_at (map value_of_unit us) m) (sym at) ∙ none

        turn : (n ≡ r.unit) ⊎ (KnowsNothing ask nothing (map value_of_unit us) r × asks_until rest n)
            → KeepsFunctionsAt ws n ⊎ (KnowsNothing ask nothing (map value_of_unit us) r × asks_until rest n)
        turn (inl at) = inl (subst (λ m. KeepsFunctionsAt ws m) (sym at) (here (decided_here at)))
        turn (inr left) = inr left

        by : KeepsFunctionsAt vs n ⊎ asks_until old n
            → KeepsFunctionsAt ws n ⊎ (KnowsNothing ask nothing (map value_of_unit us) r × asks_until rest n)
        by (inl kept) = inl (more.functions n kept)
        by (inr left) = turn (subst (λ (rs : List UnitRange). asks_until rs n) is left)

    -- one that knows nothing
    pub functions_next : FunctionsAsked rest ws
    functions_next n asks none = by (one_more n asks none)
      where
        by : KeepsFunctionsAt ws n ⊎ (KnowsNothing ask nothing (map value_of_unit us) r × asks_until rest n)
            → KeepsFunctionsAt ws n ⊎ asks_until rest n
        by (inl kept) = inl kept
        by (inr left) = inr left.1

    -- another is the last
    pub functions_last : (KnowsNothing ask nothing (map value_of_unit us) r → ⊥)
        → map value_of_unit ws ≡ map value_of_unit us → KeepsAskedFunctions (asks_until all) ws
    functions_last something after n asks none = by (one_more n asks (decided_before ws n after none))
      where
        by : KeepsFunctionsAt ws n ⊎ (KnowsNothing ask nothing (map value_of_unit us) r × asks_until rest n)
            → KeepsFunctionsAt ws n
        by (inl kept) = kept
        by (inr left) = absurd (something left.0)
