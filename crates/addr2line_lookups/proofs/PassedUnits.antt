-- A lookup of an address goes on from an index: the units before it know nothing, whatever loads are answered, and keep
-- their functions.
use Rattle.std.proofs.Common.{◌≡◌, inl, inr, ℕ, zero, suc, ◌+◌, ◌≤◌, Bool, false, cond, List, [], ◌∷◌, ◌++◌, All, drop, set, slice_get, Option, Some, None, option_map, option_and_then, Result, refl, sym, ap, ◌∙◌, subst, arith, append_assoc}
use Rattle.std.proofs.lemmas.List.Elements.{All-nil, All-head, All-tail, All-push, All-weaker}
use Rattle.std.proofs.lemmas.List.Sums.{sum_by-append}
use Rattle.addr2line_unit.specs.Error.{Error}
use Rattle.addr2line_unit.specs.DwarfFiles.{DwarfFile}
use Rattle.addr2line_unit.specs.UnitRange.{UnitRange}
use Rattle.addr2line_unit.specs.NumberedRanges.{covering_ranges}
use Rattle.addr2line_unit.specs.FirstAnswers.{SplitLoad, PendingLoad, Lookup, output, answer_of}
use Rattle.addr2line_unit.specs.ResolvedUnits.{AnsweredUnit, ResolvedUnit, pending_load}
use Rattle.addr2line_lookups.specs.KeptUnits.{KeepsFunctionsAt, KeepMoreFunctions}
use Rattle.addr2line_lookups.specs.Preloads.{numbered_load, load_at, loads_at}
use Rattle.addr2line_lookups.specs.LoadAnswers.{AnswersOrNoMemory, unit_after, answer_among, answer_at}
use Rattle.addr2line_lookups.specs.LookupCosts.{probes_among, ranges_until, probes_until}
use Rattle.addr2line_lookups.specs.UnitLookups.{unless_waiting, ask_if_any, ask_at, first_asked, ends_search, ends_search_at}
use Rattle.addr2line_lookups.specs.PassedUnits.{ComesNext, Passed, KeepsFunctionsOf, PassedAreKept, KnowsNothing, Pass, AsksUntil}
use Rattle.addr2line_lookups.proofs.AnsweredLoads.{set_same, decided_stays}
use Rattle.addr2line_lookups.proofs.FirstLoads.{loads_further}
use Rattle.addr2line_lookups.proofs.SettledUnits.{first_passes}

-- ---- before an index

module _ (a : ℕ) (rs : List UnitRange) where
  module _ (P : UnitRange → Type 0) where
    -- the first
    passed_none : Passed P a 0 rs
    passed_none = record { passed = []; are_first = refl; hold = All-nil P }

    -- a further one
    passed_next : (from number next : ℕ) (h : Passed P a from rs) (comes : ComesNext a from rs number next)
        → P (record { range = comes.0; unit = number }) → Passed P a next rs
    passed_next from number next h comes here =
        let r : UnitRange = record { range = comes.0; unit = number } in record {
          passed = h.passed ++ r ∷ [];
          are_first =
              h.are_first ∙ ap (λ l. h.passed ++ l) comes.1
              ∙ sym (append_assoc h.passed (r ∷ []) (covering_ranges a (drop next rs)));
          hold = All-push P h.passed r h.hold here;
        }

    passed_weaker : (Q : UnitRange → Type 0) (from : ℕ) → ((r : UnitRange) → P r → Q r) → Passed P a from rs
        → Passed Q a from rs
    passed_weaker Q from weaker h =
        record { passed = h.passed; are_first = h.are_first; hold = All-weaker P Q weaker h.passed h.hold }

  -- ---- units whose functions are kept

  pub kept_none : (us : List ResolvedUnit) → PassedAreKept us a 0 rs
  kept_none us = passed_none (KeepsFunctionsOf us)

  -- functions that are kept are kept still
  pub kept_still : (us vs : List ResolvedUnit) (from : ℕ) → KeepMoreFunctions us vs → PassedAreKept us a from rs
      → PassedAreKept vs a from rs
  kept_still us vs from more =
      passed_weaker (KeepsFunctionsOf us) (KeepsFunctionsOf vs) from (λ (r : UnitRange). more.functions r.unit)

  -- with those of one more
  pub kept_next : (us vs : List ResolvedUnit) (from number next : ℕ) → KeepMoreFunctions us vs
      → PassedAreKept us a from rs → ComesNext a from rs number next → KeepsFunctionsAt vs number
      → PassedAreKept vs a next rs
  kept_next us vs from number next more kept comes here =
      passed_next (KeepsFunctionsOf vs) from number next (kept_still us vs from more kept) comes here

-- ---- units that know nothing

module _ {A : Type 0} (ask : AnsweredUnit → A) (nothing : A) where
  -- one that doesn't wait has no load
  no_load : (o : Option PendingLoad) (x y : A) → unless_waiting o x ≡ output y → o ≡ None
  no_load None x y h = refl
  no_load (Some p) x y h = absurd cc

  module _ (vs : List AnsweredUnit) where
    pub has_no_load : (r : UnitRange) → KnowsNothing ask nothing vs r → load_at vs r.unit ≡ None
    has_no_load r h = no_load (load_at vs r.unit) (ask_if_any ask nothing (slice_get vs r.unit)) nothing h

    -- a lookup goes on after them
    asked_after : (is_something : A → Bool) → is_something nothing ≡ false → (passed rest : List UnitRange)
        → All (KnowsNothing ask nothing vs) passed
        → first_asked is_something ask nothing vs (passed ++ rest) ≡ first_asked is_something ask nothing vs rest
    asked_after is_something none [] rest h = refl
    asked_after is_something none (r ∷ rs) rest h =
        first_passes is_something ask nothing vs r (r ∷ (rs ++ rest)) (rs ++ rest) refl nothing
        (All-head (KnowsNothing ask nothing vs) r rs h) none
        ∙ asked_after is_something none rs rest (All-tail (KnowsNothing ask nothing vs) r rs h)

    -- a search comes to the ranges after them
    until_after : (is_something : A → Bool) → is_something nothing ≡ false → (passed rest : List UnitRange)
        → All (KnowsNothing ask nothing vs) passed
        → ranges_until (ends_search_at is_something ask nothing vs) (passed ++ rest)
        ≡ passed ++ ranges_until (ends_search_at is_something ask nothing vs) rest
    until_after is_something none [] rest h = refl
    until_after is_something none (r ∷ rs) rest h =
        let ends : ℕ → Bool = ends_search_at is_something ask nothing vs in
        let goes_on : ends r.unit ≡ false =
        ap (ends_search is_something) (All-head (KnowsNothing ask nothing vs) r rs h) ∙ none in
        ap (λ (b : Bool). r ∷ cond b [] (ranges_until ends (rs ++ rest))) goes_on
        ∙ ap (λ l. r ∷ l) (until_after is_something none rs rest (All-tail (KnowsNothing ask nothing vs) r rs h))

    -- and so do loads
    loads_after : (passed rest : List UnitRange) → All (KnowsNothing ask nothing vs) passed
        → loads_at vs (passed ++ rest) ≡ loads_at vs rest
    loads_after [] rest h = refl
    loads_after (r ∷ rs) rest h =
        loads_further vs r (r ∷ (rs ++ rest)) (rs ++ rest) refl
        (has_no_load r (All-head (KnowsNothing ask nothing vs) r rs h))
        ∙ loads_after rs rest (All-tail (KnowsNothing ask nothing vs) r rs h)

    -- the units that are asked come after them
    asked_past : (passed rest : List UnitRange) (n : ℕ) → All (KnowsNothing ask nothing vs) passed
        → AsksUntil ask nothing vs rest n → AsksUntil ask nothing vs (passed ++ rest) n
    asked_past [] rest n h asked = asked
    asked_past (r ∷ rs) rest n h asked =
        inr (
          All-head (KnowsNothing ask nothing vs) r rs h,
          asked_past rs rest n (All-tail (KnowsNothing ask nothing vs) r rs h) asked,
        )

    module _ (a : ℕ) (rs : List UnitRange) where
      -- the first
      pub pass_none : Pass ask nothing vs a 0 rs
      pass_none = passed_none a rs (KnowsNothing ask nothing vs)

      module _ (from : ℕ) (pass : Pass ask nothing vs a from rs) where
        -- a further one
        pub pass_next : (number next : ℕ) → ComesNext a from rs number next
            → ask_at ask nothing vs number ≡ output nothing → Pass ask nothing vs a next rs
        pass_next number next comes here =
            passed_next a rs (KnowsNothing ask nothing vs) from number next pass comes here

        -- that of the next range is asked
        pub asked_next : (number next : ℕ) → ComesNext a from rs number next
            → AsksUntil ask nothing vs (covering_ranges a rs) number
        asked_next number next comes =
            let P : List UnitRange → Type 0 = λ qs. AsksUntil ask nothing vs qs number in
            subst P (sym pass.are_first)
            (asked_past pass.passed (covering_ranges a (drop from rs)) number pass.hold
            (subst P (sym comes.1) (inl refl)))

        pub asked_from : (is_something : A → Bool) → is_something nothing ≡ false
            → first_asked is_something ask nothing vs (covering_ranges a rs)
            ≡ first_asked is_something ask nothing vs (covering_ranges a (drop from rs))
        asked_from is_something none =
            ap (first_asked is_something ask nothing vs) pass.are_first
            ∙ asked_after is_something none pass.passed (covering_ranges a (drop from rs)) pass.hold

        pub loads_from : loads_at vs (covering_ranges a rs) ≡ loads_at vs (covering_ranges a (drop from rs))
        loads_from =
            ap (loads_at vs) pass.are_first
            ∙ loads_after pass.passed (covering_ranges a (drop from rs)) pass.hold

        -- there are no more looks
        pub probes_from : (is_something : A → Bool) → is_something nothing ≡ false → (probes : ℕ → ℕ)
            → probes_until (ends_search_at is_something ask nothing vs) probes (covering_ranges a (drop from rs))
            ≤ probes_until (ends_search_at is_something ask nothing vs) probes (covering_ranges a rs)
        probes_from is_something none probes =
            let ends : ℕ → Bool = ends_search_at is_something ask nothing vs in
            let rest = covering_ranges a (drop from rs) in
            let whole : probes_until ends probes (covering_ranges a rs)
            ≡ probes_among probes pass.passed + probes_until ends probes rest =
            ap (probes_until ends probes) pass.are_first
            ∙ ap (probes_among probes) (until_after is_something none pass.passed rest pass.hold)
            ∙ sum_by-append (λ (r : UnitRange). probes r.unit) pass.passed (ranges_until ends rest) in
            omega (arith, whole)

        -- other units of which the decided ones are the same
        pub pass_same : (ws : List AnsweredUnit)
            → ((n : ℕ) → load_at vs n ≡ None → slice_get ws n ≡ slice_get vs n) → Pass ask nothing ws a from rs
        pass_same ws same =
            passed_weaker a rs (KnowsNothing ask nothing vs) (KnowsNothing ask nothing ws) from
            (λ (r : UnitRange) h. ap (asked_at r.unit) (same r.unit (has_no_load r h)) ∙ h) pass
          where
            asked_at : ℕ → Option AnsweredUnit → Lookup A
            asked_at n o =
                unless_waiting (option_map (numbered_load n) (option_and_then pending_load o))
                (ask_if_any ask nothing o)

-- ---- an answer to a load

set_other : {X : Type 0} (xs : List X) (m n : ℕ) (x : X) → (n ≡ m → ⊥) → slice_get (set xs m x) n ≡ slice_get xs n
set_other [] m n x other = refl
set_other (y ∷ ys) zero zero x other = absurd (other refl)
set_other (y ∷ ys) zero (suc n) x other = refl
set_other (y ∷ ys) (suc m) zero x other = refl
set_other (y ∷ ys) (suc m) (suc n) x other = set_other ys m n x (λ same. other (ap suc same))

module _ (vs : List AnsweredUnit) (file : Option DwarfFile) (m : ℕ) where
  by_pending : (v : AnsweredUnit) (o : Option SplitLoad) → slice_get vs m ≡ Some v → pending_load v ≡ o
      → (n : ℕ) → load_at vs n ≡ None → slice_get (set vs m (unit_after file v)) n ≡ slice_get vs n
  by_pending v None is decided n none =
      ap (λ l. slice_get l n)
      (ap (set vs m) (decided_stays v (answer_of v.unit.facts file) decided) ∙ set_same vs m v is)
  by_pending v (Some load) is waits n none =
      set_other vs m n (unit_after file v) (λ same.
      absurd (some_not (sym (ap (option_map (numbered_load m)) (ap (option_and_then pending_load) is ∙ waits))
      ∙ ap (load_at vs) (sym same) ∙ none)))
    where
      some_not : Some (numbered_load m load) ≡ None → ⊥
      some_not h = cc

  by_unit : (o : Option AnsweredUnit) → slice_get vs m ≡ o → (n : ℕ) → load_at vs n ≡ None
      → slice_get (answer_among vs m o file).1 n ≡ slice_get vs n
  by_unit None is n none = refl
  by_unit (Some v) is n none = by_pending v (pending_load v) is refl n none

  -- an answer leaves the decided units as they are
  pub decided_same : (ws : List AnsweredUnit) (result : Result (Unit {0}) Error)
      → AnswersOrNoMemory result vs ws (answer_at vs m file)
      → (n : ℕ) → load_at vs n ≡ None → slice_get ws n ≡ slice_get vs n
  decided_same ws result (inl answered) n none =
      ap (λ (r : Result (Unit {0}) Error × List AnsweredUnit). slice_get r.1 n) (sym answered)
      ∙ by_unit (slice_get vs m) refl n none
  decided_same ws result (inr none) n decided = ap (λ l. slice_get l n) none.1
