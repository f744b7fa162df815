-- The ranges of an entry come from the attributes of three names alone (DWARF 5, 2.17).
use Rattle.std.proofs.Common.{◌≡◌, ℕ, Bool, true, false, cond, ◌||◌, ◌==◌, List, [], ◌∷◌, filter, Option, None, Result, Ok, Err, refl, sym, ap, subst, ◌∙◌, arith}
use Rattle.std.specs.List.{filter_map, cons_option, last_or, list_any}
use Rattle.std.proofs.lemmas.Bool.Decides.{nat_tests}
use Rattle.gimli_units_entries.specs.Error.{Error}
use Rattle.gimli_units_entries.specs.Calls.{ReadsAsOrNoMemory, StepsAsOrNoMemory}
use Rattle.gimli_units_entries.specs.Parsers.{Step}
use Rattle.gimli_units_entries.specs.Range.{Range}
use Rattle.gimli_units_entries.specs.TheConstants.{DW_AT_low_pc, DW_AT_high_pc, DW_AT_ranges}
use Rattle.gimli_units_entries.specs.AttributeValues.{RawAttribute}
use Rattle.gimli_units_entries.specs.NamedAttributes.{is_name_of}
use Rattle.gimli_units_entries.specs.Results.{and_then, each}
use Rattle.addr2line_names.specs.UnitFacts.{UnitInFile, is_low_pc}
use Rattle.addr2line_names.specs.DeclarationFacts.{is_of_ranges, names_ranges}
use Rattle.addr2line_ranges.specs.Declarations.{Attribute}
use Rattle.addr2line_ranges.specs.UnitRanges.{RangeFact, begins_at, ends_at, has_size, has_list, no_fact, is_high_pc, is_ranges, fact_of, begin_in, end_in, size_in, list_in, last_of, low_to_high}
use Rattle.addr2line_ranges.specs.EntryRanges.{ranges_of_facts, ranges_of_entry}
use Rattle.addr2line_ranges.specs.LastFacts.{entry_ranges_in}
use Rattle.addr2line_ranges.proofs.UnitRangeLemmas.{entry_by_list}
use Rattle.addr2line_functions.specs.LastCallFacts.{is_ranging}

-- ---- lists

-- those of the results that count
abbrev counted : {Y : Type 0} → (Y → Bool) → Result (List Y) Error → Result (List Y) Error
counted counts r = and_then r (λ ys. Ok (filter counts ys))

-- what each element gives, where those that are left out give something that doesn't count
module _ {X Y : Type 0} (F : X → Result Y Error) (keeps : X → Bool) (counts : Y → Bool) (nothing : Y)
    (apart : counts nothing ≡ false) (gives_nothing : (x : X) → keeps x ≡ false → F x ≡ Ok nothing) where
  abbrev first_and : Result Y Error → Result (List Y) Error → Result (List Y) Error
  first_and r rest = and_then r (λ y. and_then rest (λ ys. Ok (y ∷ ys)))

  abbrev first_if_counts : Y → Result (List Y) Error → Result (List Y) Error
  first_if_counts y r = and_then r (λ ys. Ok (cond (counts y) (y ∷ ys) ys))

  abbrev ok_list : List Y → Result (List Y) Error
  ok_list ys = Ok ys

  counted-first : (y : Y) (r : Result (List Y) Error)
      → counted counts (first_and (Ok y) r) ≡ first_if_counts y (counted counts r)
  counted-first y (Ok ys) = refl
  counted-first y (Err e) = refl

  same-first : (y : Result Y Error) (r s : Result (List Y) Error) → counted counts r ≡ counted counts s
      → counted counts (first_and y r) ≡ counted counts (first_and y s)
  same-first (Ok y) r s h = counted-first y r ∙ ap (first_if_counts y) h ∙ sym (counted-first y s)
  same-first (Err e) r s h = refl

  nothing-first : (r : Result (List Y) Error) → counted counts (first_and (Ok nothing) r) ≡ counted counts r
  nothing-first (Ok ys) = ap (λ b. ok_list (cond b (nothing ∷ filter counts ys) (filter counts ys))) apart
  nothing-first (Err e) = refl

  each-filter : (xs : List X) → counted counts (each F (filter keeps xs)) ≡ counted counts (each F xs)
  each-filter [] = refl
  each-filter (x ∷ xs) = by_test (keeps x) refl (each-filter xs)
    where
      by_test : (t : Bool) → keeps x ≡ t → counted counts (each F (filter keeps xs)) ≡ counted counts (each F xs)
          → counted counts (each F (cond t (x ∷ filter keeps xs) (filter keeps xs)))
          ≡ counted counts (first_and (F x) (each F xs))
      by_test true is again = same-first (F x) (each F (filter keeps xs)) (each F xs) again
      by_test false is again =
          again
          ∙ sym (ap (λ y. counted counts (first_and y (each F xs))) (gives_nothing x is) ∙ nothing-first (each F xs))

-- what is picked of those that count is picked of all, where nothing is picked of the others
filter_map-filter : {Y Z : Type 0} (counts : Y → Bool) (pick : Y → Option Z)
    → ((y : Y) → counts y ≡ false → pick y ≡ None) → (ys : List Y)
    → filter_map pick (filter counts ys) ≡ filter_map pick ys
filter_map-filter counts pick none [] = refl
filter_map-filter {Y} {Z} counts pick none (y ∷ ys) = by_test (counts y) refl (filter_map-filter counts pick none ys)
  where
    by_test : (t : Bool) → counts y ≡ t → filter_map pick (filter counts ys) ≡ filter_map pick ys
        → filter_map pick (cond t (y ∷ filter counts ys) (filter counts ys)) ≡ cons_option (pick y) (filter_map pick ys)
    by_test true is again = ap (cons_option (pick y)) again
    by_test false is again = again ∙ ap (λ (o : Option Z). cons_option o (filter_map pick ys)) (sym (none y is))

-- ---- facts

abbrev is_fact : RangeFact → Bool
is_fact no_fact = false
is_fact _ = true

none_of_kind : {A : Type 0} (kind : RangeFact → Option A) → kind no_fact ≡ None → (f : RangeFact)
    → is_fact f ≡ false → kind f ≡ None
none_of_kind kind none (begins_at a) is = absurd cc
none_of_kind kind none (ends_at a) is = absurd cc
none_of_kind kind none (has_size n) is = absurd cc
none_of_kind kind none (has_list o) is = absurd cc
none_of_kind kind none no_fact is = none

last_of-facts : {A : Type 0} (kind : RangeFact → Option A) → kind no_fact ≡ None → (fs : List RangeFact)
    → last_of kind (filter is_fact fs) ≡ last_of kind fs
last_of-facts kind none fs = ap (last_or None) (filter_map-filter is_fact kind (none_of_kind kind none) fs)

-- ---- steps

-- a call that does what a step says does what another one says that gives the same there
pub steps_alike : {A B S : Type 0} (see : A → B) (result : Result A Error) (old new : S) (p q : Step S B)
    → p old ≡ q old → StepsAsOrNoMemory see result old new p → StepsAsOrNoMemory see result old new q
steps_alike see result old new p q same h = subst (λ r. ReadsAsOrNoMemory see result old new r) same h

-- ---- names

-- the attributes that are kept by a list of the names that say something of ranges
abbrev pub of_ranges : List RawAttribute → List RawAttribute
of_ranges attributes =
    filter (λ a. is_name_of (DW_AT_low_pc ∷ DW_AT_high_pc ∷ DW_AT_ranges ∷ []) a.name) attributes

flip : (m n : ℕ) → (m == n) ≡ (n == m)
flip m n = grind (arith, nat_tests)

or_false : (b : Bool) → (b || false) ≡ b
or_false true = refl
or_false false = refl

or_or : (x y z : Bool) → (x || y || z) ≡ (x || (y || z))
or_or true y z = refl
or_or false y z = refl

by_list : (n : ℕ) → is_name_of (DW_AT_low_pc ∷ DW_AT_high_pc ∷ DW_AT_ranges ∷ []) n ≡ is_ranging n
by_list n =
    ap (λ b. b || (DW_AT_high_pc.0 == n || (DW_AT_ranges.0 == n || false))) (flip DW_AT_low_pc.0 n)
    ∙ ap (λ b. is_low_pc n || (b || (DW_AT_ranges.0 == n || false))) (flip DW_AT_high_pc.0 n)
    ∙ ap (λ b. is_low_pc n || (is_high_pc n || b)) (or_false (DW_AT_ranges.0 == n) ∙ flip DW_AT_ranges.0 n)

abbrev is_named : Attribute → Bool
is_named s = is_name_of (DW_AT_low_pc ∷ DW_AT_high_pc ∷ DW_AT_ranges ∷ []) s.name

-- declarations that name none of these
pub without_ranges : (ss : List Attribute) → names_ranges ss ≡ false → list_any is_named ss ≡ false
without_ranges [] none = refl
without_ranges (s ∷ ss) none =
    by_first (is_of_ranges s.name) (names_ranges ss)
    (by_list s.name ∙ sym (or_or (is_low_pc s.name) (is_high_pc s.name) (is_ranges s.name))) (without_ranges ss) none
  where
    by_first : (first rest : Bool) → is_named s ≡ first → (rest ≡ false → list_any is_named ss ≡ false)
        → (first || rest) ≡ false → (is_named s || list_any is_named ss) ≡ false
    by_first true rest is others none = absurd cc
    by_first false rest is others none = ap (λ b. b || list_any is_named ss) is ∙ others none

none_of : (x y z : Bool) → (x || (y || z)) ≡ false → (x ≡ false) × (y ≡ false) × (z ≡ false)
none_of true y z none = absurd cc
none_of false true z none = absurd cc
none_of false false true none = absurd cc
none_of false false false none = (refl, refl, refl)

module _ (u : UnitInFile) where
  -- other attributes say nothing
  no_fact_of : (a : RawAttribute) → is_ranging a.name ≡ false → fact_of u a ≡ Ok no_fact
  no_fact_of a apart =
      let none = none_of (is_low_pc a.name) (is_high_pc a.name) (is_ranges a.name) apart in
      rw (none.0, none.1, none.2) refl

  abbrev ranges_by_facts : List RangeFact → Result (List Range) Error
  ranges_by_facts fs = ranges_of_facts u fs (last_of list_in fs)

  abbrev by_kinds : Option ℕ → Option ℕ → Option ℕ → Option (Option ℕ) → Result (List Range) Error
  by_kinds begin end size list = entry_ranges_in u (low_to_high begin end size) list

  facts_alone : (fs : List RangeFact) → ranges_by_facts (filter is_fact fs) ≡ ranges_by_facts fs
  facts_alone fs =
      let gs = filter is_fact fs in
      entry_by_list u gs (last_of list_in gs)
      ∙ ap (λ b. by_kinds b (last_of end_in gs) (last_of size_in gs) (last_of list_in gs))
      (last_of-facts begin_in refl fs)
      ∙ ap (λ e. by_kinds (last_of begin_in fs) e (last_of size_in gs) (last_of list_in gs))
      (last_of-facts end_in refl fs)
      ∙ ap (λ s. by_kinds (last_of begin_in fs) (last_of end_in fs) s (last_of list_in gs))
      (last_of-facts size_in refl fs)
      ∙ ap (λ l. by_kinds (last_of begin_in fs) (last_of end_in fs) (last_of size_in fs) l)
      (last_of-facts list_in refl fs)
      ∙ sym (entry_by_list u fs (last_of list_in fs))

  by_facts : (r : Result (List RangeFact) Error)
      → and_then r ranges_by_facts ≡ and_then (counted is_fact r) ranges_by_facts
  by_facts (Ok fs) = sym (facts_alone fs)
  by_facts (Err e) = refl

  -- the ranges of an entry are those by the attributes of these names
  pub ranges_of_entry-by_names : (attributes : List RawAttribute)
      → ranges_of_entry u (of_ranges attributes) ≡ ranges_of_entry u attributes
  ranges_of_entry-by_names attributes =
      by_facts (each (fact_of u) (of_ranges attributes))
      ∙ ap (λ r. and_then r ranges_by_facts)
      (each-filter (fact_of u) (λ a. is_name_of (DW_AT_low_pc ∷ DW_AT_high_pc ∷ DW_AT_ranges ∷ []) a.name) is_fact
      no_fact refl (λ a h. no_fact_of a (sym (by_list a.name) ∙ h)) attributes)
      ∙ sym (by_facts (each (fact_of u) attributes))
