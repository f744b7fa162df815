-- The ranges of a unit among all ranges of `.debug_aranges`, in the order of the section and in that of the units.
use Rattle.std.proofs.Common.{◌≡◌, ℕ, suc, ◌+◌, ◌-◌, ◌<◌, ◌≤◌, Bool, true, false, cond, nat_lt, List, [], ◌∷◌, ◌++◌, length, map, filter, flat_map, drop, take, get_or, Option, Some, None, option_map, Result, refl, sym, ap, ◌∙◌, inl, inr, arith, rules, tests}
use Rattle.std.specs.Prelude.{◌==◌}
use Rattle.std.specs.List.{filter_map, cons_option, prefix_len}
use Rattle.std.specs.List.Sorted.{IsNonDecreasingBy, IsPartitionPoint, IsStableByKey}
use Rattle.std.specs.Ordering.{nat_cmp}
use Rattle.std.proofs.lemmas.Bool.{cases_lt}
use Rattle.std.proofs.lemmas.Bool.Decides.{nat_tests}
use Rattle.std.proofs.lemmas.List.{map-append, get_or-drop, length-drop, take_all}
use Rattle.std.proofs.lemmas.List.Elements.{filter-append}
use Rattle.std.proofs.lemmas.List.Sorted.{IsNonDecreasingBy-drop}
use Rattle.std.proofs.lemmas.List.Sums.{prefix_len_is, prefix_len_stops}
use Rattle.gimli_lines_rows.specs.Error.{Error}
use Rattle.gimli_lines_rows.specs.Range.{Range}
use Rattle.gimli_lines_rows.specs.ArangeSets.{ArangeSet, ArangePair, pairs_of, aranges_to_come, sets_to_come}
use Rattle.gimli_lines_rows.specs.Tiling.{RemainingSection, whole_section}
use Rattle.gimli_dwarf.specs.DwarfFiles.{DwarfFile}
use Rattle.addr2line_index.specs.UnitRanges.{range_of_arange, ranges_of_aranges}
use Rattle.addr2line_index.proofs.StableOrder.{tie}
use Rattle.addr2line_ranges.specs.declared.unit_arange.UnitArange.{UnitArange}
use Rattle.addr2line_ranges.specs.ArangeIndexes.{arange_at, aranges_from, aranges_of_sets, ranges_at, offset_of, is_below, AscendsFrom}

-- ---- in the order of the section

module _ (offset : ℕ) where
  ranges_at-append : (xs ys : List UnitArange)
      → ranges_at offset (xs ++ ys) ≡ ranges_at offset xs ++ ranges_at offset ys
  ranges_at-append xs ys =
      ap (map (λ (a : UnitArange). a.range)) (filter-append (λ (a : UnitArange). a.offset == offset) xs ys)
      ∙ map-append (λ (a : UnitArange). a.range) (filter (λ (a : UnitArange). a.offset == offset) xs)
      (filter (λ (a : UnitArange). a.offset == offset) ys)

  one_entry : (n : ℕ) (b : Bool) → (n == offset) ≡ b → (o : Option Range) (xs : List UnitArange) (rs : List Range)
      → ranges_at offset xs ≡ cond b rs []
      → ranges_at offset (cons_option (option_map (λ r. record { offset = n; range = r }) o) xs)
      ≡ cond b (cons_option o rs) []
  one_entry n b is None xs rs same = same
  one_entry n true is (Some r) xs rs same =
      ap (λ b. map (λ (a : UnitArange). a.range)
      (cond b (record { offset = n; range = r } ∷ filter (λ (a : UnitArange). a.offset == offset) xs)
      (filter (λ (a : UnitArange). a.offset == offset) xs))) is
      ∙ ap (λ l. r ∷ l) same
  one_entry n false is (Some r) xs rs same =
      ap (λ b. map (λ (a : UnitArange). a.range)
      (cond b (record { offset = n; range = r } ∷ filter (λ (a : UnitArange). a.offset == offset) xs)
      (filter (λ (a : UnitArange). a.offset == offset) xs))) is
      ∙ same

  one_set : (n : ℕ) (b : Bool) → (n == offset) ≡ b → (ps : List (Result ArangePair Error))
      → ranges_at offset (filter_map (arange_at n) ps) ≡ cond b (filter_map range_of_arange ps) []
  one_set n true is [] = refl
  one_set n false is [] = refl
  one_set n b is (p ∷ ps) =
      one_entry n b is (range_of_arange p) (filter_map (arange_at n) ps) (filter_map range_of_arange ps)
      (one_set n b is ps)

  abbrev of_set : ArangeSet → List Range
  of_set set = filter_map range_of_arange (aranges_to_come (pairs_of set))

  abbrev is_here : ArangeSet → Bool
  is_here set = set.info_offset == offset

  set_first : (b : Bool) (s : ArangeSet) (ss : List ArangeSet)
      → cond b (of_set s) [] ++ flat_map of_set ss ≡ flat_map of_set (cond b (s ∷ ss) ss)
  set_first true s ss = refl
  set_first false s ss = refl

  -- all sets have the ranges of the unit's own
  pub of_all_sets : (sets : List ArangeSet)
      → ranges_at offset (aranges_of_sets sets) ≡ flat_map of_set (filter is_here sets)
  of_all_sets [] = refl
  of_all_sets (s ∷ ss) =
      ranges_at-append (aranges_from s.info_offset (pairs_of s)) (aranges_of_sets ss)
      ∙ ap (λ l. l ++ ranges_at offset (aranges_of_sets ss))
      (one_set s.info_offset (is_here s) refl (aranges_to_come (pairs_of s)))
      ∙ ap (λ l. cond (is_here s) (of_set s) [] ++ l) (of_all_sets ss)
      ∙ set_first (is_here s) s (filter is_here ss)

-- ---- in the order of the units

equal_tie : (a b : ℕ) → tie a b ≡ (b == a)
equal_tie a b =
    elim (cases_lt a b) [
      | inl below ↦ search (rules, tests)
      | inr over ↦ elim (cases_lt b a) [
        | inl above ↦ search (rules, tests)
        | inr level ↦ search (rules, tests)
      ]
    ]

filter_by : {X : Type 0} (p q : X → Bool) → ((x : X) → p x ≡ q x) → (xs : List X) → filter p xs ≡ filter q xs
filter_by p q same [] = refl
filter_by p q same (x ∷ xs) =
    ap (λ b. cond b (x ∷ filter p xs) (filter p xs)) (same x)
    ∙ ap (λ l. cond (q x) (x ∷ l) l) (filter_by p q same xs)

-- an entry of the unit at an offset
abbrev at : ℕ → UnitArange
at offset = record { offset = offset; range = record { begin = 0; end = 0 } }

-- a stable sort keeps the ranges of each unit in their order
pub sorted_ranges_at : (all sorted : List UnitArange) → IsStableByKey offset_of nat_cmp all sorted → (offset : ℕ)
    → ranges_at offset sorted ≡ ranges_at offset all
sorted_ranges_at all sorted stable offset =
    ap (map (λ (a : UnitArange). a.range))
    (sym (filter_by (λ a. tie offset a.offset) (λ a. a.offset == offset) (λ a. equal_tie offset a.offset) sorted)
    ∙ stable (at offset)
    ∙ filter_by (λ a. tie offset a.offset) (λ a. a.offset == offset) (λ a. equal_tie offset a.offset) all)

-- what a stable sort makes of the ranges of all sets has those of each unit
pub index_of_sets : (file : DwarfFile) (limit : ℕ) (section : RemainingSection) (all sorted : List UnitArange)
    → limit ≡ file.offset_limit → section ≡ whole_section file.sections.debug_aranges
    → all ≡ aranges_of_sets (sets_to_come limit section).items → IsStableByKey offset_of nat_cmp all sorted
    → (offset : ℕ) → ranges_at offset sorted ≡ ranges_of_aranges file offset
index_of_sets file limit section all sorted same whole made stable offset =
    sorted_ranges_at all sorted stable offset
    ∙ ap (ranges_at offset) made
    ∙ of_all_sets offset (sets_to_come limit section).items
    ∙ ap (λ n. flat_map (of_set offset) (filter (is_here offset) (sets_to_come n section).items)) same
    ∙ ap (λ s. flat_map (of_set offset) (filter (is_here offset) (sets_to_come file.offset_limit s).items)) whole

-- ---- the search

-- a partition point is the number of those before it
pub count_from_point : (offset : ℕ) (es : List UnitArange) (n : ℕ) → n ≤ length es
    → IsPartitionPoint (λ e. is_below offset e ≡ true) (λ e. is_below offset e ≡ false) es n
    → n ≡ prefix_len (is_below offset) es
count_from_point offset [] n le point = omega arith
count_from_point offset (e ∷ es) n le point =
    sym (prefix_len_is (is_below offset) (e ∷ es) n e le (λ k below. point.0 k e (omega arith) below)
    (λ below. point.1 n e (omega arith) below))

ascends : (low : ℕ) (es : List UnitArange) → IsNonDecreasingBy offset_of es
    → ((d : UnitArange) → 0 < length es → low ≤ offset_of (get_or es 0 d)) → AscendsFrom low es
ascends low [] up first = tt
ascends low (e ∷ es) up first = (
  first e (omega arith),
  ascends e.offset es (IsNonDecreasingBy-drop offset_of 1 (e ∷ es) up)
      (λ d below. up 0 1 d (omega arith) (omega arith)),
)

not_below : (offset n : ℕ) → nat_lt n offset ≡ false → offset ≤ n
not_below offset n h = grind (arith, nat_tests)

-- those from the first on that isn't below an offset
pub ascends_from_first : (offset : ℕ) (es : List UnitArange) → IsNonDecreasingBy offset_of es
    → AscendsFrom offset (drop (prefix_len (is_below offset) es) es)
ascends_from_first offset es up =
    let n = prefix_len (is_below offset) es in
    ascends offset (drop n es) (IsNonDecreasingBy-drop offset_of n es up)
    (λ d below.
    let long = length-drop n es in
    let here : n + 0 ≡ n = omega arith in
    let there : offset_of (get_or (drop n es) 0 d) ≡ offset_of (get_or es n d) =
    ap offset_of (get_or-drop n es 0 d) ∙ ap (λ k. offset_of (get_or es k d)) here in
    let first = not_below offset (get_or es n d).offset (prefix_len_stops (is_below offset) es d (omega arith)) in
    omega (arith, there, first))

below_is_other : (offset n : ℕ) → nat_lt n offset ≡ true → (n == offset) ≡ false
below_is_other offset n h = grind (arith, nat_tests)

one_before : (n : ℕ) → 1 + n ≡ suc n
one_before n = omega arith

-- those before are of other units
pub ranges_from_first : (offset : ℕ) (es : List UnitArange)
    → ranges_at offset (drop (prefix_len (is_below offset) es) es) ≡ ranges_at offset es
ranges_from_first offset [] = refl
ranges_from_first offset (e ∷ es) =
    elim (is_below offset e) as (λ b. is_below offset e ≡ b
    → ranges_at offset (drop (cond b (1 + prefix_len (is_below offset) es) 0) (e ∷ es)) ≡ ranges_at offset (e ∷ es)) [
      | true ↦ λ below.
          ap (λ n. ranges_at offset (drop n (e ∷ es))) (one_before (prefix_len (is_below offset) es))
          ∙ ranges_from_first offset es
          ∙ sym (ap (λ b. map (λ (a : UnitArange). a.range)
          (cond b (e ∷ filter (λ (a : UnitArange). a.offset == offset) es)
          (filter (λ (a : UnitArange). a.offset == offset) es))) (below_is_other offset e.offset below))
      | false ↦ λ _. refl
    ] refl

above_is_other : (offset n : ℕ) → offset < n → (n == offset) ≡ false
above_is_other offset n h = grind (arith, nat_tests)

-- none is of a unit below all
pub none_from_above : (offset low : ℕ) (es : List UnitArange) → offset < low → AscendsFrom low es
    → ranges_at offset es ≡ []
none_from_above offset low [] above up = refl
none_from_above offset low (e ∷ es) above up =
    ap (λ b. map (λ (a : UnitArange). a.range)
    (cond b (e ∷ filter (λ (a : UnitArange). a.offset == offset) es)
    (filter (λ (a : UnitArange). a.offset == offset) es))) (above_is_other offset e.offset (omega arith))
    ∙ none_from_above offset e.offset es (omega arith) up.1

-- ---- steps of a walk

-- what is left of a list from a place on
pub rest_of : (n : ℕ) (es : List UnitArange) → take (length es - n) (drop n es) ≡ drop n es
rest_of n es =
    ap (λ k. take k (drop n es)) (sym (length-drop n es)) ∙ take_all (length (drop n es)) (drop n es) (omega arith)

-- after a range of another unit there are none of this one
pub stop_ranges : (offset : ℕ) (es : List UnitArange) (d : UnitArange) → 1 ≤ length es → AscendsFrom offset es
    → ((get_or es 0 d).offset ≡ offset → ⊥) → ranges_at offset es ≡ []
stop_ranges offset [] d some up other = refl
stop_ranges offset (e ∷ es) d some up other =
    elim (cases_lt offset e.offset) [
      | inl above ↦ none_from_above offset e.offset (e ∷ es) above (omega arith, up.1)
      | inr under ↦ let level : e.offset ≡ offset = omega (arith, up.0) in absurd (other level)
    ]
