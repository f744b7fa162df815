-- The place of an address among units is the table's.
use Rattle.std.proofs.Common.{◌≡◌, ℕ, ◌+◌, ◌≤◌, Bool, true, false, cond, ◌||◌, nat_le, List, [], ◌∷◌, ◌++◌, length, map, flat_map, filter, Option, Some, None, option_map, option_and_then, Result, Ok, Err, append-nil, refl, sym, ap, ◌∙◌, arith}
use Rattle.std.specs.List.{list_any}
use Rattle.std.proofs.Math.Bool.{or-false}
use Rattle.std.proofs.lemmas.Bool.{or_parts}
use Rattle.std.proofs.lemmas.List.{length-append}
use Rattle.std.proofs.lemmas.List.Elements.{filter-append}
use Rattle.std.proofs.lemmas.List.Folds.{list_any-append}
use Rattle.addr2line_spec.specs.Error.{Error}
use Rattle.addr2line_spec.specs.Range.{Range}
use Rattle.addr2line_spec.specs.Choice.{holds}
use Rattle.addr2line_spec.specs.Lines.{Lines, Location}
use Rattle.addr2line_spec.specs.Pairs.{Pair, pairs_of, pairs_from, ends_after}
use Rattle.addr2line_spec.specs.PlaceLookups.{first_answer, place_or_refusal, location_at}
use Rattle.addr2line_spec.proofs.PairOrder.{order_of_one}
use Rattle.linemap_meaning.specs.TableParts.{RangePart, UnitPart}
use Rattle.linemap_meaning.specs.Conditions.{any_overlap, IsSound, has_sequences_overlap, has_sequence_with_bad_rows, has_bad_line_or_column, has_bad_file_number, is_bad_number, any_call}
use Rattle.linemap_meaning.specs.Meaning.{any_holds}
use Rattle.linemap_meaning.specs.Meaning as table
use Rattle.linemap_meaning.specs.declared.rule.Rule.TheVariants.{UnitsOverlap, SequencesOverlap, Rows, LineOrColumn, FileNumber}
use Rattle.linemap_meaning.proofs.SoundUnits.{sound_rule}
use Rattle.linemap_meaning.proofs.TableRangeHolders.{one_holder, rest_apart, not_in_rest}
use Rattle.linemap_places_laws.specs.LookupAgreement.{lookup_range, UnitAgrees, TableAgrees, lookup_location}
use Rattle.linemap_places_laws.proofs.AgreeingSequences.{all_good}
use Rattle.linemap_places_laws.proofs.UnitLocations.{location_agrees, all_rows_good}

-- what is known of the units of a sound table
record HasSoundUnits (us : List UnitPart) : Type 0 where
  apart : any_overlap (flat_map (λ u. u.ranges) us) ≡ false
  sequences_apart : list_any has_sequences_overlap us ≡ false
  rows : list_any has_sequence_with_bad_rows us ≡ false
  numbers : list_any has_bad_line_or_column us ≡ false
  files : list_any has_bad_file_number us ≡ false

sound_is_known : (us : List UnitPart) → IsSound us → HasSoundUnits us
sound_is_known us sound = record {
  apart = sound_rule us UnitsOverlap sound;
  sequences_apart = sound_rule us SequencesOverlap sound;
  rows = sound_rule us Rows sound;
  numbers = sound_rule us LineOrColumn sound;
  files = sound_rule us FileNumber sound;
}

-- ---- one unit

unit_place : (u : UnitPart) (ranges : List Range) (lines : Result Lines Error) (a : ℕ) → UnitAgrees u ranges lines
    → has_sequences_overlap u ≡ false → has_sequence_with_bad_rows u ≡ false → has_bad_line_or_column u ≡ false
    → has_bad_file_number u ≡ false → place_or_refusal a lines ≡ Ok (option_map lookup_location (table.place_in u a))
unit_place u ranges lines a agrees apart rows numbers files =
    let number_parts =
    or_parts (list_any (λ s. list_any (λ r. is_bad_number r.line || is_bad_number r.column) s.rows) u.sequences)
    (list_any (λ f. any_call (λ c. is_bad_number c.line || is_bad_number c.column) f.calls) u.functions) numbers in
    let file_parts =
    or_parts (list_any (λ s. list_any (λ r. nat_le (length u.files) r.file) s.rows) u.sequences)
    (list_any (λ f. any_call (λ c. nat_le (length u.files) c.file) f.calls) u.functions) files in
    ap (place_or_refusal a) agrees.lines_are
    ∙ ap (λ (o : Option Location). Ok o)
    (location_agrees agrees.number u agrees.files agrees.rows a agrees.rows_agree agrees.files_numbered
    (all_good u.sequences rows) (all_rows_good u u.sequences number_parts.0 file_parts.0) apart)

-- ---- the pairs of one unit

module _ {U : Type 0} (ranges : U → List Range) (lines : U → Result Lines Error) (a : ℕ) where
  abbrev covers : Pair U → Bool
  covers p = holds a p.range

  abbrev answer : Pair U → Result (Option Location) Error
  answer p = place_or_refusal a (lines p.unit)

  abbrev pair : ℕ → U → RangePart → Pair U
  pair n x r = record { range = lookup_range r; number = n; unit = x }

  -- where no range holds the address no pair covers it
  none_cover : (n : ℕ) (x : U) (rs : List RangePart) → any_holds a rs ≡ false
      → filter covers (map (λ r. record { range = r; number = n; unit = x }) (map lookup_range rs)) ≡ []
  none_cover n x [] h = refl
  none_cover n x (r ∷ rs) h =
      let parts = or_parts (table.holds a r) (any_holds a rs) h in
      ap (λ b. cond b
      (pair n x r ∷ filter covers (map (λ r. record { range = r; number = n; unit = x }) (map lookup_range rs)))
      (filter covers (map (λ r. record { range = r; number = n; unit = x }) (map lookup_range rs)))) parts.0
      ∙ none_cover n x rs parts.1

  -- pairs of a unit whose lines answer so, one of which covers the address
  answers_same : (n : ℕ) (x : U) (rs : List RangePart) (o : Option Location) → place_or_refusal a (lines x) ≡ Ok o
      → first_answer
      (map answer (filter covers (map (λ r. record { range = r; number = n; unit = x }) (map lookup_range rs))))
      ≡ Ok (cond (any_holds a rs) o None)
  answers_same n x [] o h = refl
  answers_same n x (r ∷ rs) o h = by_case (table.holds a r) o h (answers_same n x rs o h)
    where
      either_none : (b : Bool) → cond {A = Option Location} b None None ≡ None
      either_none true = refl
      either_none false = refl

      by_case : (b : Bool) (o : Option Location) → place_or_refusal a (lines x) ≡ Ok o
          → first_answer
          (map answer (filter covers (map (λ r. record { range = r; number = n; unit = x }) (map lookup_range rs))))
          ≡ Ok (cond (any_holds a rs) o None)
          → first_answer
          (map answer (cond b
          (pair n x r ∷ filter covers (map (λ r. record { range = r; number = n; unit = x }) (map lookup_range rs)))
          (filter covers (map (λ r. record { range = r; number = n; unit = x }) (map lookup_range rs)))))
          ≡ Ok (cond (b || any_holds a rs) o None)
      by_case false o h rest = rest
      by_case true (Some l) h rest = ap
          (λ q. first_answer
          (q ∷ map answer
          (filter covers (map (λ r. record { range = r; number = n; unit = x }) (map lookup_range rs)))))
          h
      by_case true None h rest = ap
          (λ q. first_answer
          (q ∷ map answer
          (filter covers (map (λ r. record { range = r; number = n; unit = x }) (map lookup_range rs)))))
          h ∙ rest ∙ ap (λ (p : Option Location). Ok p) (either_none (any_holds a rs))

  -- ---- all units

  -- where the first of two lists answers nothing, the second answers
  skip_none : (xs ys : List (Pair U)) → first_answer (map answer xs) ≡ Ok None
      → first_answer (map answer (xs ++ ys)) ≡ first_answer (map answer ys)
  skip_none [] ys h = refl
  skip_none (p ∷ xs) ys h = by_answer (answer p) h (skip_none xs ys)
    where
      by_answer : (r : Result (Option Location) Error) → first_answer (r ∷ map answer xs) ≡ Ok None
          → (first_answer (map answer xs) ≡ Ok None
          → first_answer (map answer (xs ++ ys)) ≡ first_answer (map answer ys))
          → first_answer (r ∷ map answer (xs ++ ys)) ≡ first_answer (map answer ys)
      by_answer (Ok None) h rest = rest h
      by_answer (Ok (Some l)) h rest = absurd cc
      by_answer (Err e) h rest = absurd cc

  -- where no unit holds the address no pair covers it
  none_covers : (n : ℕ) (us : List UnitPart) (xs : List U) → TableAgrees ranges lines us xs
      → any_holds a (flat_map (λ u. u.ranges) us) ≡ false → filter covers (pairs_from ranges n xs) ≡ []
  none_covers n [] [] agrees h = refl
  none_covers n [] (x ∷ xs) agrees h = absurd agrees
  none_covers n (u ∷ us) [] agrees h = absurd agrees
  none_covers n (u ∷ us) (x ∷ xs) agrees h =
      let parts =
      or_parts (any_holds a u.ranges) (any_holds a (flat_map (λ u. u.ranges) us))
      (sym (list_any-append (table.holds a) u.ranges (flat_map (λ u. u.ranges) us)) ∙ h) in
      filter-append covers (pairs_of ranges n x) (pairs_from ranges (n + 1) xs)
      ∙ ap (λ l. l ++ filter covers (pairs_from ranges (n + 1) xs))
      (ap (λ rs. filter covers (map (λ r. record { range = r; number = n; unit = x }) rs)) agrees.0.ranges_agree
      ∙ none_cover n x u.ranges parts.0)
      ∙ none_covers (n + 1) us xs agrees.1 parts.1

  count_here : (n : ℕ) (x : U) (rs : List RangePart)
      → length (filter covers (map (λ r. record { range = r; number = n; unit = x }) (map lookup_range rs)))
      ≡ length (filter (table.holds a) rs)
  count_here n x [] = refl
  count_here n x (r ∷ rs) = by_case (table.holds a r) (count_here n x rs)
    where
      by_case : (b : Bool)
          → length (filter covers (map (λ r. record { range = r; number = n; unit = x }) (map lookup_range rs)))
          ≡ length (filter (table.holds a) rs)
          → length (cond b
          (pair n x r ∷ filter covers (map (λ r. record { range = r; number = n; unit = x }) (map lookup_range rs)))
          (filter covers (map (λ r. record { range = r; number = n; unit = x }) (map lookup_range rs))))
          ≡ length (cond b (r ∷ filter (table.holds a) rs) (filter (table.holds a) rs))
      by_case true rest = omega (arith, rest)
      by_case false rest = rest

  -- as many pairs as ranges cover it
  as_many : (n : ℕ) (us : List UnitPart) (xs : List U) → TableAgrees ranges lines us xs
      → length (filter covers (pairs_from ranges n xs)) ≡ length (filter (table.holds a) (flat_map (λ u. u.ranges) us))
  as_many n [] [] agrees = refl
  as_many n [] (x ∷ xs) agrees = absurd agrees
  as_many n (u ∷ us) [] agrees = absurd agrees
  as_many n (u ∷ us) (x ∷ xs) agrees =
      let here =
      ap (λ rs. length (filter covers (map (λ r. record { range = r; number = n; unit = x }) rs)))
      agrees.0.ranges_agree ∙ count_here n x u.ranges in
      let there = as_many (n + 1) us xs agrees.1 in
      let left =
      ap length (filter-append covers (pairs_of ranges n x) (pairs_from ranges (n + 1) xs))
      ∙ length-append (filter covers (pairs_of ranges n x)) (filter covers (pairs_from ranges (n + 1) xs)) in
      let right =
      ap length (filter-append (table.holds a) u.ranges (flat_map (λ u. u.ranges) us))
      ∙ length-append (filter (table.holds a) u.ranges) (filter (table.holds a) (flat_map (λ u. u.ranges) us)) in
      omega (arith, here, there, left, right)

  -- the first pair that covers the address answers
  first_location : (n : ℕ) (us : List UnitPart) (xs : List U) → TableAgrees ranges lines us xs → HasSoundUnits us
      → first_answer (map answer (filter covers (pairs_from ranges n xs)))
      ≡ Ok (option_map lookup_location (table.location_at us a))
  first_location n [] [] agrees k = refl
  first_location n [] (x ∷ xs) agrees k = absurd agrees
  first_location n (u ∷ us) [] agrees k = absurd agrees
  first_location n (u ∷ us) (x ∷ xs) agrees k =
      let rest_known : HasSoundUnits us = record {
        apart = rest_apart u.ranges (flat_map (λ u. u.ranges) us) k.apart;
        sequences_apart = (or_parts (has_sequences_overlap u) (list_any has_sequences_overlap us) k.sequences_apart).1;
        rows = (or_parts (has_sequence_with_bad_rows u) (list_any has_sequence_with_bad_rows us) k.rows).1;
        numbers = (or_parts (has_bad_line_or_column u) (list_any has_bad_line_or_column us) k.numbers).1;
        files = (or_parts (has_bad_file_number u) (list_any has_bad_file_number us) k.files).1;
      } in
      let place =
      unit_place u (ranges x) (lines x) a agrees.0
      (or_parts (has_sequences_overlap u) (list_any has_sequences_overlap us) k.sequences_apart).0
      (or_parts (has_sequence_with_bad_rows u) (list_any has_sequence_with_bad_rows us) k.rows).0
      (or_parts (has_bad_line_or_column u) (list_any has_bad_line_or_column us) k.numbers).0
      (or_parts (has_bad_file_number u) (list_any has_bad_file_number us) k.files).0 in
      let here =
      ap (λ rs. first_answer
      (map answer (filter covers (map (λ r. record { range = r; number = n; unit = x }) rs)))) agrees.0.ranges_agree
      ∙ answers_same n x u.ranges (option_map lookup_location (table.place_in u a)) place in
      ap (λ l. first_answer (map answer l)) (filter-append covers (pairs_of ranges n x) (pairs_from ranges (n + 1) xs))
      ∙ by_case (any_holds a u.ranges) refl here (none_covers (n + 1) us xs agrees.1)
      (first_location (n + 1) us xs agrees.1 rest_known)
    where
      first : List (Pair U)
      first = filter covers (pairs_of ranges n x)

      others : List (Pair U)
      others = filter covers (pairs_from ranges (n + 1) xs)

      by_case : (b : Bool) → any_holds a u.ranges ≡ b → first_answer (map answer first)
          ≡ Ok (cond (any_holds a u.ranges) (option_map lookup_location (table.place_in u a)) None)
          → (any_holds a (flat_map (λ u. u.ranges) us) ≡ false → others ≡ [])
          → first_answer (map answer others) ≡ Ok (option_map lookup_location (table.location_at us a))
          → first_answer (map answer (first ++ others)) ≡ Ok (option_map lookup_location (table.location_at (u ∷ us) a))
      by_case true e here none rest =
          ap (λ l. first_answer (map answer (first ++ l)))
          (none (not_in_rest a u.ranges (flat_map (λ u. u.ranges) us) k.apart e))
          ∙ ap (λ l. first_answer (map answer l)) (append-nil first) ∙ here
          ∙ ap (λ b. Ok (cond b (option_map lookup_location (table.place_in u a)) None)) e
          ∙ sym (ap (λ b. Ok
          (option_map lookup_location
          (option_and_then (λ u. table.place_in u a) (cond b (Some u) (table.unit_at us a))))) e)
      by_case false e here none rest =
          skip_none first others (here ∙ ap (λ b. Ok (cond b (option_map lookup_location (table.place_in u a)) None)) e)
          ∙ rest
          ∙ sym (ap (λ b. Ok
          (option_map lookup_location
          (option_and_then (λ u. table.place_in u a) (cond b (Some u) (table.unit_at us a))))) e)

  -- ---- at most one pair

  -- each range by itself
  one_each : (rs : List RangePart) → flat_map (λ r. r ∷ []) rs ≡ rs
  one_each [] = refl
  one_each (r ∷ rs) = ap (λ l. r ∷ l) (one_each rs)

  same_filter : (rs : List RangePart) → filter (λ r. any_holds a (r ∷ [])) rs ≡ filter (table.holds a) rs
  same_filter [] = refl
  same_filter (r ∷ rs) =
      ap (λ b. cond b (r ∷ filter (λ r. any_holds a (r ∷ [])) rs) (filter (λ r. any_holds a (r ∷ [])) rs))
      (or-false (table.holds a r))
      ∙ ap (λ l. cond (table.holds a r) (r ∷ l) l) (same_filter rs)

  one_of : (rs : List RangePart) → any_overlap rs ≡ false → length (filter (table.holds a) rs) ≤ 1
  one_of rs apart =
      let few = one_holder (λ (r : RangePart). r ∷ []) a rs (ap any_overlap (one_each rs) ∙ apart) in
      let same = ap length (same_filter rs) in
      omega (arith, few, same)

  locations : (us : List UnitPart) (xs : List U) → IsSound us → TableAgrees ranges lines us xs
      → location_at ranges lines xs a ≡ Ok (option_map lookup_location (table.location_at us a))
  locations us xs sound agrees =
      let k = sound_is_known us sound in
      let few : length (filter covers (pairs_from ranges 0 xs)) ≤ 1 =
      omega (arith, one_of (flat_map (λ u. u.ranges) us) k.apart, as_many 0 us xs agrees) in
      ap (λ l. first_answer (map answer l)) (order_of_one ends_after covers (pairs_from ranges 0 xs) few)
      ∙ first_location 0 us xs agrees k

pub locations_meet : {U : Type 0} (ranges : U → List Range) (lines : U → Result Lines Error) (us : List UnitPart)
    (xs : List U) (a : ℕ) → IsSound us → TableAgrees ranges lines us xs
    → location_at ranges lines xs a ≡ Ok (option_map lookup_location (table.location_at us a))
locations_meet ranges lines us xs a sound agrees = locations ranges lines a us xs sound agrees
