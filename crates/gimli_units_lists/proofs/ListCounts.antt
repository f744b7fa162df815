-- What comes of a list is at most as many answers as it has bytes.
use Rattle.std.proofs.Common.{◌≡◌, ℕ, zero, suc, ◌≤◌, ◌<◌, Bool, true, false, eqb, List, [], ◌∷◌, ◌++◌, length, Option, Some, None, Result, Ok, Err, refl, ap, arith, length-append}
use Rattle.std.proofs.lemmas.Bool.{eqb-false}
use Rattle.gimli_core_readers.specs.Error.{Error}
use Rattle.gimli_core_readers.specs.View.{View, bytes_left}
use Rattle.gimli_core_readers.specs.Parsers.{Parser}
use Rattle.gimli_units_lists.specs.Lists.{entries_from}
use Rattle.gimli_units_lists.specs.ListResolutions.{base_after, answer_list, resolutions_after}
use Rattle.gimli_units_lists.specs.ListEntries.{base_in, range_of}
use Rattle.gimli_units_lists.specs.RangeEntries.{RemainingRawRanges, raw_ranges_to_come}
use Rattle.gimli_units_lists.specs.LocationEntries.{RemainingRawLocations, raw_locations_to_come, location_base_in, location_of}
use Rattle.gimli_units_lists.specs.ListSections.{RemainingRanges, ranges_to_come, RemainingLocations, locations_to_come}
use Rattle.gimli_units_lists.proofs.RangeEntrySizes.{range_entry_takes}
use Rattle.gimli_units_lists.proofs.LocationEntrySizes.{location_entry_takes}
use Rattle.gimli_units_lists.proofs.RawListSteps.{Takes, step, entry_here, come_none, come_item, come_end}

-- none or one
one_answer_at_most : {A : Type 0} (r : Result (Option A) Error) → length (answer_list r) ≤ 1
one_answer_at_most (Ok None) = omega arith
one_answer_at_most (Ok (Some x)) = omega arith
one_answer_at_most (Err e) = omega arith

-- each entry stands for at most one answer
pub few_resolutions : {E A : Type 0} (sets : E → Option ℕ) (resolve : ℕ → E → Result (Option A) Error) (first : ℕ)
    (before : List E) (answers : List (Result E Error))
    → length (resolutions_after sets resolve first before answers) ≤ length answers
few_resolutions sets resolve first before [] = omega arith
few_resolutions {E} {A} sets resolve first before (Ok e ∷ rest) =
    let one = one_answer_at_most (resolve (base_after sets first before) e) in
    let more = few_resolutions sets resolve first (before ++ e ∷ []) rest in
    omega (
      arith,
      length-append (answer_list (resolve (base_after sets first before) e))
          (resolutions_after sets resolve first (before ++ e ∷ []) rest),
      one,
      more,
    )
few_resolutions sets resolve first before (Err d ∷ rest) =
    let more = few_resolutions sets resolve first before rest in omega (arith, more)

-- by what is read first, where some byte is left
by_item : {A : Type 0} {p : Parser (Option A)} → Takes p → (v : View) (o : Option A) (w : View) → p v ≡ Ok (o, w)
    → (eqb (length v.bytes) 0) ≡ false
    → ((u : View) → bytes_left u < bytes_left v → length (entries_from p u) ≤ bytes_left u)
    → length (entries_from p v) ≤ bytes_left v
by_item h v None w e some k = let is = come_end h v w some e in omega (arith, ap length is)
by_item {A} {p} h v (Some x) w e some k =
    let is = come_item h v w x some e in
    let lt : bytes_left w < bytes_left v = (h.some v (bytes_left v) (omega arith)).left x w e in
    let more = k w lt in
    omega (arith, ap length is, more, lt)

by_read : {A : Type 0} {p : Parser (Option A)} → Takes p → (v : View) (r : Result (Option A × View) Error) → p v ≡ r
    → (eqb (length v.bytes) 0) ≡ false
    → ((u : View) → bytes_left u < bytes_left v → length (entries_from p u) ≤ bytes_left u)
    → length (entries_from p v) ≤ bytes_left v
by_read h v (Ok r) e some k = by_item h v r.0 r.1 e some k
by_read {A} {p} h v (Err d) e some k =
    let is = step h v (Err d) (entry_here p v (Err d) some e) in
    let ne = eqb-false (length v.bytes) 0 some in
    omega (arith, ap length is, ne)

by_place : {A : Type 0} {p : Parser (Option A)} → Takes p → (v : View) (b : Bool) → (eqb (length v.bytes) 0) ≡ b
    → ((u : View) → bytes_left u < bytes_left v → length (entries_from p u) ≤ bytes_left u)
    → length (entries_from p v) ≤ bytes_left v
by_place h v true none k = let is = come_none h v none in omega (arith, ap length is)
by_place {A} {p} h v false some k = by_read h v (p v) refl some k

-- each answer takes a byte
few_within : {A : Type 0} {p : Parser (Option A)} → Takes p → (n : ℕ) (v : View) → bytes_left v < n
    → length (entries_from p v) ≤ bytes_left v
few_within h zero v lt = absurd (omega arith)
few_within {A} {p} h (suc n) v lt =
    by_place h v (eqb (length v.bytes) 0) refl (λ u less. few_within h n u (omega arith))

pub few_answers : {A : Type 0} {p : Parser (Option A)} → Takes p → (v : View) → length (entries_from p v) ≤ bytes_left v
few_answers h v = few_within h (suc (bytes_left v)) v (omega arith)

-- ---- lists

pub few_raw_ranges : (limit : ℕ) (r : RemainingRawRanges) → length (raw_ranges_to_come limit r) ≤ bytes_left r.rest
few_raw_ranges limit r = few_answers (range_entry_takes limit r.encoding) r.rest

pub few_ranges : (limit : ℕ) (r : RemainingRanges) → length (ranges_to_come limit r) ≤ bytes_left r.raw.rest
few_ranges limit r =
    let raw = few_raw_ranges limit r.raw in
    let some = few_resolutions (base_in r.against.setting) (range_of r.against.setting) r.against.base []
    (raw_ranges_to_come limit r.raw) in
    omega (arith, raw, some)

pub few_raw_locations : (limit : ℕ) (r : RemainingRawLocations)
    → length (raw_locations_to_come limit r) ≤ bytes_left r.rest
few_raw_locations limit r = few_answers (location_entry_takes limit r.encoding r.by_kind) r.rest

pub few_locations : (limit : ℕ) (r : RemainingLocations) → length (locations_to_come limit r) ≤ bytes_left r.raw.rest
few_locations limit r =
    let raw = few_raw_locations limit r.raw in
    let some = few_resolutions (location_base_in r.against.setting) (location_of r.against.setting) r.against.base []
    (raw_locations_to_come limit r.raw) in
    omega (arith, raw, some)
