-- The only unit that may know an address is the table's.
use Rattle.std.proofs.Common.{◌≡◌, ℕ, ◌+◌, ◌≤◌, Bool, true, false, cond, List, [], ◌∷◌, ◌++◌, length, map, flat_map, filter, find, Option, Some, None, option_map, Result, Ok, refl, sym, ap, subst, ◌∙◌, arith}
use Rattle.std.specs.List.{list_any}
use Rattle.std.proofs.lemmas.List.{map-append}
use Rattle.linemap_places_laws.specs.Error.{Error}
use Rattle.linemap_places_laws.specs.Range.{Range}
use Rattle.linemap_places_laws.specs.Choice.{holds}
use Rattle.linemap_places_laws.specs.Pairs.{Pair, pairs_from, ends_after, covering_pairs}
use Rattle.linemap_places_laws.proofs.PairOrder.{order_of_one}
use Rattle.linemap_places_laws.specs.TableParts.{RangePart, UnitPart}
use Rattle.linemap_places_laws.specs.Conditions.{IsSound, any_overlap}
use Rattle.linemap_places_laws.specs.Meaning as table
use Rattle.linemap_places_laws.specs.Rule.TheVariants.{UnitsOverlap}
use Rattle.linemap_places_laws.proofs.SoundUnits.{sound_rule}
use Rattle.linemap_places_laws.specs.LookupAgreement.{lookup_range}
use Rattle.linemap_frames_laws.specs.CallAgreement.{OneByOne, Likewise}
use Rattle.linemap_places_laws.specs.Frames.{Frame}
use Rattle.linemap_places_laws.specs.FrameLookups.{first_nonempty, frames_at}
use Rattle.linemap_frames_laws.specs.LookupFrameLaws.{FrameAgrees, UnitAnswerAgrees}
use Rattle.linemap_frames_laws.proofs.RangeCounts.{many, at_most_one}
use Rattle.linemap_frames_laws.proofs.RangeOwners.{ranges_among, ranges_of_pairs, owner_found, find_likewise}
use Rattle.linemap_frames_laws.proofs.AgreeingChains.{held_ranges_agree}
use Rattle.linemap_frames_laws.proofs.AgreeingFunctions.{all_left}

-- a list is the one unit that there is, or none
abbrev pub IsOnly : {U : Type 0} → (UnitPart → U → Type 0) → Option UnitPart → List (Pair U) → Type 0
IsOnly R None [] = Unit {0}
IsOnly R None (p ∷ ps) = ⊥
IsOnly R (Some u) [] = ⊥
IsOnly R (Some u) (p ∷ []) = R u p.unit
IsOnly R (Some u) (p ∷ q ∷ ps) = ⊥

abbrev option_list : {A : Type 0} → Option A → List A
option_list None = []
option_list (Some x) = x ∷ []

none_long : {A : Type 0} (xs : List A) → length xs ≡ 0 → xs ≡ []
none_long [] h = refl
none_long (x ∷ xs) h = absurd (omega (arith, h))

-- where at most one passes, what is left is what is found
left_is_found : {A : Type 0} (p : A → Bool) (xs : List A) → length (filter p xs) ≤ 1
    → filter p xs ≡ option_list (find p xs)
left_is_found p [] h = refl
left_is_found p (x ∷ xs) h = by_case (p x) h (left_is_found p xs)
  where
    by_case : (b : Bool) → length (cond b (x ∷ filter p xs) (filter p xs)) ≤ 1
        → (length (filter p xs) ≤ 1 → filter p xs ≡ option_list (find p xs))
        → cond b (x ∷ filter p xs) (filter p xs) ≡ option_list (cond b (Some x) (find p xs))
    by_case true h rest = ap (λ l. x ∷ l) (none_long (filter p xs) (omega (arith, h)))
    by_case false h rest = rest h

module _ {U : Type 0} (ranges : U → List Range) (a : ℕ) where
  abbrev covers : Pair U → Bool
  covers p = holds a p.range

  abbrev any_unit : U → Bool
  any_unit x = true

  abbrev ranges_of : List (Pair U) → List Range
  ranges_of ps = map (λ p. p.range) ps

  count_of_pairs : (ps : List (Pair U)) → length (filter covers ps) ≡ length (filter (holds a) (ranges_of ps))
  count_of_pairs [] = refl
  count_of_pairs (p ∷ ps) = by_case (covers p) (count_of_pairs ps)
    where
      by_case : (b : Bool) → length (filter covers ps) ≡ length (filter (holds a) (ranges_of ps))
          → length (cond b (p ∷ filter covers ps) (filter covers ps))
          ≡ length (cond b (p.range ∷ filter (holds a) (ranges_of ps)) (filter (holds a) (ranges_of ps)))
      by_case true rest = omega (arith, rest)
      by_case false rest = rest

  counts_agree : (rs : List RangePart) → length (filter (holds a) (map lookup_range rs)) ≡ many a rs
  counts_agree [] = refl
  counts_agree (r ∷ rs) = by_case (table.holds a r) (counts_agree rs)
    where
      by_case : (b : Bool) → length (filter (holds a) (map lookup_range rs)) ≡ many a rs
          → length (cond b (lookup_range r ∷ filter (holds a) (map lookup_range rs))
          (filter (holds a) (map lookup_range rs))) ≡ cond b 1 0 + many a rs
      by_case true rest = omega (arith, rest)
      by_case false rest = omega (arith, rest)

  all_pairs_left : (xs : List U) → filter (λ (p : Pair U). any_unit p.unit) (pairs_from ranges 0 xs)
      ≡ pairs_from ranges 0 xs
  all_pairs_left xs = all_left (pairs_from ranges 0 xs)

  module _ (R : UnitPart → U → Type 0) (same : (u : UnitPart) (x : U) → R u x → ranges x ≡ map lookup_range u.ranges)
    where
      ranges_agree : (us : List UnitPart) (xs : List U) → OneByOne R us xs
          → ranges_among ranges any_unit xs ≡ map lookup_range (flat_map (λ u. u.ranges) us)
      ranges_agree [] [] agrees = refl
      ranges_agree [] (x ∷ xs) agrees = absurd agrees
      ranges_agree (u ∷ us) [] agrees = absurd agrees
      ranges_agree (u ∷ us) (x ∷ xs) agrees =
          ap (λ rs. rs ++ ranges_among ranges any_unit xs) (same u x agrees.0)
          ∙ ap (λ l. map lookup_range u.ranges ++ l) (ranges_agree us xs agrees.1)
          ∙ sym (map-append lookup_range u.ranges (flat_map (λ u. u.ranges) us))

      few : (us : List UnitPart) (xs : List U) → OneByOne R us xs → any_overlap (flat_map (λ u. u.ranges) us) ≡ false
          → length (filter covers (pairs_from ranges 0 xs)) ≤ 1
      few us xs agrees apart =
          let all : List RangePart = flat_map (λ u. u.ranges) us in
          let pairs : ranges_of (pairs_from ranges 0 xs) ≡ map lookup_range all =
          sym (ap ranges_of (all_pairs_left xs)) ∙ ranges_of_pairs ranges any_unit 0 xs ∙ ranges_agree us xs agrees in
          let count : length (filter covers (pairs_from ranges 0 xs)) ≡ many a all =
          count_of_pairs (pairs_from ranges 0 xs) ∙ ap (λ rs. length (filter (holds a) rs)) pairs ∙ counts_agree all in
          let one : many a all ≤ 1 = at_most_one a all apart in
          omega (arith, count, one)

      only_by : (o : Option UnitPart) (q : Option (Pair U)) → Likewise R o (option_map (λ p. p.unit) q)
          → IsOnly R o (option_list q)
      only_by None None h = tt
      only_by None (Some p) h = absurd h
      only_by (Some u) None h = absurd h
      only_by (Some u) (Some p) h = h

      alike : (u : UnitPart) (x : U) → R u x → table.any_holds a u.ranges ≡ list_any (holds a) (ranges x)
      alike u x agrees = sym (ap (list_any (holds a)) (same u x agrees) ∙ held_ranges_agree a u.ranges)

      pub unit_is_only : (us : List UnitPart) (xs : List U) → any_overlap (flat_map (λ u. u.ranges) us) ≡ false
          → OneByOne R us xs → IsOnly R (table.unit_at us a) (covering_pairs ranges xs a)
      unit_is_only us xs apart agrees =
          let ps : List (Pair U) = pairs_from ranges 0 xs in
          let one : length (filter covers ps) ≤ 1 = few us xs agrees apart in
          let left : covering_pairs ranges xs a ≡ option_list (find covers ps) =
          order_of_one ends_after covers ps one ∙ left_is_found covers ps one in
          let owner : option_map (λ (p : Pair U). p.unit) (find covers ps)
          ≡ find (λ x. list_any (holds a) (ranges x)) xs =
          sym (ap (λ (l : List (Pair U)). option_map (λ (p : Pair U). p.unit) (find covers l)) (all_pairs_left xs))
          ∙ owner_found ranges any_unit a 0 xs in
          let found =
          find_likewise R (λ (u : UnitPart). table.any_holds a u.ranges) (λ (x : U). list_any (holds a) (ranges x))
          alike us xs agrees in
          let P : Option U → Type 0 = λ o. Likewise R (table.unit_at us a) o in
          let Q : List (Pair U) → Type 0 = λ l. IsOnly R (table.unit_at us a) l in
          subst Q (sym left) (only_by (table.unit_at us a) (find covers ps) (subst P (sym owner) found))

-- ---- its frames

first_one : (fs : List Frame) → first_nonempty (Ok fs ∷ []) ≡ Ok fs
first_one [] = refl
first_one (f ∷ fs) = refl

module _ {U : Type 0} (ranges : U → List Range) (frames : U → ℕ → Result (List Frame) Error) (a : ℕ) where
  frames_by : (o : Option UnitPart) (ps : List (Pair U)) → IsOnly (UnitAnswerAgrees ranges frames a) o ps
      → (fs : List Frame) × (first_nonempty (map (λ p. frames p.unit a) ps) ≡ Ok fs)
      × OneByOne FrameAgrees (table.frames_of_unit a o) fs
  frames_by None [] h = ([], refl, tt)
  frames_by None (p ∷ ps) h = absurd h
  frames_by (Some u) [] h = absurd h
  frames_by (Some u) (p ∷ []) h = (h.1.0, ap (λ r. first_nonempty (r ∷ [])) h.1.1 ∙ first_one h.1.0, h.1.2)
  frames_by (Some u) (p ∷ q ∷ ps) h = absurd h

pub tables_meet : {U : Type 0} (ranges : U → List Range) (frames : U → ℕ → Result (List Frame) Error)
    (us : List UnitPart) (xs : List U) (a : ℕ) → IsSound us → OneByOne (UnitAnswerAgrees ranges frames a) us xs
    → (fs : List Frame) × (frames_at ranges frames xs a ≡ Ok fs) × OneByOne FrameAgrees (table.frames_at us a) fs
tables_meet ranges frames us xs a sound agrees =
    frames_by ranges frames a (table.unit_at us a) (covering_pairs ranges xs a)
    (unit_is_only ranges a (UnitAnswerAgrees ranges frames a) (λ u x h. h.0) us xs (sound_rule us UnitsOverlap sound)
    agrees)
