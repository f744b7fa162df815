-- From the stretches of a sequence to those of a unit and of a table.
use Rattle.std.proofs.Common.{◌≡◌, ℕ, ◌<◌, ◌≤◌, Bool, true, false, cond, ◌||◌, ◌==◌, nat_lt, nat_le, List, [], ◌∷◌, ◌++◌, length, map, filter, find, flat_map, Option, Some, None, option_map, option_to_list, refl, sym, ap, ◌∙◌, arith}
use Rattle.std.specs.List.{list_any}
use Rattle.std.specs.Option.{option_and_then}
use Rattle.std.proofs.lemmas.Bool.{leb-true, ltb-true, le-leb, lt-ltb, and_parts, and_from, or_parts, or_from, both_ways, not-false}
use Rattle.std.proofs.lemmas.List.{map-append, append-nil}
use Rattle.std.proofs.lemmas.List.Elements.{filter-append}
use Rattle.std.proofs.lemmas.List.Folds.{list_any-append}
use Rattle.linemap_meaning.specs.TableParts.{RangePart, SequencePart, UnitPart}
use Rattle.linemap_meaning.specs.Conditions.{is_within, is_outside, any_outside, goes_back, has_bad_rows, has_sequence_with_bad_rows, has_sequences_overlap, has_sequence_outside, span, spans, IsSound}
use Rattle.linemap_meaning.specs.Meaning.{Location, Stretch, holds, any_holds, sequence_at, last_row, row_location, row_stretches, unit_stretches, place_in, unit_at, location_at}
use Rattle.linemap_meaning.specs.StretchLaws.{stretch_holds, stretch_locations}
use Rattle.linemap_meaning.specs.declared.rule.Rule.TheVariants.{UnitsOverlap, SequenceOutside, SequencesOverlap, Rows}
use Rattle.linemap_meaning.proofs.SoundUnits.{sound_rule}
use Rattle.linemap_meaning.proofs.TableRangeHolders.{one_holder}
use Rattle.linemap_meaning.proofs.SequenceStretches.{is_past, in_sequence}

-- ---- pieces

stretch_locations-append : (a : ℕ) (ss ts : List Stretch) → stretch_locations a (ss ++ ts)
    ≡ stretch_locations a ss ++ stretch_locations a ts
stretch_locations-append a ss ts =
    ap (λ xs. map (λ (s : Stretch). s.location) xs) (filter-append (stretch_holds a) ss ts)
    ∙ map-append (λ (s : Stretch). s.location) (filter (stretch_holds a) ss) (filter (stretch_holds a) ts)

-- pieces that answer the same at each element that isn't bad
stretch_locations-flat_map : {X : Type 0} (a : ℕ) (f : X → List Stretch) (g : X → List Location) (bad : X → Bool)
    (xs : List X)
    → ((x : X) → bad x ≡ false → stretch_locations a (f x) ≡ g x) → list_any bad xs ≡ false
    → stretch_locations a (flat_map f xs) ≡ flat_map g xs
stretch_locations-flat_map a f g bad [] same good = refl
stretch_locations-flat_map a f g bad (x ∷ xs) same good =
    let parts = or_parts (bad x) (list_any bad xs) good in
    stretch_locations-append a (f x) (flat_map f xs)
    ∙ ap (λ ls. ls ++ stretch_locations a (flat_map f xs)) (same x parts.0)
    ∙ ap (λ ls. g x ++ ls) (stretch_locations-flat_map a f g bad xs same parts.1)

-- ---- where one element at most passes, the search finds all that pass

abbrev of_found : {X : Type 0} → (X → List Location) → Option X → List Location
of_found g None = []
of_found g (Some x) = g x

none_pass : {X : Type 0} (test : X → Bool) (g : X → List Location) (xs : List X) → filter test xs ≡ []
    → flat_map (λ x. cond (test x) (g x) []) xs ≡ []
none_pass test g [] h = refl
none_pass test g (x ∷ xs) h =
    elim (test x) as (λ b. cond b (x ∷ filter test xs) (filter test xs) ≡ []
    → (cond b (g x) [] ++ flat_map (λ x. cond (test x) (g x) []) xs) ≡ []) [
      | true ↦ λ h. cc
      | false ↦ λ h. none_pass test g xs h
    ] h

empty_of_length : {X : Type 0} (xs : List X) → length xs ≤ 0 → xs ≡ []
empty_of_length [] h = refl
empty_of_length (x ∷ xs) h = absurd (omega arith)

only_found : {X : Type 0} (test : X → Bool) (g : X → List Location) (xs : List X)
    → length (filter test xs) ≤ 1 → flat_map (λ x. cond (test x) (g x) []) xs ≡ of_found g (find test xs)
only_found test g [] h = refl
only_found test g (x ∷ xs) h =
    elim (test x) as (λ b. length (cond b (x ∷ filter test xs) (filter test xs)) ≤ 1
    → (cond b (g x) [] ++ flat_map (λ x. cond (test x) (g x) []) xs) ≡ of_found g (cond b (Some x) (find test xs))) [
      | true ↦ λ h. ap (λ ls. g x ++ ls) (none_pass test g xs (empty_of_length (filter test xs) (omega arith)))
          ∙ append-nil (g x)
      | false ↦ λ h. only_found test g xs h
    ] h

-- ---- a unit

abbrev is_holder : ℕ → SequencePart → Bool
is_holder a s = any_holds a (span s)

abbrev row_answer : UnitPart → ℕ → SequencePart → List Location
row_answer u a s = option_to_list (option_map (row_location u) (last_row s.rows a))

of_sequence : (u : UnitPart) (a : ℕ) (s : SequencePart) → has_bad_rows s ≡ false
    → stretch_locations a (row_stretches u s.end s.rows) ≡ cond (is_holder a s) (row_answer u a s) []
of_sequence u a s good =
    let p = or_parts ((length s.rows == 0) || goes_back s.rows) (list_any (is_past s.end) s.rows) good in
    let q = or_parts (length s.rows == 0) (goes_back s.rows) p.0 in
    in_sequence u a s.end s.rows q.1 p.1

answer_of_found : (u : UnitPart) (a : ℕ) (o : Option SequencePart)
    → of_found (row_answer u a) o
    ≡ option_to_list (option_map (row_location u) (option_and_then (λ s. last_row s.rows a) o))
answer_of_found u a None = refl
answer_of_found u a (Some s) = refl

in_unit : (u : UnitPart) (a : ℕ) → has_sequence_with_bad_rows u ≡ false → has_sequences_overlap u ≡ false
    → stretch_locations a (unit_stretches u) ≡ option_to_list (place_in u a)
in_unit u a good apart =
    stretch_locations-flat_map a (λ (s : SequencePart). row_stretches u s.end s.rows)
    (λ s. cond (is_holder a s) (row_answer u a s) []) has_bad_rows u.sequences (of_sequence u a) good
    ∙ only_found (is_holder a) (row_answer u a) u.sequences (one_holder span a u.sequences apart)
    ∙ answer_of_found u a (sequence_at u a)

-- ---- outside a unit's ranges

held_by_whole : (a : ℕ) (r whole : RangePart) → is_within r whole ≡ true → holds a r ≡ true → holds a whole ≡ true
held_by_whole a r whole inside h =
    let p = and_parts (nat_le whole.begin r.begin) (nat_le r.end whole.end) inside in
    let q = and_parts (nat_le r.begin a) (nat_lt a r.end) h in
    let p0 : whole.begin ≤ r.begin = leb-true whole.begin r.begin p.0 in
    let p1 : r.end ≤ whole.end = leb-true r.end whole.end p.1 in
    let q0 : r.begin ≤ a = leb-true r.begin a q.0 in
    let q1 : a < r.end = ltb-true a r.end q.1 in
    and_from _ _ (le-leb whole.begin a (omega arith)) (lt-ltb a whole.end (omega arith))

-- a range in one of the parent's ranges holds nothing that the parent doesn't
not_held_inside : (a : ℕ) (parent : List RangePart) (r : RangePart) → any_holds a parent ≡ false
    → list_any (is_within r) parent ≡ true → holds a r ≡ true → ⊥
not_held_inside a [] r none inside h = both_ways false refl inside
not_held_inside a (whole ∷ parent) r none inside h =
    let p = or_parts (holds a whole) (any_holds a parent) none in
    elim (is_within r whole) as (λ b. is_within r whole ≡ b → (b || list_any (is_within r) parent) ≡ true → ⊥) [
      | true ↦ λ e _. both_ways (holds a whole) p.0 (held_by_whole a r whole e h)
      | false ↦ λ _ i. not_held_inside a parent r p.1 i h
    ] refl inside

none_held_inside : (a : ℕ) (parent rs : List RangePart) → any_holds a parent ≡ false → any_outside parent rs ≡ false
    → any_holds a rs ≡ false
none_held_inside a parent [] none inside = refl
none_held_inside a parent (r ∷ rs) none inside =
    let p = or_parts (is_outside parent r) (any_outside parent rs) inside in
    or_from (holds a r) (any_holds a rs)
    (elim (holds a r) as (λ b. holds a r ≡ b → b ≡ false) [
      | true ↦ λ e. absurd (not_held_inside a parent r none (not-false (list_any (is_within r) parent) p.0) e)
      | false ↦ λ _. refl
    ] refl)
    (none_held_inside a parent rs none p.1)

none_held : (a : ℕ) (ss : List SequencePart) → any_holds a (flat_map span ss) ≡ false → find (is_holder a) ss ≡ None
none_held a [] h = refl
none_held a (s ∷ ss) h =
    let p =
    or_parts (is_holder a s) (any_holds a (flat_map span ss))
    (sym (list_any-append (holds a) (span s) (flat_map span ss)) ∙ h) in
    ap (λ b. cond b (Some s) (find (is_holder a) ss)) p.0 ∙ none_held a ss p.1

nothing_outside : (u : UnitPart) (a : ℕ) → has_sequence_outside u ≡ false → any_holds a u.ranges ≡ false
    → place_in u a ≡ None
nothing_outside u a inside none =
    ap (λ o. option_map (row_location u) (option_and_then (λ s. last_row s.rows a) o))
    (none_held a u.sequences (none_held_inside a u.ranges (spans u) none inside))

-- ---- a table

abbrev any_of_three : UnitPart → Bool
any_of_three u = has_sequence_with_bad_rows u || (has_sequences_overlap u || has_sequence_outside u)

none_of_three : (us : List UnitPart) → list_any has_sequence_with_bad_rows us ≡ false
    → list_any has_sequences_overlap us ≡ false
    → list_any has_sequence_outside us ≡ false → list_any any_of_three us ≡ false
none_of_three [] h k l = refl
none_of_three (u ∷ us) h k l =
    let p = or_parts (has_sequence_with_bad_rows u) (list_any has_sequence_with_bad_rows us) h in
    let q = or_parts (has_sequences_overlap u) (list_any has_sequences_overlap us) k in
    let r = or_parts (has_sequence_outside u) (list_any has_sequence_outside us) l in
    or_from (any_of_three u) (list_any any_of_three us)
    (or_from (has_sequence_with_bad_rows u) (has_sequences_overlap u || has_sequence_outside u) p.0
    (or_from (has_sequences_overlap u) (has_sequence_outside u) q.0 r.0))
    (none_of_three us p.1 q.1 r.1)

abbrev unit_answer : ℕ → UnitPart → List Location
unit_answer a u = option_to_list (place_in u a)

of_unit : (a : ℕ) (u : UnitPart) → any_of_three u ≡ false
    → stretch_locations a (unit_stretches u) ≡ cond (any_holds a u.ranges) (unit_answer a u) []
of_unit a u good =
    let p = or_parts (has_sequence_with_bad_rows u) (has_sequences_overlap u || has_sequence_outside u) good in
    let q = or_parts (has_sequences_overlap u) (has_sequence_outside u) p.1 in
    in_unit u a p.0 q.0
    ∙ elim (any_holds a u.ranges) as (λ b. any_holds a u.ranges ≡ b → unit_answer a u ≡ cond b (unit_answer a u) []) [
      | true ↦ λ _. refl
      | false ↦ λ e. ap option_to_list (nothing_outside u a q.1 e)
    ] refl

answer_of_unit : (a : ℕ) (o : Option UnitPart)
    → of_found (unit_answer a) o ≡ option_to_list (option_and_then (λ u. place_in u a) o)
answer_of_unit a None = refl
answer_of_unit a (Some u) = refl

pub stretches_answer : (us : List UnitPart) (a : ℕ) → IsSound us
    → stretch_locations a (flat_map unit_stretches us) ≡ option_to_list (location_at us a)
stretches_answer us a sound =
    stretch_locations-flat_map a unit_stretches (λ u. cond (any_holds a u.ranges) (unit_answer a u) []) any_of_three us
    (of_unit a)
    (none_of_three us (sound_rule us Rows sound) (sound_rule us SequencesOverlap sound)
    (sound_rule us SequenceOutside sound))
    ∙ only_found (λ (u : UnitPart). any_holds a u.ranges) (unit_answer a) us
    (one_holder (λ (u : UnitPart). u.ranges) a us (sound_rule us UnitsOverlap sound))
    ∙ answer_of_unit a (unit_at us a)
