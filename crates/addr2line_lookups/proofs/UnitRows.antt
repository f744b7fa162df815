-- What the unit of a number answers.
use Rattle.std.proofs.Common.{◌≡◌, ℕ, true, List, ◌∷◌, Option, Some, None, is_some, Result, Ok, Err, refl, sym, ap, ◌∙◌, subst, slice_get, get_or, set, map, option_map, length, ◌<◌}
use Rattle.std.specs.Prelude.{option_and_then}
use Rattle.std.proofs.lemmas.Option.{slice_get-map, slice_get-get_or}
use Rattle.std.proofs.Math.Seq.{map-set_same}
use Rattle.addr2line_unit.specs.Error.{Error}
use Rattle.addr2line_unit.specs.Results.{and_then}
use Rattle.addr2line_unit.specs.Lines.{Lines, LineRow, Location, row_at, row_location}
use Rattle.addr2line_unit.specs.PlaceLookups.{first_answer, place_or_refusal, location_at}
use Rattle.addr2line_unit.specs.Contexts.{ContextUnit, ranges_of, lines_of}
use Rattle.addr2line_unit.specs.UnitRange.{UnitRange}
use Rattle.addr2line_unit.specs.RangeIndexLaws.{answer_from}
use Rattle.addr2line_unit.specs.NumberedRanges.{covering_ranges}
use Rattle.addr2line_unit.specs.UnitPlaces.{answer_of, answer_at}
use Rattle.addr2line_unit.proofs.UnitAnswers.{location_by_numbers}
use Rattle.addr2line_unit.proofs.UnitViews.{places_of_views}
use Rattle.addr2line_unit.specs.ContextUnits.{unit_places, ordered_ranges}
use Rattle.addr2line_unit.specs.ResolvedUnits.{ResolvedUnit, value_of_unit, plain_unit, row_or_refusal, location_of_row}
use Rattle.addr2line_lookups.specs.declared.settle.UnitRow.{UnitRow}
use Rattle.addr2line_lookups.specs.KeptUnits.{FindsRow, row_of_unit, row_at_number, location_of_unit_row, check_of, check_at}
use Rattle.addr2line_lookups.proofs.KeptLines.{same_plain}

-- ---- by its number

row_by_number : (us : List ResolvedUnit) (a n : ℕ) (o : Option ResolvedUnit) → o ≡ slice_get us n
    → row_at_number (map plain_unit us) a n ≡ row_of_unit a (option_map plain_unit o)
row_by_number us a n o found =
    ap (row_of_unit a) (slice_get-map plain_unit us n ∙ ap (option_map plain_unit) (sym found))

-- the place of a row in the lines of the unit of a number
pub location_by_number : (us : List ResolvedUnit) (r : UnitRow) (o : Option ResolvedUnit) → o ≡ slice_get us r.unit
    → location_of_unit_row (map plain_unit us) r
    ≡ option_and_then (λ (u : ContextUnit). location_of_row r.row u.lines) (option_map plain_unit o)
location_by_number us r o found =
    ap (option_and_then (λ (u : ContextUnit). location_of_row r.row u.lines))
    (slice_get-map plain_unit us r.unit ∙ ap (option_map plain_unit) (sym found))

module _ (us : List ResolvedUnit) (n : ℕ) where
  found_unit : (u : ResolvedUnit) → n < length us → u ≡ get_or us n u → Some u ≡ slice_get us n
  found_unit u below is = ap Some is ∙ sym (slice_get-get_or us n u below)

  -- of a unit that is there
  pub row_here : (a : ℕ) (u : ResolvedUnit) → n < length us → u ≡ get_or us n u
      → row_at_number (map plain_unit us) a n ≡ row_or_refusal a u.value.unit.lines
  row_here a u below is = row_by_number us a n (Some u) (found_unit u below is)

  check_of_unit : (o : Option ResolvedUnit) → o ≡ slice_get us n
      → check_at (map plain_unit us) n ≡ check_of (option_map plain_unit o)
  check_of_unit o found =
      ap check_of (slice_get-map plain_unit us n ∙ ap (option_map plain_unit) (sym found))

  pub check_here : (u : ResolvedUnit) → n < length us → u ≡ get_or us n u
      → check_at (map plain_unit us) n ≡ and_then u.value.unit.lines (λ lines. Ok tt)
  check_here u below is = check_of_unit (Some u) (found_unit u below is)

-- the values of units after one of them was put back with its value
pub same_values : (us : List ResolvedUnit) (n : ℕ) (u new : ResolvedUnit) → u ≡ get_or us n u → new.value ≡ u.value
    → map value_of_unit (set us n new) ≡ map value_of_unit us
same_values us n u new is same = map-set_same value_of_unit us n new u (same ∙ ap value_of_unit is)

-- ---- one after the other

-- before the first range that covers an address
pub answers_start : (us : List ContextUnit) (a : ℕ) (all rs : List UnitRange) → all ≡ ordered_ranges us
    → rs ≡ covering_ranges a all
    → location_at ranges_of lines_of us a ≡ answer_from (map unit_places us) a rs
answers_start us a all rs ordered covering =
    sym (places_of_views unit_places us a)
    ∙ location_by_numbers (map unit_places us) a rs (covering ∙ ap (covering_ranges a) ordered)

-- ---- by rows

abbrev answer_of_unit : ℕ → Option ContextUnit → Result (Option Location) Error
answer_of_unit a o = answer_of a (option_map unit_places o)

-- a row that was found, if one was
abbrev pub ok_row : Option LineRow → Result (Option LineRow) Error
ok_row o = Ok o

lines_with_row : (a : ℕ) (r : LineRow) (l : Result Lines Error) (rest : List (Result (Option Location) Error))
    → row_or_refusal a l ≡ Ok (Some r) → first_answer (place_or_refusal a l ∷ rest) ≡ Ok (location_of_row r l)
lines_with_row a r (Ok l) rest h =
    let row : row_at l a ≡ Some r = cc in
    ap (λ o. first_answer (Ok (option_map (row_location l.files) o) ∷ rest)) row
lines_with_row a r (Err e) rest h = absurd cc

lines_without_row : (a : ℕ) (l : Result Lines Error) (rest : List (Result (Option Location) Error))
    → row_or_refusal a l ≡ Ok None → first_answer (place_or_refusal a l ∷ rest) ≡ first_answer rest
lines_without_row a (Ok l) rest h =
    let row : row_at l a ≡ None = cc in
    ap (λ o. first_answer (Ok (option_map (row_location l.files) o) ∷ rest)) row
lines_without_row a (Err e) rest h = absurd cc

refused_lines : (a : ℕ) (l : Result Lines Error) (rest : List (Result (Option Location) Error)) (e : Error)
    → row_or_refusal a l ≡ Err e → first_answer (place_or_refusal a l ∷ rest) ≡ Err e
refused_lines a (Ok l) rest e h = absurd cc
refused_lines a (Err d) rest e h = let same : d ≡ e = cc in ap Err same

-- a unit that has a row answers
unit_with_row : (a : ℕ) (r : LineRow) (o : Option ContextUnit) (rest : List (Result (Option Location) Error))
    → row_of_unit a o ≡ Ok (Some r)
    → first_answer (answer_of_unit a o ∷ rest)
    ≡ Ok (option_and_then (λ (u : ContextUnit). location_of_row r u.lines) o)
unit_with_row a r None rest h = absurd cc
unit_with_row a r (Some u) rest h = lines_with_row a r u.lines rest h

-- which is a place
lines_have_place : (a : ℕ) (r : LineRow) (l : Result Lines Error) → row_or_refusal a l ≡ Ok (Some r)
    → is_some (location_of_row r l) ≡ true
lines_have_place a r (Ok l) h = refl
lines_have_place a r (Err e) h = absurd cc

unit_has_place : (a : ℕ) (r : LineRow) (o : Option ContextUnit) → row_of_unit a o ≡ Ok (Some r)
    → is_some (option_and_then (λ (u : ContextUnit). location_of_row r u.lines) o) ≡ true
unit_has_place a r None h = absurd cc
unit_has_place a r (Some u) h = lines_have_place a r u.lines h

-- one that has none doesn't
unit_without_row : (a : ℕ) (o : Option ContextUnit) (rest : List (Result (Option Location) Error))
    → row_of_unit a o ≡ Ok None → first_answer (answer_of_unit a o ∷ rest) ≡ first_answer rest
unit_without_row a None rest h = refl
unit_without_row a (Some u) rest h = lines_without_row a u.lines rest h

-- a refusal is the answer
refused_unit : (a : ℕ) (o : Option ContextUnit) (rest : List (Result (Option Location) Error)) (e : Error)
    → row_of_unit a o ≡ Err e → first_answer (answer_of_unit a o ∷ rest) ≡ Err e
refused_unit a None rest e h = absurd cc
refused_unit a (Some u) rest e h = refused_lines a u.lines rest e h

-- ---- units with the same values

module _ (us vs : List ResolvedUnit) (same : map value_of_unit vs ≡ map value_of_unit us) (a : ℕ) (r : UnitRange)
    (old rest : List UnitRange) (is : old ≡ r ∷ rest) (whole : Result (Option Location) Error)
    (before : whole ≡ answer_from (map unit_places (map plain_unit us)) a old) where
  abbrev answers_of_rest : List (Result (Option Location) Error)
  answers_of_rest = map (λ q. answer_at (map unit_places (map plain_unit us)) a q.unit) rest

  first_and_rest : whole ≡ first_answer (answer_of_unit a (slice_get (map plain_unit vs) r.unit) ∷ answers_of_rest)
  first_and_rest =
      before ∙ ap (answer_from (map unit_places (map plain_unit us)) a) is
      ∙ ap (λ o. first_answer (answer_of a o ∷ answers_of_rest)) (slice_get-map unit_places (map plain_unit us) r.unit)
      ∙ ap (λ xs. first_answer (answer_of_unit a (slice_get xs r.unit) ∷ answers_of_rest))
      (sym (same_plain vs us same))

  row_here_found : (q : LineRow) → row_at_number (map plain_unit vs) a r.unit ≡ Ok (Some q)
      → whole ≡ Ok (location_of_unit_row (map plain_unit us) (record { unit = r.unit; row = q }))
  row_here_found q h =
      first_and_rest ∙ unit_with_row a q (slice_get (map plain_unit vs) r.unit) answers_of_rest h
      ∙ ap (λ xs. Ok (location_of_unit_row xs (record { unit = r.unit; row = q }))) (same_plain vs us same)

  row_has_place : (q : LineRow) → row_at_number (map plain_unit vs) a r.unit ≡ Ok (Some q)
      → is_some (location_of_unit_row (map plain_unit us) (record { unit = r.unit; row = q })) ≡ true
  row_has_place q h =
      ap (λ xs. is_some (location_of_unit_row xs (record { unit = r.unit; row = q }))) (sym (same_plain vs us same))
      ∙ unit_has_place a q (slice_get (map plain_unit vs) r.unit) h

  pub row_found : (q : LineRow) → row_at_number (map plain_unit vs) a r.unit ≡ Ok (Some q)
      → (whole ≡ Ok (location_of_unit_row (map plain_unit us) (record { unit = r.unit; row = q })))
      × (is_some (location_of_unit_row (map plain_unit us) (record { unit = r.unit; row = q })) ≡ true)
  row_found q h = (row_here_found q h, row_has_place q h)

  pub none_found : row_at_number (map plain_unit vs) a r.unit ≡ Ok None
      → whole ≡ answer_from (map unit_places (map plain_unit us)) a rest
  none_found h = first_and_rest ∙ unit_without_row a (slice_get (map plain_unit vs) r.unit) answers_of_rest h

  pub refusal_found : (e : Error) → row_at_number (map plain_unit vs) a r.unit ≡ Err e → whole ≡ Err e
  refusal_found e h = first_and_rest ∙ refused_unit a (slice_get (map plain_unit vs) r.unit) answers_of_rest e h

-- ---- the row that was found

-- its place is that of the address
pub place_found : (us vs : List ResolvedUnit) (a : ℕ) (r : UnitRow) (o : Option UnitRow) (place : Option Location)
    → o ≡ Some r → FindsRow (map plain_unit us) a (Ok o) → map value_of_unit vs ≡ map value_of_unit us
    → place ≡ location_of_unit_row (map plain_unit vs) r
    → location_at ranges_of lines_of (map plain_unit us) a ≡ Ok place
place_found us vs a r o place is found same here =
    let row : FindsRow (map plain_unit us) a (Ok (Some r)) =
    subst (λ x. FindsRow (map plain_unit us) a (Ok x)) is found in
    row.0 ∙ ap (λ xs. Ok (location_of_unit_row xs r)) (sym (same_plain vs us same)) ∙ ap Ok (sym here)
