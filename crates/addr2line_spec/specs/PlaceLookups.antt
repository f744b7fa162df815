-- The lookups of places, over units of any kind that have ranges, and lines or the refusal of them.
use Rattle.std.specs.Prelude.{ℕ, max, min, List, [], ◌∷◌, map, Option, Some, None, Result, Ok, Err}
use Rattle.gimli_lines_machine.specs.Error.{Error}
use Rattle.gimli_lines_machine.specs.Repetition.{Listing, no_items, prepend}
use Rattle.gimli_lines_machine.specs.Range.{Range}
use Rattle.addr2line_spec.specs.Lines.{Lines, Location, Stretch, place_in, lines_between}
use Rattle.addr2line_spec.specs.Pairs.{Pair, covering_pairs, overlapping_pairs}

-- ---- one address

-- the first answer that is a refusal or a value; none where each is none
abbrev pub first_answer : {A : Type 0} → List (Result (Option A) Error)
    → Result (Option A) Error
first_answer [] = Ok None
first_answer (Ok None ∷ rest) = first_answer rest
first_answer (Ok (Some x) ∷ rest) = Ok (Some x)
first_answer (Err e ∷ rest) = Err e

-- what a unit's lines answer for an address: their refusal, or the place, if there is one
abbrev pub place_or_refusal : ℕ → Result Lines Error → Result (Option Location) Error
place_or_refusal a (Ok l) = Ok (place_in l a)
place_or_refusal a (Err e) = Err e

-- the place of an address: that of the first pair that covers it whose unit answers
abbrev pub location_at : {U : Type 0} → (U → List Range) → (U → Result Lines Error)
    → List U → ℕ → Result (Option Location) Error
location_at ranges lines us a =
    first_answer (map (λ p. place_or_refusal a (lines p.unit)) (covering_pairs ranges us a))

-- ---- two ends

-- the stretches of a pair, both ends clipped to its range, before the others; the refusal of its
-- lines ends them
abbrev pub with_stretches : ℕ → ℕ → Range → Result Lines Error
    → Listing (Unit {0}) Stretch → Listing (Unit {0}) Stretch
with_stretches low high r (Ok l) rest =
    prepend (lines_between l (max low r.begin) (min high r.end)) rest
with_stretches low high r (Err e) rest = no_items (Err e)

abbrev pub stretches_of_pairs : {U : Type 0} → (U → Result Lines Error) → ℕ → ℕ
    → List (Pair U) → Listing (Unit {0}) Stretch
stretches_of_pairs lines low high [] = no_items (Ok tt)
stretches_of_pairs lines low high (p ∷ ps) =
    with_stretches low high p.range (lines p.unit) (stretches_of_pairs lines low high ps)

-- the stretches between two ends, in the order of the pairs that overlap them, and the refusal that
-- ends them, if one does
abbrev pub stretches_between : {U : Type 0} → (U → List Range) → (U → Result Lines Error)
    → List U → ℕ → ℕ → Listing (Unit {0}) Stretch
stretches_between ranges lines us low high =
    stretches_of_pairs lines low high (overlapping_pairs ranges us low high)
