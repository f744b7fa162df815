-- Laws: lookups over units of any kind, by their ranges and lines, and over ranges with their
-- units' numbers.
use Rattle.std.specs.Prelude.{◌≡◌, ℕ, List, [], ◌∷◌, map, slice_get, Option, Some, None, Result, Ok}
use Rattle.addr2line_spec.specs.Error.{Error}
use Rattle.addr2line_spec.specs.Repetition.{Listing, no_items}
use Rattle.addr2line_spec.specs.Range.{Range}
use Rattle.addr2line_spec.specs.Lines.{Location, Stretch}
use Rattle.addr2line_spec.specs.Pairs.{all_pairs}
use Rattle.addr2line_spec.specs.PlaceLookups.{first_answer, location_at, with_stretches, stretches_between}
use Rattle.addr2line_index.specs.declared.unit_range.UnitRange.{UnitRange}
use Rattle.addr2line_index.specs.NumberedRanges.{numbered_range, covering_ranges, overlapping_ranges}
use Rattle.addr2line_index.specs.UnitPlaces.{UnitPlaces, ranges_in_order, location_of, answer_at}

-- ---- by numbers

-- the first answer of the units at these ranges
abbrev pub answer_from : List UnitPlaces → ℕ → List UnitRange
    → Result (Option Location) Error
answer_from units a rs = first_answer (map (λ r. answer_at units a r.unit) rs)

abbrev pub PlacesByNumbers : Type 0
PlacesByNumbers =
    (units : List UnitPlaces) (a : ℕ)
    → location_of units a ≡ answer_from units a (covering_ranges a (ranges_in_order units))

-- the stretches of a unit's range before others, where there is a unit
abbrev pub with_unit_stretches : ℕ → ℕ → Range → Option UnitPlaces
    → Listing (Unit {0}) Stretch → Listing (Unit {0}) Stretch
with_unit_stretches low high r None rest = rest
with_unit_stretches low high r (Some u) rest = with_stretches low high r u.lines rest

-- the stretches of the units at these ranges
abbrev pub stretches_from : List UnitPlaces → ℕ → ℕ → List UnitRange
    → Listing (Unit {0}) Stretch
stretches_from units low high [] = no_items (Ok tt)
stretches_from units low high (r ∷ rs) =
    with_unit_stretches low high r.range (slice_get units r.unit) (stretches_from units low high rs)

-- the stretches between two ends
abbrev pub stretches_of_units : List UnitPlaces → ℕ → ℕ → Listing (Unit {0}) Stretch
stretches_of_units units low high =
    stretches_between (λ u. u.ranges) (λ u. u.lines) units low high

abbrev pub StretchesByNumbers : Type 0
StretchesByNumbers =
    (units : List UnitPlaces) (low high : ℕ)
    → stretches_of_units units low high
    ≡ stretches_from units low high (overlapping_ranges low high (ranges_in_order units))

-- ---- units of any kind

abbrev pub PlacesOfViews : Type 0 → Type 0
PlacesOfViews U =
    (view : U → UnitPlaces) (us : List U) (a : ℕ)
    → location_of (map view us) a
    ≡ location_at (λ u. (view u).ranges) (λ u. (view u).lines) us a

abbrev pub StretchesOfViews : Type 0 → Type 0
StretchesOfViews U =
    (view : U → UnitPlaces) (us : List U) (low high : ℕ)
    → stretches_of_units (map view us) low high
    ≡ stretches_between (λ u. (view u).ranges) (λ u. (view u).lines) us low high

abbrev pub RangesOfViews : Type 0 → Type 0
RangesOfViews U =
    (view : U → UnitPlaces) (us : List U)
    → ranges_in_order (map view us) ≡ map numbered_range (all_pairs (λ u. (view u).ranges) us)
