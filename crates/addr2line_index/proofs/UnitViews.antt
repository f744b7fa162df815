-- Units through a view, and their pairs.
use Rattle.std.proofs.Common.{◌≡◌, ℕ, ◌+◌, Bool, true, false, cond, List, [], ◌∷◌, ◌++◌, map, filter, slice_get, Result, refl, sym, ap, ◌∙◌}
use Rattle.std.proofs.lemmas.Simd.{map-map}
use Rattle.std.proofs.lemmas.List.{map-append}
use Rattle.addr2line_spec.specs.Error.{Error}
use Rattle.addr2line_spec.specs.Range.{Range}
use Rattle.addr2line_spec.specs.Choice.{holds}
use Rattle.addr2line_spec.specs.Orders.{in_order}
use Rattle.addr2line_spec.specs.Lines.{Lines}
use Rattle.addr2line_spec.specs.Pairs.{Pair, pairs_of, pairs_from, all_pairs, ends_after, overlaps, overlapping_pairs}
use Rattle.addr2line_spec.specs.PlaceLookups.{first_answer, place_or_refusal, with_stretches, stretches_of_pairs}
use Rattle.addr2line_index.specs.NumberedRanges.{numbered_range, overlapping_ranges}
use Rattle.addr2line_index.specs.UnitPlaces.{UnitPlaces}
use Rattle.addr2line_index.specs.RangeIndexLaws.{with_unit_stretches, stretches_from, PlacesByNumbers, StretchesByNumbers, PlacesOfViews, StretchesOfViews, RangesOfViews}
use Rattle.addr2line_index.proofs.StableOrder.{in_order-map}
use Rattle.addr2line_index.proofs.UnitAnswers.{Each, Each-filter, IsAt, all_pairs_at, unit_ranges-map, location_by_numbers}

module _ {U V : Type 0} (f : U → V) (ranges : V → List Range) where
  -- a pair with the view of its unit
  abbrev pair_view : Pair U → Pair V
  pair_view p = record { range = p.range; number = p.number; unit = f p.unit }

  abbrev inner : U → List Range
  inner u = ranges (f u)

  pair_views_from : (n : ℕ) (us : List U) → pairs_from ranges n (map f us) ≡ map pair_view (pairs_from inner n us)
  pair_views_from n [] = refl
  pair_views_from n (u ∷ us) =
      ap (λ l. l ++ pairs_from ranges (n + 1) (map f us))
      (sym (map-map pair_view (λ r. record { range = r; number = n; unit = u }) (inner u)))
      ∙ ap (λ l. map pair_view (pairs_of inner n u) ++ l) (pair_views_from (n + 1) us)
      ∙ sym (map-append pair_view (pairs_of inner n u) (pairs_from inner (n + 1) us))

  all_pair_views : (us : List U) → all_pairs ranges (map f us) ≡ map pair_view (all_pairs inner us)
  all_pair_views us =
      ap (in_order ends_after) (pair_views_from 0 us)
      ∙ in_order-map pair_view ends_after ends_after (λ p q. refl) (pairs_from inner 0 us)

  filter-views : (keep : Range → Bool) (ps : List (Pair U))
      → filter (λ p. keep p.range) (map pair_view ps) ≡ map pair_view (filter (λ p. keep p.range) ps)
  filter-views keep [] = refl
  filter-views keep (p ∷ ps) =
      elim (keep p.range) as (λ b.
      cond b (pair_view p ∷ filter (λ q. keep q.range) (map pair_view ps))
      (filter (λ q. keep q.range) (map pair_view ps))
      ≡ map pair_view (cond b (p ∷ filter (λ q. keep q.range) ps) (filter (λ q. keep q.range) ps))) [
        | true ↦ ap (λ l. pair_view p ∷ l) (filter-views keep ps)
        | false ↦ filter-views keep ps
      ]

  filter_of_pairs : (keep : Range → Bool) (us : List U)
      → filter (λ p. keep p.range) (all_pairs ranges (map f us))
      ≡ map pair_view (filter (λ p. keep p.range) (all_pairs inner us))
  filter_of_pairs keep us = ap (filter (λ p. keep p.range)) (all_pair_views us) ∙ filter-views keep (all_pairs inner us)

  stretches-views : (lines : V → Result Lines Error) (low high : ℕ) (ps : List (Pair U))
      → stretches_of_pairs lines low high (map pair_view ps) ≡ stretches_of_pairs (λ u. lines (f u)) low high ps
  stretches-views lines low high [] = refl
  stretches-views lines low high (p ∷ ps) =
      ap (with_stretches low high p.range (lines (f p.unit))) (stretches-views lines low high ps)

abbrev ranges_in : UnitPlaces → List Range
ranges_in u = u.ranges

abbrev lines_in : UnitPlaces → Result Lines Error
lines_in u = u.lines

pub places_by_numbers : PlacesByNumbers
places_by_numbers units a = location_by_numbers units a _ refl

pub places_of_views : {U : Type 0} → PlacesOfViews U
places_of_views view us a =
    ap (λ ps. first_answer (map (λ p. place_or_refusal a (lines_in p.unit)) ps))
    (filter_of_pairs view ranges_in (holds a) us)
    ∙ ap first_answer
    (map-map (λ p. place_or_refusal a (lines_in p.unit)) (pair_view view ranges_in)
    (filter (λ p. holds a p.range) (all_pairs (inner view ranges_in) us)))

pub stretches_of_views : {U : Type 0} → StretchesOfViews U
stretches_of_views view us low high =
    ap (stretches_of_pairs lines_in low high) (filter_of_pairs view ranges_in (overlaps low high) us)
    ∙ stretches-views view ranges_in lines_in low high
    (filter (λ p. overlaps low high p.range) (all_pairs (inner view ranges_in) us))

pub ranges_of_views : {U : Type 0} → RangesOfViews U
ranges_of_views view us =
    unit_ranges-map ranges_in (map view us)
    ∙ ap (map numbered_range) (all_pair_views view ranges_in us)
    ∙ map-map numbered_range (pair_view view ranges_in) (all_pairs (inner view ranges_in) us)

-- ---- stretches by numbers

filter-overlapping : {U : Type 0} (low high : ℕ) (ps : List (Pair U))
    → overlapping_ranges low high (map numbered_range ps)
    ≡ map numbered_range (filter (λ p. overlaps low high p.range) ps)
filter-overlapping low high [] = refl
filter-overlapping low high (p ∷ ps) =
    elim (overlaps low high p.range) as (λ b.
    cond b (numbered_range p ∷ overlapping_ranges low high (map numbered_range ps))
    (overlapping_ranges low high (map numbered_range ps))
    ≡ map numbered_range
    (cond b (p ∷ filter (λ p. overlaps low high p.range) ps) (filter (λ p. overlaps low high p.range) ps))) [
      | true ↦ ap (λ l. numbered_range p ∷ l) (filter-overlapping low high ps)
      | false ↦ filter-overlapping low high ps
    ]

same_stretches : (us : List UnitPlaces) (low high : ℕ) (ps : List (Pair UnitPlaces))
    → Each ranges_in (IsAt ranges_in us) ps
    → stretches_of_pairs lines_in low high ps ≡ stretches_from us low high (map numbered_range ps)
same_stretches us low high [] h = refl
same_stretches us low high (p ∷ ps) h =
    ap (λ o. with_unit_stretches low high p.range o (stretches_of_pairs lines_in low high ps)) (sym h.0)
    ∙ ap (with_unit_stretches low high p.range (slice_get us p.number)) (same_stretches us low high ps h.1)

pub stretches_by_numbers : StretchesByNumbers
stretches_by_numbers us low high =
    same_stretches us low high (overlapping_pairs ranges_in us low high)
    (Each-filter ranges_in (IsAt ranges_in us) (λ p. overlaps low high p.range) (all_pairs ranges_in us)
    (all_pairs_at ranges_in us))
    ∙ ap (stretches_from us low high)
    (sym (ap (overlapping_ranges low high) (unit_ranges-map ranges_in us)
    ∙ filter-overlapping low high (all_pairs ranges_in us)))
