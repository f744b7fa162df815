-- Ranges with their units' numbers, put in order and appended.
use Rattle.std.proofs.Common.{◌≡◌, ℕ, ◌+◌, List, [], ◌∷◌, ◌++◌, length, map, refl, sym, ap, ◌∙◌, arith, append_assoc, append-nil}
use Rattle.std.specs.Ordering.{nat_cmp}
use Rattle.std.specs.List.Sorted.{IsNonDecreasingBy, IsStableByKey}
use Rattle.std.proofs.lemmas.Simd.{map-map}
use Rattle.std.proofs.lemmas.List.{map-append}
use Rattle.addr2line_spec.specs.Range.{Range}
use Rattle.addr2line_spec.specs.Orders.{in_order}
use Rattle.addr2line_spec.specs.Pairs.{pairs_of, pairs_from, ends_after}
use Rattle.addr2line_index.specs.declared.unit_range.UnitRange.{UnitRange}
use Rattle.addr2line_index.specs.declared.shared_range.SharedRange.{SharedRange}
use Rattle.addr2line_index.specs.declared.unit_run.UnitRun.{UnitRun}
use Rattle.addr2line_index.specs.NumberedRanges.{numbered_range, ranges_of_units, unit_ranges}
use Rattle.addr2line_index.specs.SharedRanges.{pairs_in_all, with_unit, pairs_of_runs, shared_of_runs, AreShareable}
use Rattle.addr2line_index.proofs.StableOrder.{in_order-map, by_number}
use Rattle.addr2line_index.proofs.SharedRangeLemmas.{end_of, shared_end, sorted_pairs}

pub sorted_ranges : (us : List UnitRun) (sorted : List SharedRange) (units : List (List Range)) → AreShareable us
    → IsNonDecreasingBy shared_end sorted → IsStableByKey shared_end nat_cmp (shared_of_runs us) sorted
    → pairs_of_runs us ≡ ranges_of_units units → pairs_in_all sorted ≡ unit_ranges units
sorted_ranges us sorted units shareable up stable of =
    sorted_pairs us sorted shareable up stable
    ∙ ap (in_order (by_number end_of)) of
    ∙ in_order-map numbered_range ends_after (by_number end_of) (λ p q. refl) (pairs_from (λ rs. rs) 0 units)

-- ---- one unit more

numbered_range-pairs : (n : ℕ) (rs : List Range)
    → map numbered_range (pairs_of (λ (qs : List Range). qs) n rs) ≡ with_unit n rs
numbered_range-pairs n rs = map-map numbered_range (λ r. record { range = r; number = n; unit = rs }) rs

pairs-append : (n : ℕ) (units : List (List Range)) (rs : List Range)
    → map numbered_range (pairs_from (λ rs. rs) n (units ++ rs ∷ []))
    ≡ map numbered_range (pairs_from (λ rs. rs) n units) ++ with_unit (n + length units) rs
pairs-append n [] rs =
    let same : n ≡ n + 0 = omega arith in
    ap (map numbered_range) (append-nil (pairs_of (λ qs. qs) n rs)) ∙ numbered_range-pairs n rs
    ∙ ap (λ k. with_unit k rs) same
pairs-append n (u ∷ us) rs =
    let here = pairs_of (λ (qs : List Range). qs) n u in
    let same : n + 1 + length us ≡ n + length (u ∷ us) = omega arith in
    map-append numbered_range here (pairs_from (λ qs. qs) (n + 1) (us ++ rs ∷ []))
    ∙ ap (λ l. map numbered_range here ++ l) (pairs-append (n + 1) us rs)
    ∙ sym (append_assoc (map numbered_range here) (map numbered_range (pairs_from (λ qs. qs) (n + 1) us))
    (with_unit (n + 1 + length us) rs))
    ∙ ap (λ l. l ++ with_unit (n + 1 + length us) rs)
    (sym (map-append numbered_range here (pairs_from (λ qs. qs) (n + 1) us)))
    ∙ ap (λ k. map numbered_range (pairs_from (λ qs. qs) n (u ∷ us)) ++ with_unit k rs) same

pub ranges-add_unit : (old new : List UnitRange) (rs : List Range) (unit : ℕ) (units : List (List Range))
    → new ≡ old ++ with_unit unit rs
    → old ≡ ranges_of_units units → length units ≡ unit → new ≡ ranges_of_units (units ++ rs ∷ [])
ranges-add_unit old new rs unit units made of count =
    let place : unit ≡ 0 + length units = omega arith in
    made
    ∙ ap (λ l. l ++ with_unit unit rs) of
    ∙ ap (λ k. ranges_of_units units ++ with_unit k rs) place
    ∙ sym (pairs-append 0 units rs)
