-- Which units a walk over ranges comes to, one step after the other.
use Rattle.std.proofs.Common.{◌≡◌, inl, inr, ℕ, List, [], ◌∷◌, drop, Option, Some, None, Result, Ok, Err, refl, sym, ap, ◌∙◌, subst}
use Rattle.addr2line_unit.specs.Error.{Error}
use Rattle.addr2line_unit.specs.Contexts.{ContextUnit}
use Rattle.addr2line_unit.specs.UnitRange.{UnitRange}
use Rattle.addr2line_unit.specs.RangePlace.{RangePlace}
use Rattle.addr2line_unit.specs.NumberedRanges.{overlapping_ranges}
use Rattle.addr2line_unit.specs.UnitPlaces.{UnitPlaces}
use Rattle.addr2line_lookups.specs.KeptUnits.{IsUnitOf}
use Rattle.addr2line_lookups.specs.RangeWalks.{NextOfRows, IsUnitOfRows, ComesTo, AsksAlong, AsksForStretch, StaysOnItsWay, AreOfRange}
use Rattle.addr2line_lookups.specs.declared.range_walk.RangeRows.{RangeRows}
use Rattle.addr2line_lookups.specs.declared.range_walk.RangeWalk.{RangeWalk}
use Rattle.addr2line_lookups.specs.declared.range_walk.UnitStretch.{UnitStretch}

-- before the first range it comes to those of all
pub comes_first : (ranges : List UnitRange) (low high : ℕ) (first : RangePlace) (n : ℕ) → first.index ≡ 0
    → ComesTo ranges (record { low = low; high = high; rows = None; next = first }) n
    → IsUnitOf (overlapping_ranges low high ranges) n
comes_first ranges low high first n none (inl is) = absurd is
comes_first ranges low high first n none (inr later) =
    subst (λ i. IsUnitOf (overlapping_ranges low high (drop i ranges)) n) none later

-- in the range that it is in
pub way_of_rows : (units : List ContextUnit) (ranges : List UnitRange) (result : Result (Option UnitStretch) Error)
    (old new : RangeWalk) → NextOfRows units result old new
    → ((n : ℕ) → IsUnitOfRows new.rows n → IsUnitOfRows old.rows n) → StaysOnItsWay ranges old new
way_of_rows units ranges (Ok (Some s)) old new h rows n (inl is) = inl (rows n is)
way_of_rows units ranges (Ok (Some s)) old new h rows n (inr later) =
    inr (subst (λ (w : RangeWalk). IsUnitOf (overlapping_ranges w.low w.high (drop w.next.index ranges)) n) h.0 later)
way_of_rows units ranges (Ok None) old new h rows n (inl is) = inl (rows n is)
way_of_rows units ranges (Ok None) old new h rows n (inr later) =
    inr (subst (λ (w : RangeWalk). IsUnitOf (overlapping_ranges w.low w.high (drop w.next.index ranges)) n) h.0 later)
way_of_rows units ranges (Err e) old new h rows n come = subst (λ (w : RangeWalk). ComesTo ranges w n) h.0 come

module _ (ranges : List UnitRange) (w : RangeWalk) (r : UnitRange) (next : RangePlace)
    (is : overlapping_ranges w.low w.high (drop w.next.index ranges)
    ≡ r ∷ overlapping_ranges w.low w.high (drop next.index ranges)) where
  -- in the next range
  pub comes_next : ComesTo ranges w r.unit
  comes_next = inr (subst (λ rs. IsUnitOf rs r.unit) (sym is) (inl refl))

  pub way_of_range : (rows : Option RangeRows) → AreOfRange r rows
      → StaysOnItsWay ranges w (record { low = w.low; high = w.high; rows = rows; next = next })
  way_of_range None h n (inl same) = absurd same
  way_of_range (Some x) h n (inl same) =
      subst (ComesTo ranges w) (sym (same ∙ ap (λ (q : UnitRange). q.unit) h)) comes_next
  way_of_range None h n (inr later) = inr (subst (λ rs. IsUnitOf rs n) (sym is) (inr later))
  way_of_range (Some x) h n (inr later) = inr (subst (λ rs. IsUnitOf rs n) (sym is) (inr later))

-- ---- units that are asked

along_is_unit : (us : List UnitPlaces) (low high : ℕ) (rs : List UnitRange) (n : ℕ) → AsksAlong us low high rs n
    → IsUnitOf rs n
along_is_unit us low high [] n asked = asked
along_is_unit us low high (r ∷ rs) n (inl is) = inl is
along_is_unit us low high (r ∷ rs) n (inr later) = inr (along_is_unit us low high rs n later.1)

-- a step asks no units but those that the walk comes to
pub asked_on_way : (us : List UnitPlaces) (ranges : List UnitRange) (w : RangeWalk) (n : ℕ)
    → AsksForStretch us ranges w n → ComesTo ranges w n
asked_on_way us ranges w n (inl is) = inl is
asked_on_way us ranges w n (inr later) =
    inr (along_is_unit us w.low w.high (overlapping_ranges w.low w.high (drop w.next.index ranges)) n later.1)
