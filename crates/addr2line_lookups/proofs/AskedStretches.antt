-- Which units the next step of a walk over stretches asks, one after the other. Their lines are kept.
use Rattle.std.proofs.Common.{◌≡◌, ◌≢◌, ◌⊎◌, inl, inr, ℕ, List, [], ◌∷◌, ◌++◌, drop, slice_get, map, option_map, Option, Some, None, Result, Ok, Err, refl, sym, ap, ◌∙◌, subst}
use Rattle.std.specs.Prelude.{max, min}
use Rattle.std.proofs.lemmas.Option.{slice_get-map}
use Rattle.addr2line_unit.specs.Error.{Error}
use Rattle.addr2line_unit.specs.Error.TheVariants.{Memory}
use Rattle.addr2line_unit.specs.Repetition.{Listing, no_items, prepend}
use Rattle.addr2line_unit.specs.Results.{and_then}
use Rattle.addr2line_unit.specs.Lines.{Lines, Stretch, lines_between}
use Rattle.addr2line_unit.specs.LineCursor.{LineCursor}
use Rattle.addr2line_unit.specs.LineCursors.{lines_left}
use Rattle.addr2line_unit.specs.LineWalks.{WalkBegins}
use Rattle.addr2line_unit.specs.PlaceLookups.{with_stretches}
use Rattle.addr2line_unit.specs.Contexts.{ContextUnit}
use Rattle.addr2line_unit.specs.UnitRange.{UnitRange}
use Rattle.addr2line_unit.specs.RangePlace.{RangePlace}
use Rattle.addr2line_unit.specs.NumberedRanges.{overlapping_ranges}
use Rattle.addr2line_unit.specs.UnitPlaces.{UnitPlaces}
use Rattle.addr2line_unit.specs.RangeIndexLaws.{with_unit_stretches}
use Rattle.addr2line_unit.specs.ContextUnits.{unit_places}
use Rattle.addr2line_unit.specs.ResolvedUnits.{ResolvedUnit, value_of_unit, plain_unit}
use Rattle.addr2line_lookups.specs.KeptUnits.{KeepsAt, KeepsMore, KeepsAsked, ReadsAsked, check_of, check_at}
use Rattle.addr2line_lookups.specs.RangeWalks.{BeginsInUnit, clipped_left, unit_left, rows_left, BeginsRange, NextOfRows, IsUnitOfRows, HasNoStretch, AsksAlong, AsksForStretch, AreOfRange}
use Rattle.addr2line_lookups.specs.declared.range_walk.RangeRows.{RangeRows}
use Rattle.addr2line_lookups.specs.declared.range_walk.RangeWalk.{RangeWalk}
use Rattle.addr2line_lookups.specs.declared.range_walk.UnitStretch.{UnitStretch}
use Rattle.addr2line_lookups.proofs.AskedLines.{AsksOn, asks_all, asks_none, all_kept_already, reads_all_here, asks_more, asks_last_of, kept_already, reads_here, asks_next, asks_last}
use Rattle.addr2line_lookups.proofs.KeptLines.{same_plain}
use Rattle.addr2line_lookups.proofs.RangeSteps.{ok_stretch}

-- ---- a refusal of lines

abbrev checked : Unit {0} → Result (Unit {0}) Error
checked x = Ok x

abbrev refused : Error → Result (Unit {0}) Error
refused e = Err e

module _ (low high : ℕ) (r : UnitRange) (e : Error) (rest : Listing (Unit {0}) Stretch) where
  refused_lines : (x : Result Lines Error) → and_then x (λ lines. checked tt) ≡ refused e
      → with_stretches low high r.range x rest ≡ no_items (Err e)
  refused_lines (Ok l) h = absurd cc
  refused_lines (Err d) h =
      let same : d ≡ e = cc in ap (λ x. with_stretches low high r.range (Err x) rest) same

  refused_unit : (o : Option ContextUnit) → check_of o ≡ refused e
      → with_unit_stretches low high r.range (option_map unit_places o) rest ≡ no_items (Err e)
  refused_unit None h = absurd cc
  refused_unit (Some u) h = refused_lines u.lines h

  -- it ends all
  pub refused_range_ends : (us : List ContextUnit) → check_at us r.unit ≡ refused e
      → with_unit_stretches low high r.range (slice_get (map unit_places us) r.unit) rest ≡ no_items (Err e)
  refused_range_ends us h =
      subst (λ o. with_unit_stretches low high r.range o rest ≡ no_items (Err e))
      (sym (slice_get-map unit_places us r.unit))
      (refused_unit (slice_get us r.unit) h)

-- ---- the first rows of a range

module _ (low high : ℕ) (r : UnitRange) (rest : Listing (Unit {0}) Stretch) (from : ℕ)
    (is_low : from ≡ max low r.range.begin) where
  module _ (c : LineCursor) where
    rows_of_lines : (x : Result Lines Error) → WalkBegins from x (Some c)
        → with_stretches low high r.range x rest ≡ prepend (clipped_left low high r.range c x) rest
    rows_of_lines (Ok l) begins =
        let end = min high r.range.end in
        let same : lines_left l (max low r.range.begin) end c ≡ lines_between l (max low r.range.begin) end =
        subst (λ (n : ℕ). lines_left l n end c ≡ lines_between l n end) is_low (begins end) in
        ap (λ (xs : List Stretch). prepend xs rest) (sym same)
    rows_of_lines (Err e) begins = absurd cc

    rows_of_unit : (o : Option ContextUnit) → BeginsInUnit from o (Some c)
        → with_unit_stretches low high r.range (option_map unit_places o) rest
        ≡ prepend (unit_left low high r.range c (option_map unit_places o)) rest
    rows_of_unit None begins = absurd cc
    rows_of_unit (Some u) begins = rows_of_lines u.lines begins

    -- those from a cursor on
    pub begins_with_rows : (us : List ContextUnit) → BeginsInUnit from (slice_get us r.unit) (Some c)
        → with_unit_stretches low high r.range (slice_get (map unit_places us) r.unit) rest
        ≡ prepend (unit_left low high r.range c (slice_get (map unit_places us) r.unit)) rest
    begins_with_rows us begins =
        subst (λ o. with_unit_stretches low high r.range o rest
        ≡ prepend (unit_left low high r.range c o) rest) (sym (slice_get-map unit_places us r.unit))
        (rows_of_unit (slice_get us r.unit) begins)

  none_of_lines : (x : Result Lines Error) → and_then x (λ lines. checked tt) ≡ checked tt → WalkBegins from x None
      → with_stretches low high r.range x rest ≡ rest
  none_of_lines (Ok l) sound begins =
      let end = min high r.range.end in
      let none : lines_between l (max low r.range.begin) end ≡ [] =
      subst (λ (n : ℕ). lines_between l n end ≡ []) is_low (begins end) in
      ap (λ (xs : List Stretch). prepend xs rest) none
  none_of_lines (Err e) sound begins = absurd cc

  none_of_unit : (o : Option ContextUnit) → check_of o ≡ checked tt → BeginsInUnit from o None
      → with_unit_stretches low high r.range (option_map unit_places o) rest ≡ rest
  none_of_unit None sound begins = refl
  none_of_unit (Some u) sound begins = none_of_lines u.lines sound begins

  -- a unit that isn't there has none, nor has one without rows for the range
  pub begins_without_rows : (us : List ContextUnit) → check_at us r.unit ≡ checked tt
      → BeginsInUnit from (slice_get us r.unit) None
      → with_unit_stretches low high r.range (slice_get (map unit_places us) r.unit) rest ≡ rest
  begins_without_rows us sound begins =
      subst (λ o. with_unit_stretches low high r.range o rest ≡ rest) (sym (slice_get-map unit_places us r.unit))
      (none_of_unit (slice_get us r.unit) sound begins)

-- ---- the rows that a walk is in

module _ (o : Option RangeRows) (r : RangeRows) (is : o ≡ Some r) (vs : List ResolvedUnit) where
  -- the lines of their unit alone are asked
  pub rows_are_kept : KeepsAt vs r.range.unit → KeepsAsked (IsUnitOfRows o) vs
  rows_are_kept kept =
      subst (λ x. KeepsAsked (IsUnitOfRows x) vs) (sym is) (λ n same. subst (KeepsAt vs) (sym same) kept)

  pub unit_is_kept : KeepsAsked (IsUnitOfRows o) vs → KeepsAt vs r.range.unit
  unit_is_kept kept = kept r.range.unit (subst (λ x. IsUnitOfRows x r.range.unit) (sym is) refl)

-- none are
pub no_rows_kept : (o : Option RangeRows) → o ≡ None → (vs : List ResolvedUnit) → KeepsAsked (IsUnitOfRows o) vs
no_rows_kept o is vs = subst (λ x. KeepsAsked (IsUnitOfRows x) vs) (sym is) (λ n same. absurd same)

unit_of_rows : (r : UnitRange) (rows : Option RangeRows) → AreOfRange r rows → (n : ℕ) → IsUnitOfRows rows n
    → n ≡ r.unit
unit_of_rows r None h n same = absurd same
unit_of_rows r (Some x) h n same = same ∙ ap (λ (q : UnitRange). q.unit) h

-- ---- a range with stretches, and one without

abbrev no_stretches : Listing (Unit {0}) Stretch
no_stretches = no_items (Ok tt)

none_before_none : (ts : List Stretch) → prepend ts no_stretches ≡ no_stretches → ts ≡ []
none_before_none [] is = refl
none_before_none (t ∷ ts) is =
    let same : t ∷ (ts ++ []) ≡ [] = ap (λ (l : Listing (Unit {0}) Stretch). l.items) is in absurd cc

some_left : (ts rest : List Stretch) (t : Stretch) → ts ≡ t ∷ rest → ts ≡ [] → ⊥
some_left ts rest t some none = let same : t ∷ rest ≡ [] = sym some ∙ none in cc

module _ (us : List UnitPlaces) (low high : ℕ) (r : UnitRange) where
  has_none : (rows : Option RangeRows) → BeginsRange us low high r (Ok rows) → rows_left us low high rows ≡ []
      → HasNoStretch us low high r
  has_none rows begins none = begins no_stretches ∙ ap (λ ts. prepend ts no_stretches) none

  none_left : (rows : Option RangeRows) → BeginsRange us low high r (Ok rows) → HasNoStretch us low high r
      → rows_left us low high rows ≡ []
  none_left rows begins none = none_before_none (rows_left us low high rows) (sym (begins no_stretches) ∙ none)

  not_refused : (e : Error) → e ≢ Memory → BeginsRange us low high r (Err e) → HasNoStretch us low high r → ⊥
  not_refused e other refuses none =
      let same : refused e ≡ checked tt =
      ap (λ (l : Listing (Unit {0}) Stretch). l.ending) (sym (refuses other no_stretches) ∙ none) in cc

-- a step that was refused
abbrev pub refused_stretch : Error → Result (Option UnitStretch) Error
refused_stretch e = Err e

pub stretch_not_refused : (o : Option UnitStretch) → ok_stretch o ≢ refused_stretch Memory
stretch_not_refused o same = cc

abbrev found_rows : Option RangeRows → Result (Option RangeRows) Error
found_rows o = Ok o

abbrev refused_rows : Error → Result (Option RangeRows) Error
refused_rows e = Err e

pub rows_not_refused : (o : Option RangeRows) → found_rows o ≢ refused_rows Memory
rows_not_refused o same = cc

-- ---- one range after the other

module _ (old : List ResolvedUnit) (ranges : List UnitRange) (begun : RangeWalk) where
  abbrev us : List UnitPlaces
  us = map unit_places (map plain_unit old)

  abbrev asks : ℕ → Type 0
  asks = AsksForStretch us ranges begun

  abbrev along : RangeWalk → List UnitRange → ℕ → Type 0
  along w rs = AsksAlong us w.low w.high rs

  -- what a walk asks from a step on
  abbrev pub AsksWalk : RangeWalk → List ResolvedUnit → Type 0
  AsksWalk w vs = AsksOn asks (AsksForStretch us ranges w) old vs

  -- after the range that it is in
  abbrev pub AsksAfter : RangeWalk → List ResolvedUnit → Type 0
  AsksAfter w vs = AsksOn asks (along w (overlapping_ranges w.low w.high (drop w.next.index ranges))) old vs

  pub walk_begins : AsksWalk begun old
  walk_begins = asks_all asks old

  module _ (w : RangeWalk) (vs : List ResolvedUnit) (h : AsksWalk w vs) where
    abbrev here : ℕ → Type 0
    here = IsUnitOfRows w.rows

    abbrev comes_to : ℕ → Type 0
    comes_to = AsksForStretch us ranges w

    abbrev later : List UnitRange
    later = overlapping_ranges w.low w.high (drop w.next.index ranges)

    in_rows : (n : ℕ) → here n → comes_to n
    in_rows n is = inl is

    pub rows_kept : KeepsAsked asks old → KeepsAsked (IsUnitOfRows w.rows) vs
    rows_kept = all_kept_already asks comes_to here old vs in_rows h

    module _ (ws : List ResolvedUnit) (reads : ReadsAsked (IsUnitOfRows w.rows) vs ws) where
      pub rows_reads : ReadsAsked asks old ws
      rows_reads = reads_all_here asks comes_to here old vs in_rows h ws reads

      module _ (more : KeepsMore vs ws) (kept : KeepsAsked (IsUnitOfRows w.rows) ws)
          (same : map value_of_unit vs ≡ map value_of_unit old) (new : RangeWalk) (o : Option UnitStretch)
          (step : NextOfRows (map plain_unit vs) (Ok o) w new) where
        step_is : (p : Option UnitStretch) → o ≡ p → NextOfRows (map plain_unit old) (Ok p) w new
        step_is p is =
            subst (λ x. NextOfRows (map plain_unit old) (Ok x) w new) is
            (subst (λ (xs : List ContextUnit). NextOfRows xs (Ok o) w new) (same_plain vs old same) step)

        -- a stretch in it is the last that is asked for
        pub rows_found : (s : UnitStretch) → o ≡ Some s → KeepsAsked asks ws
        rows_found s is =
            asks_last_of asks comes_to here old vs in_rows h ws reads (λ n come. by n come) more kept
          where
            by : (n : ℕ) → comes_to n → here n
            by n (inl same) = same
            by n (inr left) =
                let found = step_is (Some s) is in
                absurd (some_left (rows_left us w.low w.high w.rows) (rows_left us w.low w.high new.rows) found.1.0
                found.1.2 left.0)

        -- where it has none the ranges after it are asked
        pub rows_passed : o ≡ None → AsksAfter new ws
        rows_passed is =
            let none = step_is None is in
            subst (λ (x : RangeWalk). AsksAfter x ws) (sym none.0)
            (asks_more asks comes_to here old vs in_rows h ws reads (along w later) (λ n left. inr (none.1, left))
            (λ n come. by n come) more kept)
          where
            by : (n : ℕ) → comes_to n → here n ⊎ along w later n
            by n (inl same) = inl same
            by n (inr left) = inr left.1

  module _ (w : RangeWalk) (vs : List ResolvedUnit) (h : AsksAfter w vs) where
    abbrev next_ones : List UnitRange
    next_ones = overlapping_ranges w.low w.high (drop w.next.index ranges)

    -- where there are none
    pub walk_ends : overlapping_ranges w.low w.high (drop w.next.index ranges) ≡ [] → KeepsAsked asks vs
    walk_ends is =
        asks_none asks (along w next_ones) old vs (λ n left. absurd (subst (λ rs. along w rs n) is left)) h

    module _ (r : UnitRange) (next : RangePlace)
        (is : overlapping_ranges w.low w.high (drop w.next.index ranges)
        ≡ r ∷ overlapping_ranges w.low w.high (drop next.index ranges)) where
      abbrev rest : List UnitRange
      rest = overlapping_ranges w.low w.high (drop next.index ranges)

      abbrev there : Option RangeRows → RangeWalk
      there rows = record { low = w.low; high = w.high; rows = rows; next = next }

      first_of : (n : ℕ) → along w next_ones n → along w (r ∷ rest) n
      first_of n = subst (λ rs. along w rs n) is

      of_first : (n : ℕ) → along w (r ∷ rest) n → along w next_ones n
      of_first n = subst (λ rs. along w rs n) (sym is)

      next_here : along w next_ones r.unit
      next_here = of_first r.unit (inl refl)

      pub next_kept : KeepsAsked asks old → KeepsAt vs r.unit
      next_kept = kept_already asks (along w next_ones) old vs r.unit next_here h

      module _ (ws : List ResolvedUnit) (reads : ReadsAsked (λ n. n ≡ r.unit) vs ws) where
        pub next_reads : ReadsAsked asks old ws
        next_reads = reads_here asks (along w next_ones) old vs r.unit next_here h ws reads

        module _ (more : KeepsMore vs ws) (kept : KeepsAt ws r.unit) where
          -- a refusal is the last
          pub next_refused : (e : Error) → e ≢ Memory → BeginsRange us w.low w.high r (Err e) → KeepsAsked asks ws
          next_refused e other refuses =
              asks_last asks (along w next_ones) old vs r.unit next_here h ws reads
              (λ n left. by n (first_of n left)) more kept
            where
              by : (n : ℕ) → along w (r ∷ rest) n → n ≡ r.unit
              by n (inl first) = first
              by n (inr left) = absurd (not_refused us w.low w.high r e other refuses left.0)

          -- the walk is in the next range
          pub next_begins : (rows : Option RangeRows) → AreOfRange r rows → BeginsRange us w.low w.high r (Ok rows)
              → AsksWalk (record { low = w.low; high = w.high; rows = rows; next = next }) ws
          next_begins rows of_range begins =
              asks_next asks (along w next_ones) old vs r.unit next_here h ws reads
              (AsksForStretch us ranges (there rows)) (λ n left. of_first n (back n left))
              (λ n left. on n (first_of n left)) more kept
            where
              back : (n : ℕ) → AsksForStretch us ranges (there rows) n → along w (r ∷ rest) n
              back n (inl same) = inl (unit_of_rows r rows of_range n same)
              back n (inr left) = inr (has_none us w.low w.high r rows begins left.0, left.1)

              on : (n : ℕ) → along w (r ∷ rest) n → (n ≡ r.unit) ⊎ AsksForStretch us ranges (there rows) n
              on n (inl first) = inl first
              on n (inr left) = inr (inr (none_left us w.low w.high r rows begins left.0, left.1))
