-- Walks over the stretches between two ends, one step after the other.
use Rattle.std.proofs.Common.{◌≡◌, ℕ, max, min, List, [], ◌∷◌, drop, map, slice_get, Option, Some, None, option_map, Result, Ok, Err, refl, sym, ap, ◌∙◌, subst}
use Rattle.std.specs.Prelude.{◌≢◌, option_and_then}
use Rattle.std.proofs.lemmas.Option.{slice_get-map}
use Rattle.addr2line_unit.specs.Error.{Error}
use Rattle.addr2line_unit.specs.Error.TheVariants.{Memory}
use Rattle.addr2line_unit.specs.Repetition.{no_items, prepend}
use Rattle.addr2line_unit.specs.Lines.{Lines, Stretch}
use Rattle.addr2line_unit.specs.Contexts.{ContextUnit, ranges_of, lines_of}
use Rattle.addr2line_unit.specs.PlaceLookups.{stretches_between}
use Rattle.addr2line_unit.specs.UnitRange.{UnitRange}
use Rattle.addr2line_unit.specs.RangePlace.{RangePlace}
use Rattle.addr2line_unit.specs.UnitPlaces.{UnitPlaces}
use Rattle.addr2line_unit.specs.NumberedRanges.{overlapping_ranges}
use Rattle.addr2line_unit.specs.RangeIndexLaws.{stretches_from}
use Rattle.addr2line_unit.specs.LineCursor.{LineCursor}
use Rattle.addr2line_unit.specs.LineCursors.{lines_left}
use Rattle.addr2line_unit.specs.LineWalks.{WalkGoesOn}
use Rattle.addr2line_unit.specs.RowStretch.{RowStretch}
use Rattle.addr2line_unit.specs.Stretches.{stretch_of_row}
use Rattle.addr2line_unit.specs.StretchesLeft.{stretches_from_index}
use Rattle.addr2line_unit.specs.ContextUnits.{unit_places, ordered_ranges}
use Rattle.addr2line_unit.specs.ResolvedUnits.{location_of_row}
use Rattle.addr2line_unit.proofs.UnitViews.{stretches_of_views, stretches_by_numbers}
use Rattle.addr2line_lookups.specs.RangeWalks.{GoesOnInUnit, clipped_left, unit_left, rows_left, BeginsRange, FirstStretch, NextInRange, NextOfRows, walk_left, stretches_left, FindsStretch}
use Rattle.addr2line_lookups.specs.declared.range_walk.RangeRows.{RangeRows}
use Rattle.addr2line_lookups.specs.declared.range_walk.RangeWalk.{RangeWalk}
use Rattle.addr2line_lookups.specs.declared.range_walk.UnitStretch.{UnitStretch}

-- ---- the unit of a range

module _ (us : List ContextUnit) (n : ℕ) (P : Option UnitPlaces → Type 0) where
  -- what holds of a unit's places holds of those of its number
  at_number : P (option_map unit_places (slice_get us n)) → P (slice_get (map unit_places us) n)
  at_number h = subst P (sym (slice_get-map unit_places us n)) h

module _ (low high : ℕ) (r : UnitRange) where
  abbrev from : ℕ
  from = max low r.range.begin

  abbrev to : ℕ
  to = min high r.range.end

  -- at a cursor, between the clipped ends
  module _ (a b : ℕ) (low_is : a ≡ from) (high_is : b ≡ to) (c : LineCursor) where
    clipped : (l : Lines) (d : LineCursor) → lines_left l from to d ≡ lines_left l a b d
    clipped l d = sym (ap (λ n. lines_left l n b d) low_is ∙ ap (λ n. lines_left l from n d) high_is)

    none_of_lines : (x : Result Lines Error) → WalkGoesOn a b c x None → clipped_left low high r.range c x ≡ []
    none_of_lines (Ok l) ends = clipped l c ∙ ends
    none_of_lines (Err e) ends = refl

    none_of_unit : (o : Option ContextUnit) → GoesOnInUnit a b c o None
        → unit_left low high r.range c (option_map unit_places o) ≡ []
    none_of_unit None ends = refl
    none_of_unit (Some u) ends = none_of_lines u.lines ends

    -- no stretch is left where no row is
    pub none_after_rows : (us : List ContextUnit) → GoesOnInUnit a b c (slice_get us r.unit) None
        → NextInRange us low high (record { range = r; cursor = c }) None
    none_after_rows us ends =
        at_number us r.unit (λ p. unit_left low high r.range c p ≡ []) (none_of_unit (slice_get us r.unit) ends)

    module _ (s : RowStretch) (d : LineCursor) where
      -- a stretch is that of a row, and is the first that is left
      first_in_lines : (x : Result Lines Error) → WalkGoesOn a b c x (Some (s, d))
          → (t : Stretch) × (t.address ≡ s.address) × (t.length ≡ s.length)
          × (location_of_row s.row x ≡ Some t.location)
          × (clipped_left low high r.range c x ≡ t ∷ clipped_left low high r.range d x)
      first_in_lines (Ok l) goes =
          let first = stretch_of_row l.files s in
          (first, refl, refl, refl, clipped l c ∙ goes ∙ ap (λ ts. first ∷ ts) (sym (clipped l d)))
      first_in_lines (Err e) goes = absurd cc

      first_in_unit : (o : Option ContextUnit) → GoesOnInUnit a b c o (Some (s, d))
          → (t : Stretch) × (t.address ≡ s.address) × (t.length ≡ s.length)
          × (option_and_then (λ (u : ContextUnit). location_of_row s.row u.lines) o ≡ Some t.location)
          × (unit_left low high r.range c (option_map unit_places o)
          ≡ t ∷ unit_left low high r.range d (option_map unit_places o))
      first_in_unit None goes = absurd cc
      first_in_unit (Some u) goes = first_in_lines u.lines goes

      abbrev stretch_in_unit : UnitStretch
      stretch_in_unit =
          record { address = s.address; length = s.length; row = record { unit = r.unit; row = s.row } }

      -- the next row is the next stretch
      pub next_of_rows : (us : List ContextUnit) (t : UnitStretch) → t ≡ stretch_in_unit
          → GoesOnInUnit a b c (slice_get us r.unit) (Some (s, d))
          → NextInRange us low high (record { range = r; cursor = c }) (Some (t, record { range = r; cursor = d }))
      next_of_rows us t is goes =
          let found = first_in_unit (slice_get us r.unit) goes in
          let first : unit_left low high r.range c (slice_get (map unit_places us) r.unit)
          ≡ found.0 ∷ unit_left low high r.range d (slice_get (map unit_places us) r.unit) =
          at_number us r.unit (λ p. unit_left low high r.range c p ≡ found.0 ∷ unit_left low high r.range d p)
          found.4 in
          subst (λ (x : UnitStretch). FirstStretch us x
          (unit_left low high r.range c (slice_get (map unit_places us) r.unit))
          (unit_left low high r.range d (slice_get (map unit_places us) r.unit))) (sym is)
          (found.0, record { address = found.1; length = found.2; location = found.3 }, first)

-- ---- one range after the other

-- before the first range all stretches are left
pub all_left : (units : List ContextUnit) (low high : ℕ) (first : RangePlace) → first.index ≡ 0
    → stretches_left units (record { low = low; high = high; rows = None; next = first })
    ≡ stretches_between ranges_of lines_of units low high
all_left units low high first none =
    let us = map unit_places units in
    ap (λ n. prepend [] (stretches_from_index us low high (ordered_ranges units) n)) none
    ∙ sym (stretches_by_numbers us low high)
    ∙ stretches_of_views unit_places units low high

module _ (us : List UnitPlaces) (ranges : List UnitRange) (w : RangeWalk)
    (none : rows_left us w.low w.high w.rows ≡ []) where
  -- where the walk's range has none left, those of the next ones are
  left_after : (rs : List UnitRange) → overlapping_ranges w.low w.high (drop w.next.index ranges) ≡ rs
      → walk_left us ranges w ≡ stretches_from us w.low w.high rs
  left_after rs is =
      let later = stretches_from us w.low w.high (overlapping_ranges w.low w.high (drop w.next.index ranges)) in
      ap (λ ts. prepend ts later) none
      ∙ ap (stretches_from us w.low w.high) is

  pub next_range : (r : UnitRange) (next : RangePlace) (rows : Option RangeRows)
      → overlapping_ranges w.low w.high (drop w.next.index ranges)
      ≡ r ∷ overlapping_ranges w.low w.high (drop next.index ranges)
      → BeginsRange us w.low w.high r (Ok rows)
      → walk_left us ranges (record { low = w.low; high = w.high; rows = rows; next = next }) ≡ walk_left us ranges w
  next_range r next rows is begins =
      let rest = overlapping_ranges w.low w.high (drop next.index ranges) in
      sym (left_after (r ∷ rest) is ∙ begins (stretches_from us w.low w.high rest))

  pub refused_range : (r : UnitRange) (next : RangePlace) (e : Error)
      → overlapping_ranges w.low w.high (drop w.next.index ranges)
      ≡ r ∷ overlapping_ranges w.low w.high (drop next.index ranges)
      → BeginsRange us w.low w.high r (Err e) → e ≢ Memory → walk_left us ranges w ≡ no_items (Err e)
  refused_range r next e is refuses other =
      let rest = overlapping_ranges w.low w.high (drop next.index ranges) in
      left_after (r ∷ rest) is ∙ refuses other (stretches_from us w.low w.high rest)

  pub no_range : overlapping_ranges w.low w.high (drop w.next.index ranges) ≡ []
      → walk_left us ranges w ≡ no_items (Ok tt)
  no_range is = left_after [] is

-- the next stretch of the walk's range is the next of all
pub first_left : (units : List ContextUnit) (ranges : List UnitRange) (s : UnitStretch) (old new : RangeWalk)
    → NextOfRows units (Ok (Some s)) old new
    → FindsStretch units (Ok (Some s)) (walk_left (map unit_places units) ranges old)
    (walk_left (map unit_places units) ranges new)
first_left units ranges s old new h =
    let us = map unit_places units in
    let moved : RangeWalk = record old { rows = new.rows } in
    let rest = stretches_from us old.low old.high (overlapping_ranges old.low old.high (drop old.next.index ranges)) in
    subst (λ (x : RangeWalk). FindsStretch units (Ok (Some s)) (walk_left us ranges old) (walk_left us ranges x))
    (sym h.0) (h.1.0, h.1.1, ap (λ ts. prepend ts rest) h.1.2)

-- a stretch that was found, if one was
abbrev pub ok_stretch : Option UnitStretch → Result (Option UnitStretch) Error
ok_stretch o = Ok o

-- where the walk's range has no more, the walk leaves it
pub in_no_range : (units : List ContextUnit) (old new : RangeWalk) (o : Option UnitStretch) → o ≡ None
    → NextOfRows units (Ok o) old new → new.rows ≡ None
in_no_range units old new o none h =
    let left : NextOfRows units (Ok None) old new = subst (λ x. NextOfRows units (Ok x) old new) none h in
    ap (λ (w : RangeWalk). w.rows) left.0

-- and nothing is left but what comes after it
pub leaves_range : (units : List ContextUnit) (ranges : List UnitRange) (old new : RangeWalk) (o : Option UnitStretch)
    → o ≡ None → NextOfRows units (Ok o) old new
    → (walk_left (map unit_places units) ranges new ≡ walk_left (map unit_places units) ranges old)
    × (rows_left (map unit_places units) new.low new.high new.rows ≡ [])
leaves_range units ranges old new o none h =
    let us = map unit_places units in
    let rest = stretches_from_index us old.low old.high ranges old.next.index in
    let left : NextOfRows units (Ok None) old new = subst (λ x. NextOfRows units (Ok x) old new) none h in
    let P : RangeWalk → Type 0 =
    λ w. (walk_left us ranges w ≡ walk_left us ranges old) × (rows_left us w.low w.high w.rows ≡ []) in
    subst P (sym left.0) (ap (λ ts. prepend ts rest) (sym left.1), refl)
