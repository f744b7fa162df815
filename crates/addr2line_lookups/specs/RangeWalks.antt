-- The stretches between two ends that are left of a walk over the units' ranges.
use Rattle.std.specs.Prelude.{◌≡◌, ◌≢◌, ◌⊎◌, ℕ, ◌+◌, max, min, List, [], ◌∷◌, length, drop, map, sum_by, slice_get, Option, Some, None, Result, Ok, Err}
use Rattle.addr2line_unit.specs.Error.{Error}
use Rattle.addr2line_unit.specs.Error.TheVariants.{Memory}
use Rattle.addr2line_unit.specs.Repetition.{Listing, no_items, prepend}
use Rattle.addr2line_unit.specs.Range.{Range}
use Rattle.addr2line_unit.specs.Lines.{Lines, Stretch}
use Rattle.addr2line_unit.specs.Contexts.{ContextUnit}
use Rattle.addr2line_unit.specs.UnitRange.{UnitRange}
use Rattle.addr2line_unit.specs.NumberedRanges.{overlapping_ranges}
use Rattle.addr2line_unit.specs.UnitPlaces.{UnitPlaces}
use Rattle.addr2line_unit.specs.RangeIndexLaws.{with_unit_stretches}
use Rattle.addr2line_unit.specs.LineCursor.{LineCursor}
use Rattle.addr2line_unit.specs.LineCursors.{lines_left, probes_from}
use Rattle.addr2line_unit.specs.LineWalks.{WalkBegins, WalkGoesOn}
use Rattle.addr2line_unit.specs.RowStretch.{RowStretch}
use Rattle.addr2line_unit.specs.Searches.{digit_count}
use Rattle.addr2line_unit.specs.StretchesLeft.{stretches_from_index}
use Rattle.addr2line_unit.specs.ContextUnits.{unit_places, ordered_ranges}
use Rattle.addr2line_unit.specs.ResolvedUnits.{ResolvedUnit}
use Rattle.addr2line_lookups.specs.KeptUnits.{KeepsAt, IsUnitOf, location_of_unit_row}
use Rattle.addr2line_lookups.specs.declared.range_walk.RangeRows.{RangeRows}
use Rattle.addr2line_lookups.specs.declared.range_walk.RangeWalk.{RangeWalk}
use Rattle.addr2line_lookups.specs.declared.range_walk.UnitStretch.{UnitStretch}

-- ---- one unit

-- a walk over the lines of a unit from a low end on begins at a cursor; at none where there is no
-- unit, or it has no rows for it, or its lines are refused
abbrev pub BeginsInUnit : ℕ → Option ContextUnit → Option LineCursor → Type 0
BeginsInUnit low None c = c ≡ None
BeginsInUnit low (Some u) c = WalkBegins low u.lines c

-- its next row at a cursor, if one is left between two ends
abbrev pub GoesOnInUnit : ℕ → ℕ → LineCursor → Option ContextUnit
    → Option (RowStretch × LineCursor) → Type 0
GoesOnInUnit low high c None f = f ≡ None
GoesOnInUnit low high c (Some u) f = WalkGoesOn low high c u.lines f

-- ---- one range

-- the stretches of lines that are left at a cursor, between two ends, both clipped to a range; none
-- where the lines are refused
abbrev pub clipped_left : ℕ → ℕ → Range → LineCursor → Result Lines Error → List Stretch
clipped_left low high r c (Ok l) = lines_left l (max low r.begin) (min high r.end) c
clipped_left low high r c (Err e) = []

-- those of a unit, if there is one
abbrev pub unit_left : ℕ → ℕ → Range → LineCursor → Option UnitPlaces → List Stretch
unit_left low high r c None = []
unit_left low high r c (Some u) = clipped_left low high r c u.lines

-- those of the unit of the range that the walk is in, if it is in one
abbrev pub rows_left : List UnitPlaces → ℕ → ℕ → Option RangeRows → List Stretch
rows_left us low high None = []
rows_left us low high (Some r) =
    unit_left low high r.range.range r.cursor (slice_get us r.range.unit)

-- the rows of a unit's range come before the others, or the refusal of its lines ends all
abbrev pub BeginsRange : List UnitPlaces → ℕ → ℕ → UnitRange → Result (Option RangeRows) Error
    → Type 0
BeginsRange us low high r (Ok rows) =
    (rest : Listing (Unit {0}) Stretch)
    → with_unit_stretches low high r.range (slice_get us r.unit) rest
    ≡ prepend (rows_left us low high rows) rest
BeginsRange us low high r (Err e) =
    e ≢ Memory → (rest : Listing (Unit {0}) Stretch)
    → with_unit_stretches low high r.range (slice_get us r.unit) rest ≡ no_items (Err e)

-- ---- stretches

-- a stretch is that of a unit's row
pub record IsStretchOf (units : List ContextUnit) (s : UnitStretch) (x : Stretch) : Type 0 where
  pub address : x.address ≡ s.address
  pub length : x.length ≡ s.length
  pub location : location_of_unit_row units s.row ≡ Some x.location

-- the first of some stretches is that of a unit's row, and the others are left
abbrev pub FirstStretch : List ContextUnit → UnitStretch → List Stretch → List Stretch → Type 0
FirstStretch units s old new = (x : Stretch) × IsStretchOf units s x × (old ≡ x ∷ new)

-- the next of the stretches of a unit's range, if there is one
abbrev pub NextInRange : List ContextUnit → ℕ → ℕ → RangeRows → Option (UnitStretch × RangeRows)
    → Type 0
NextInRange units low high r None = rows_left (map unit_places units) low high (Some r) ≡ []
NextInRange units low high r (Some f) =
    FirstStretch units f.0 (rows_left (map unit_places units) low high (Some r))
    (rows_left (map unit_places units) low high (Some f.1))

-- The next of the stretches of the range that a walk is in, if there is one; else the walk leaves
-- that range. It stays where it was when out of memory.
abbrev pub NextOfRows : List ContextUnit → Result (Option UnitStretch) Error → RangeWalk
    → RangeWalk → Type 0
NextOfRows units (Ok (Some s)) old new =
    (new ≡ record old { rows = new.rows })
    × FirstStretch units s (rows_left (map unit_places units) old.low old.high old.rows)
    (rows_left (map unit_places units) old.low old.high new.rows)
NextOfRows units (Ok None) old new =
    (new ≡ record old { rows = None })
    × (rows_left (map unit_places units) old.low old.high old.rows ≡ [])
NextOfRows units (Err e) old new = (new ≡ old) × (e ≡ Memory)

-- the lines of the unit whose row was found are kept
abbrev pub KeepsStretch : List ResolvedUnit → Result (Option UnitStretch) Error → Type 0
KeepsStretch us (Ok (Some s)) = KeepsAt us s.row.unit
KeepsStretch us _ = Unit {0}

-- ---- all that are left

-- those of the range that a walk is in, and those of the ranges after it
abbrev pub walk_left : List UnitPlaces → List UnitRange → RangeWalk → Listing (Unit {0}) Stretch
walk_left us ranges w =
    prepend (rows_left us w.low w.high w.rows)
    (stretches_from_index us w.low w.high ranges w.next.index)

-- the same in units
abbrev pub stretches_left : List ContextUnit → RangeWalk → Listing (Unit {0}) Stretch
stretches_left units w = walk_left (map unit_places units) (ordered_ranges units) w

-- What was left before is the stretch of the row that is found, and then what is left after it.
-- Where none was left none is found, or the refusal that ended them. Nothing changes then, nor when
-- out of memory.
abbrev pub FindsStretch : List ContextUnit → Result (Option UnitStretch) Error
    → Listing (Unit {0}) Stretch → Listing (Unit {0}) Stretch → Type 0
FindsStretch units (Ok (Some s)) old new =
    (x : Stretch) × IsStretchOf units s x × (old ≡ prepend (x ∷ []) new)
FindsStretch units (Ok None) old new = (old ≡ no_items (Ok tt)) × (new ≡ old)
FindsStretch units (Err e) old new = (e ≢ Memory → old ≡ no_items (Err e)) × (new ≡ old)

-- ---- looks at what is kept

-- those that are left to a walk over lines at a cursor: at the sequences that are left, and three
-- at a row
abbrev pub probes_left : LineCursor → Result Lines Error → ℕ
probes_left c (Ok l) = probes_from l c.next + 3
probes_left c (Err e) = 0

-- those of all of it: a search for its cursor, and those that are left at the first sequence
abbrev pub all_probes : Result Lines Error → ℕ
all_probes (Ok l) = digit_count (length l.sequences) + (probes_from l 0 + 3)
all_probes (Err e) = 0

-- those in a unit, if there is one, at a cursor, if there is one
abbrev pub unit_probes_left : Option LineCursor → Option ContextUnit → ℕ
unit_probes_left None u = 0
unit_probes_left (Some c) None = 0
unit_probes_left (Some c) (Some u) = probes_left c u.lines

-- those of all of a walk in a unit
abbrev pub unit_probes : Option ContextUnit → ℕ
unit_probes None = 0
unit_probes (Some u) = all_probes u.lines

-- those in the range that a walk is in, if it is in one
abbrev pub rows_looks : List ContextUnit → Option RangeRows → ℕ
rows_looks units None = 0
rows_looks units (Some r) = unit_probes_left (Some r.cursor) (slice_get units r.range.unit)

-- those of all of a range
abbrev pub range_looks : List ContextUnit → UnitRange → ℕ
range_looks units r = unit_probes (slice_get units r.unit)

-- those that are left in it after a walk came to it: all, where it was refused
abbrev pub begun_looks : List ContextUnit → UnitRange → Result (Option RangeRows) Error → ℕ
begun_looks units r (Ok rows) = rows_looks units rows
begun_looks units r (Err e) = range_looks units r

-- those of the ranges from an index on that overlap with what is between two ends
abbrev pub looks_from : List ContextUnit → ℕ → ℕ → List UnitRange → ℕ → ℕ
looks_from units low high ranges index =
    sum_by (range_looks units) (overlapping_ranges low high (drop index ranges))

-- those that are left to a walk: in the range that it is in, and in those after it
abbrev pub walk_looks : List ContextUnit → List UnitRange → RangeWalk → ℕ
walk_looks units ranges w =
    rows_looks units w.rows + looks_from units w.low w.high ranges w.next.index

-- those that a step takes besides: three, where it finds a row
abbrev pub found_looks : {A : Type 0} → Option A → ℕ
found_looks None = 0
found_looks (Some x) = 3

-- the same of a step that may be refused
abbrev pub step_looks : {A : Type 0} → Result (Option A) Error → ℕ
step_looks (Ok found) = found_looks found
step_looks (Err e) = 0

-- ---- units that are asked

-- the unit of a number is that of the range that a walk is in
abbrev pub IsUnitOfRows : Option RangeRows → ℕ → Type 0
IsUnitOfRows None number = ⊥
IsUnitOfRows (Some r) number = number ≡ r.range.unit

-- the unit of a number is that of this range, or of one that the walk comes to after it
abbrev pub ComesTo : List UnitRange → RangeWalk → ℕ → Type 0
ComesTo ranges w number =
    IsUnitOfRows w.rows number
    ⊎ IsUnitOf (overlapping_ranges w.low w.high (drop w.next.index ranges)) number

-- nothing of a unit's range is between two ends, and nothing refuses its lines
abbrev pub HasNoStretch : List UnitPlaces → ℕ → ℕ → UnitRange → Type 0
HasNoStretch us low high r =
    with_unit_stretches low high r.range (slice_get us r.unit) (no_items (Ok tt))
    ≡ no_items (Ok tt)

-- The unit of a number is one of those of ranges, up to the first that has a stretch between two
-- ends or is refused.
abbrev pub AsksAlong : List UnitPlaces → ℕ → ℕ → List UnitRange → ℕ → Type 0
AsksAlong us low high [] number = ⊥
AsksAlong us low high (r ∷ rs) number =
    (number ≡ r.unit) ⊎ (HasNoStretch us low high r × AsksAlong us low high rs number)

-- The next step of a walk asks the unit of a number: that of the range that it is in, or, where
-- that has no stretch left, one of the ranges after it, up to the first that has one or is refused.
abbrev pub AsksForStretch : List UnitPlaces → List UnitRange → RangeWalk → ℕ → Type 0
AsksForStretch us ranges w number =
    IsUnitOfRows w.rows number
    ⊎ ((rows_left us w.low w.high w.rows ≡ [])
    × AsksAlong us w.low w.high (overlapping_ranges w.low w.high (drop w.next.index ranges)) number)

-- the same in units
abbrev pub AsksForNextStretch : List ContextUnit → RangeWalk → ℕ → Type 0
AsksForNextStretch units w =
    AsksForStretch (map unit_places units) (ordered_ranges units) w

-- a walk later comes to no other units
abbrev pub StaysOnItsWay : List UnitRange → RangeWalk → RangeWalk → Type 0
StaysOnItsWay ranges old new = (number : ℕ) → ComesTo ranges new number → ComesTo ranges old number

-- rows are those of a range, if there are any
abbrev pub AreOfRange : UnitRange → Option RangeRows → Type 0
AreOfRange range None = Unit {0}
AreOfRange range (Some r) = r.range ≡ range
