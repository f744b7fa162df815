-- What a call takes of the entries of a list: those up to the first that stands for an answer.
use Rattle.std.specs.Prelude.{◌≡◌, ◌≢◌, ℕ, List, [], ◌∷◌, ◌++◌, Option, Some, None, Result, Ok, Err}
use Rattle.gimli_core_readers.specs.Error.{Error}
use Rattle.gimli_core_readers.specs.Error.TheVariants.{Memory}
use Rattle.gimli_core_readers.specs.declared.range.Range.{Range}
use Rattle.gimli_units_lists.specs.ListResolutions.{resolutions}
use Rattle.gimli_units_lists.specs.Lists.{ListKind, RemainingList, entries_of}
use Rattle.gimli_units_lists.specs.RangeEntries.{range_lists, raw_ranges_to_come}
use Rattle.gimli_units_lists.specs.LocationEntries.{Location, location_lists}
use Rattle.gimli_units_lists.specs.ListSections.{RemainingRanges, range_list, RemainingLocations, location_list}

-- Entries that stand for these answers and leave another base: what comes after them is resolved at
-- that base.
abbrev pub StandFor : {E A : Type 0} → (E → Option ℕ)
    → (ℕ → E → Result (Option A) Error) → ℕ
    → List (Result E Error) → List (Result A Error) → ℕ → Type 0
StandFor {E} sets resolve base entries answers after =
    (rest : List (Result E Error)) → resolutions sets resolve base (entries ++ rest)
    ≡ answers ++ resolutions sets resolve after rest

-- the first entries stand for nothing
pub record SkipsEntries {E A : Type 0} (sets : E → Option ℕ)
    (resolve : ℕ → E → Result (Option A) Error) (base after : ℕ)
    (old new : List (Result E Error))
    : Type 0 where
  pub skips : List (Result E Error)
  pub splits : old ≡ skips ++ new
  pub nothing : StandFor sets resolve base skips [] after

-- and the one after them for this answer
pub record StopsAfter {E A : Type 0} (sets : E → Option ℕ)
    (resolve : ℕ → E → Result (Option A) Error) (base after : ℕ)
    (old new : List (Result E Error))
    (x : Result A Error) : Type 0 where
  pub skips : List (Result E Error)
  pub last : Result E Error
  pub between : ℕ
  pub splits : old ≡ skips ++ last ∷ new
  pub nothing : StandFor sets resolve base skips [] between
  pub answer : StandFor sets resolve between (last ∷ []) (x ∷ []) after

-- ---- lists

-- the entries from the old place to the new one stand for nothing
abbrev pub Skips : {H E A : Type 0} → ListKind H E A → ℕ → RemainingList H
    → RemainingList H → Type 0
Skips kind limit old new =
    SkipsEntries (kind.base_in old.against.setting) (kind.answer_of old.against.setting)
    old.against.base new.against.base (entries_of kind limit old) (entries_of kind limit new)

-- the last of them stands for this answer
abbrev pub Finds : {H E A : Type 0} → ListKind H E A → ℕ → RemainingList H
    → RemainingList H → Result A Error → Type 0
Finds kind limit old new x =
    StopsAfter (kind.base_in old.against.setting) (kind.answer_of old.against.setting)
    old.against.base new.against.base (entries_of kind limit old) (entries_of kind limit new) x

-- A call takes the entries up to its answer, and all where there is none. One that is out of memory
-- may have skipped some.
abbrev pub TakesEntries : {H E A B : Type 0} → ListKind H E A → (B → A) → ℕ
    → Result (Option B) Error → RemainingList H → RemainingList H → Type 0
TakesEntries kind see limit (Ok None) old new =
    Skips kind limit old new × (entries_of kind limit new ≡ [])
TakesEntries kind see limit (Ok (Some x)) old new = Finds kind limit old new (Ok (see x))
TakesEntries kind see limit (Err e) old new =
    (e ≢ Memory → Finds kind limit old new (Err e))
    × (e ≡ Memory → Skips kind limit old new)

-- the same of ranges, which take no memory
abbrev pub TakesRange : ℕ → Result (Option Range) Error → RemainingRanges → RemainingRanges
    → Type 0
TakesRange limit (Ok None) old new =
    Skips range_lists limit (range_list old) (range_list new)
    × (raw_ranges_to_come limit new.raw ≡ [])
TakesRange limit (Ok (Some r)) old new =
    Finds range_lists limit (range_list old) (range_list new) (Ok r)
TakesRange limit (Err e) old new =
    Finds range_lists limit (range_list old) (range_list new) (Err e)

-- and of locations
abbrev pub TakesLocation : {L : Type 0} → (L → Location) → ℕ → Result (Option L) Error
    → RemainingLocations → RemainingLocations → Type 0
TakesLocation see limit result old new =
    TakesEntries location_lists see limit result (location_list old) (location_list new)
