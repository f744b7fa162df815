-- What range lists and location lists have in common (DWARF 5, 2.6.2 and 2.17.3): entries up to one
-- that ends the list, each of which sets a base, or stands for an answer at the base before it.
use Rattle.std.specs.Prelude.{◌≡◌, ◌≢◌, ◌⊎◌, ℕ, zero, suc, ◌<◌, List, Option, Some, None, Result, Ok, Err}
use Rattle.gimli_core_readers.specs.Error.{Error}
use Rattle.gimli_core_readers.specs.Error.TheVariants.{Memory}
use Rattle.gimli_core_readers.specs.View.{View, bytes_left}
use Rattle.gimli_core_readers.specs.Parsers.{Parser}
use Rattle.gimli_core_readers.specs.Repetition.{listing_in, answers_of}
use Rattle.gimli_units_lists.specs.ListResolutions.{resolutions}
use Rattle.gimli_units_lists.specs.ListEntries.{Setting}
use Rattle.gimli_units_lists.specs.ListEntryFields.{entry_or_end}

-- a sort of lists: how an entry is read, the base that it sets, and what it stands for at a base;
-- how entries are read depends on H, as on a unit's encoding
pub record ListKind (H E A : Type 0) : Type 0 where
  pub entry : ℕ → H → Parser (Option E)
  pub base_in : Setting → E → Option ℕ
  pub answer_of : Setting → ℕ → E → Result (Option A) Error

-- what the ranges of entries are made with: a setting, and the base, until an entry sets another
pub record Resolution : Type 0 where
  pub setting : Setting
  pub base : ℕ

-- what is left of a list
pub record RemainingList (H : Type 0) : Type 0 where
  pub how : H
  pub rest : View
  pub against : Resolution

-- each entry that is read takes some bytes
abbrev pub TakesBytes : {E : Type 0} → Parser (Option E) → Type 0
TakesBytes {E} p = (v w : View) (e : E) → p v ≡ Ok (Some e, w) → bytes_left w < bytes_left v

-- the entries up to the list's end, or to the first fault, which is the last answer
abbrev pub entries_from : {E : Type 0} → Parser (Option E) → View → List (Result E Error)
entries_from p v = answers_of (listing_in bytes_left (entry_or_end p) v)

abbrev pub entries_of : {H E A : Type 0} → ListKind H E A → ℕ → RemainingList H
    → List (Result E Error)
entries_of kind limit l = entries_from (kind.entry limit l.how) l.rest

-- what they stand for, and the faults among them
abbrev pub answers_to_come : {H E A : Type 0} → ListKind H E A → ℕ → RemainingList H
    → List (Result A Error)
answers_to_come kind limit l =
    resolutions (kind.base_in l.against.setting) (kind.answer_of l.against.setting) l.against.base
    (entries_of kind limit l)

-- ---- bytes

-- From the old place to the new one, n entries are read.
abbrev pub ReadsEntries : {E : Type 0} → Parser (Option E) → ℕ → View → View → Type 0
ReadsEntries p zero old new = new ≡ old
ReadsEntries {E} p (suc n) old new =
    (place : View) × (e : E) × ReadsEntries p n old place × (p place ≡ Ok (Some e, new))

-- A call that answers an entry leaves the bytes after it. At the list's end and after a fault no
-- byte is left, and out of memory all are.
abbrev pub ReadsEntry : {E B : Type 0} → (B → E) → Parser (Option E)
    → Result (Option B) Error → View → View → Type 0
ReadsEntry see p (Ok None) old new = bytes_left new ≡ 0
ReadsEntry see p (Ok (Some x)) old new = p old ≡ Ok (Some (see x), new)
ReadsEntry see p (Err e) old new =
    (e ≢ Memory → (p old ≡ Err e) × (bytes_left new ≡ 0)) × (e ≡ Memory → new ≡ old)

-- some entries are read, and all of their bytes
abbrev pub ReadsSome : {E : Type 0} → Parser (Option E) → View → View → Type 0
ReadsSome p old new = (n : ℕ) × ReadsEntries p n old new

-- After some entries one can't be read, and no byte is left.
abbrev pub EndsAtFault : {E : Type 0} → Parser (Option E) → Error → View → View → Type 0
EndsAtFault p e old new =
    (place : View) × ReadsSome p old place × (p place ≡ Err e) × (bytes_left new ≡ 0)

-- A call that reads entries up to one that stands for an answer leaves the bytes after that one. At
-- the list's end no byte is left.
abbrev pub LeavesBytes : {E B : Type 0} → Parser (Option E) → Result (Option B) Error
    → View → View → Type 0
LeavesBytes p (Ok None) old new = bytes_left new ≡ 0
LeavesBytes p (Ok (Some x)) old new = ReadsSome p old new
LeavesBytes p (Err e) old new =
    (e ≢ Memory → ReadsSome p old new ⊎ EndsAtFault p e old new)
    × (e ≡ Memory → ReadsSome p old new)
