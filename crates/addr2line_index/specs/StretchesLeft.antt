-- The stretches between two ends that are left, from an index among the ranges of all units on.
use Rattle.std.specs.Prelude.{◌≡◌, ◌≢◌, ℕ, List, [], ◌∷◌, drop, Option, Some, None, Result, Ok, Err}
use Rattle.addr2line_spec.specs.Error.{Error}
use Rattle.addr2line_spec.specs.Error.TheVariants.{Memory}
use Rattle.addr2line_spec.specs.Repetition.{Listing, no_items, prepend}
use Rattle.addr2line_spec.specs.Lines.{Stretch}
use Rattle.addr2line_index.specs.declared.unit_range.UnitRange.{UnitRange}
use Rattle.addr2line_index.specs.RangeIndexLaws.{stretches_from}
use Rattle.addr2line_index.specs.NumberedRanges.{overlapping_ranges}
use Rattle.addr2line_index.specs.UnitPlaces.{UnitPlaces}

-- the stretches of the units of the ranges from an index on
abbrev pub stretches_from_index : List UnitPlaces → ℕ → ℕ → List UnitRange → ℕ
    → Listing (Unit {0}) Stretch
stretches_from_index units low high ranges index =
    stretches_from units low high (overlapping_ranges low high (drop index ranges))

-- What was left before a call is the stretch that it answers, and then what is left after it. Where
-- none was left it answers none, and the refusal that ended them where one did. Nothing changes
-- then, nor when out of memory.
abbrev pub StretchComesNext : {A : Type 0} → (A → Stretch) → Result (Option A) Error
    → Listing (Unit {0}) Stretch → Listing (Unit {0}) Stretch → Type 0
StretchComesNext see (Ok (Some x)) old new = old ≡ prepend (see x ∷ []) new
StretchComesNext see (Ok None) old new = (old ≡ no_items (Ok tt)) × (new ≡ old)
StretchComesNext see (Err e) old new = (e ≢ Memory → old ≡ no_items (Err e)) × (new ≡ old)
