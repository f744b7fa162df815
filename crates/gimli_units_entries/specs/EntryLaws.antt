-- Laws of whole walks: their rows, one after the other.
use Rattle.std.specs.Prelude.{None, ◌≡◌, ℕ, ◌≤◌, Bool, true, List, [], map, pos, length, All, Ok, if◌then◌else◌}
use Rattle.std.specs.List.Sorted.{IsStrictlyIncreasing}
use Rattle.gimli_core_base.specs.View.{bytes_left}
use Rattle.gimli_core_base.specs.Repetition.{fault_of}
use Rattle.gimli_units_forms.specs.Declarations.{Attribute, Declaration}
use Rattle.gimli_units_forms.specs.AttributeValues.{RawAttribute}
use Rattle.gimli_units_headers.specs.UnitHeaders.{DebugUnit, IsWellFormed}
use Rattle.gimli_units_entries.specs.EntryWalks.{Walk, IsWithin, values, skip_values}
use Rattle.gimli_units_entries.specs.EntryRows.{Row, row, row_choosing, rows, not_null, entry_at}
use Rattle.gimli_units_entries.specs.UnitEntries.{walk_before}

-- where attributes can be read, skipping them leaves what reading leaves
abbrev pub SkippingFollowsReading : Type 0
SkippingFollowsReading =
    (limit : ℕ) (specifications : List Attribute) (w rest : Walk) (all : List RawAttribute)
    → values limit specifications w ≡ Ok (all, rest)
    → skip_values specifications w ≡ Ok (tt, rest)

-- all tags
abbrev pub any_tag : ℕ → Bool
any_tag tag = true

-- a row whose attributes are read is the row for which all tags are chosen
abbrev pub AllChosenIsRead : Type 0
AllChosenIsRead = (limit : ℕ) (w : Walk) → row_choosing limit any_tag w ≡ row limit w

-- a row without its attributes, where its tag isn't chosen
abbrev pub row_under_choice : (ℕ → Bool) → Row → Row
row_under_choice choice r = record {
  offset = r.offset;
  depth = r.depth;
  tag = r.tag;
  has_children = r.has_children;
  attributes = if choice r.tag then r.attributes else [];
}

-- where a row is read, a choice of tags changes nothing but its attributes
abbrev pub ChoiceDropsAttributes : Type 0
ChoiceDropsAttributes = (limit : ℕ) (choice : ℕ → Bool) (w rest : Walk) (r : Row)
    → row limit w ≡ Ok (r, rest)
    → row_choosing limit choice w ≡ Ok (row_under_choice choice r, rest)

-- where all rows of a walk can be read, a choice of tags changes nothing but attributes
abbrev pub RowsByChoice : Type 0
RowsByChoice = (limit : ℕ) (choice : ℕ → Bool) (w : Walk)
    → fault_of (rows limit any_tag w) ≡ None
    → rows limit choice w ≡ record {
      items = map (row_under_choice choice) (rows limit any_tag w).items;
      ending = (rows limit any_tag w).ending;
    }

-- each row takes a byte at least
abbrev pub NoMoreRowsThanBytes : Type 0
NoMoreRowsThanBytes = (limit : ℕ) (choice : ℕ → Bool) (w : Walk)
    → length (rows limit choice w).items ≤ bytes_left w.rest

-- each row comes after the one before
abbrev pub OffsetsGrow : Type 0
OffsetsGrow = (limit : ℕ) (choice : ℕ → Bool) (w : Walk) → IsWithin w
    → IsStrictlyIncreasing (map (λ r. r.offset) (rows limit choice w).items)

-- the same row where a walk begins at it
abbrev pub at_depth_0 : Row → Row
at_depth_0 r = record {
  offset = r.offset;
  depth = pos 0;
  tag = r.tag;
  has_children = r.has_children;
  attributes = r.attributes;
}

-- a row is, but for its depth, the entry at its offset, and a null entry is refused there
abbrev pub IsFoundAgain : ℕ → DebugUnit → List Declaration → Row → Type 0
IsFoundAgain limit u table r = entry_at limit u table r.offset ≡ not_null r.offset (at_depth_0 r)

-- each row of a unit is found again
abbrev pub RowsAreFoundAgain : Type 0
RowsAreFoundAgain =
    (limit most : ℕ) (u : DebugUnit) (table : List Declaration) → IsWellFormed most u
    → All (IsFoundAgain limit u table) (rows limit any_tag (walk_before u table u.entries)).items
