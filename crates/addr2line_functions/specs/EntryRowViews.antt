-- An entry that was read, as the definitions have it.
use Rattle.std.specs.Prelude.{ℕ, ◌==◌, Bool, false, List, Option, Some, None}
use Rattle.gimli_units_entries.specs.View.{View}
use Rattle.gimli_units_entries.specs.DwTag.{DwTag}
use Rattle.gimli_units_entries.specs.EntryRows.{Row}
use Rattle.gimli_units_entries.specs.EntryViews.{raw_attributes}
use Rattle.gimli_units_entries.specs.Attribute.{Attribute}
use Rattle.addr2line_functions.specs.declared.row.EntryRow.{EntryRow}

-- the row of an entry and the attributes that were read
abbrev pub row_view
    : {R E O : Type 0} → (R → View) → (O → ℕ) → EntryRow O → List (Attribute R E O) → Row
row_view view count r attributes = record {
  offset = count r.offset.0;
  depth = r.depth;
  tag = r.tag.0;
  has_children = r.has_children;
  attributes = raw_attributes view count attributes;
}

-- the tag is the one that is chosen, if one is
abbrev pub is_chosen : Option DwTag → ℕ → Bool
is_chosen None tag = false
is_chosen (Some chosen) tag = tag == chosen.0
