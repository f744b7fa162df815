-- What contracts see of an entry.
use Rattle.std.specs.Prelude.{ℕ, List, map, Option, find, ◌==◌}
use Rattle.gimli_core_base.specs.View.{View}
use Rattle.gimli_units_forms.specs.AttributeValues.{RawAttribute, raw_attribute_of}
use Rattle.gimli_units_forms.specs.declared.value.Attribute.{Attribute}
use Rattle.gimli_units_entries.specs.EntryRows.{Row}
use Rattle.gimli_units_entries.specs.declared.entry.DebuggingInformationEntry.{DebuggingInformationEntry}

-- attributes, with their readers and offsets as these functions see them
abbrev pub raw_attributes : {R E O : Type 0} → (R → View) → (O → ℕ)
    → List (Attribute R E O) → List RawAttribute
raw_attributes view count attributes = map (raw_attribute_of view count) attributes

-- an entry, as the same functions see it
abbrev pub entry_of : {R E O : Type 0} → (R → View) → (O → ℕ)
    → DebuggingInformationEntry R E O → Row
entry_of view count e = record {
  offset = count e.offset.0;
  depth = e.depth;
  tag = e.tag.0;
  has_children = e.has_children;
  attributes = raw_attributes view count e.attrs.items;
}

-- the first attribute of a name
abbrev pub attribute_named : ℕ → Row → Option RawAttribute
attribute_named name r = find (λ a. a.name == name) r.attributes
