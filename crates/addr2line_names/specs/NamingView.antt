-- What contracts see of the name that an entry has by itself.
use Rattle.std.specs.Prelude.{ℕ}
use Rattle.gimli_dwarf.specs.View.{View}
use Rattle.gimli_dwarf.specs.AttributeValues.{raw_value_of}
use Rattle.addr2line_names.specs.EntryNamings as entries
use Rattle.addr2line_names.specs.declared.naming.EntryNaming.{EntryNaming}
use Rattle.addr2line_names.specs.declared.naming.EntryNaming.TheVariants.{ByName, ByReference, Nameless}

-- `view` and `count` are what contracts see of a reader and of an offset
abbrev pub naming_view
    : {R E O : Type 0} → (R → View) → (O → ℕ) → EntryNaming R E O
    → entries.EntryNaming
naming_view view count (ByName name) = entries.by_name (view name)
naming_view view count (ByReference v) = entries.by_reference (raw_value_of view count v)
naming_view view count Nameless = entries.nameless
