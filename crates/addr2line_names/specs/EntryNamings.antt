-- The name that an entry has by itself, or the reference that leads on to it (DWARF 5, 2.15 and
-- 2.22).
use Rattle.std.specs.Prelude.{ℕ, ◌==◌, ◌||◌, Bool, List, [], ◌∷◌, Option, Some, None, Result, Ok, Err}
use Rattle.std.specs.List.{filter_map}
use Rattle.gimli_dwarf.specs.Error.{Error}
use Rattle.gimli_dwarf.specs.Error.TheVariants.{NoEntryAtGivenOffset}
use Rattle.gimli_dwarf.specs.View.{View}
use Rattle.gimli_dwarf.specs.Repetition.{Listing, no_items, prepend, fault_of}
use Rattle.gimli_dwarf.specs.TheConstants.{DW_AT_abstract_origin, DW_AT_specification, DW_AT_linkage_name, DW_AT_MIPS_linkage_name}
use Rattle.gimli_dwarf.specs.Declarations.{Attribute, Declaration}
use Rattle.gimli_dwarf.specs.AttributeMeanings.{if_readable}
use Rattle.gimli_dwarf.specs.AttributeValues.{RawValue, RawAttribute}
use Rattle.gimli_dwarf.specs.EntryWalks.{Walk, entry_head, value}
use Rattle.gimli_dwarf.specs.UnitEntries.{walk_from}
use Rattle.gimli_dwarf.specs.Results.{and_then}
use Rattle.gimli_dwarf.specs.Attributes.{attr_string}
use Rattle.gimli_dwarf.specs.UnitFacts.{UnitInFile, is_name, value_of_kind, last_value_of_kind, any_value, last_value}
use Rattle.addr2line_names.specs.EntryReferences.{HoldingUnit, ReferredEntry}

-- ---- attributes

-- the standard's linkage name, and that of compilers before version 4
abbrev pub is_linkage_name : ℕ → Bool
is_linkage_name n = n == DW_AT_linkage_name.0 || n == DW_AT_MIPS_linkage_name.0

-- a reference to the entry that this one is an instance of, or that it completes
abbrev pub is_reference : ℕ → Bool
is_reference n = n == DW_AT_abstract_origin.0 || n == DW_AT_specification.0

-- the text of a value of one of a unit's attributes, where it can be read
abbrev pub text_of : HoldingUnit → RawValue → Option View
text_of h v = if_readable (attr_string h.unit.file h.unit.facts.bases v)

-- the first of a list
abbrev pub first_of : {A : Type 0} → List A → Option A
first_of [] = None
first_of (x ∷ xs) = Some x

-- ---- one entry

-- an attribute and those after it, or its fault
abbrev pub attribute_and_rest
    : Result (RawAttribute × Walk) Error → (Walk → Listing Walk RawAttribute)
    → Listing Walk RawAttribute
attribute_and_rest (Ok r) rest = prepend (r.0 ∷ []) (rest r.1)
attribute_and_rest (Err e) rest = no_items (Err e)

-- the attributes that a declaration describes, up to the first that can't be read
unfoldable pub attributes_from : ℕ → List Attribute → Walk → Listing Walk RawAttribute
attributes_from limit [] w = no_items (Ok w)
attributes_from limit (s ∷ ss) w =
    attribute_and_rest (value limit s w) (attributes_from limit ss)

-- those of a declaration; a null entry has none, and isn't an entry
abbrev pub attributes_of
    : ℕ → ℕ → Option Declaration → Walk → Result (Listing Walk RawAttribute) Error
attributes_of limit offset None w = Err (NoEntryAtGivenOffset offset)
attributes_of limit offset (Some d) w = Ok (attributes_from limit d.attributes w)

-- those of the entry at an offset of a unit
abbrev pub attributes_at : UnitInFile → ℕ → Result (Listing Walk RawAttribute) Error
attributes_at u offset =
    and_then (walk_from u.facts.header u.facts.table (Some offset)) (λ w.
    and_then (entry_head w) (λ r. attributes_of u.file.offset_limit offset r.0 r.1))

-- ---- its name

-- an entry has a name, or the value of a reference to follow, or neither
pub data EntryNaming : Type 0 where
  by_name : View → EntryNaming
  by_reference : RawValue → EntryNaming
  nameless : EntryNaming

abbrev pub reference_or_nameless : Option RawValue → EntryNaming
reference_or_nameless None = nameless
reference_or_nameless (Some v) = by_reference v

abbrev pub name_or_naming : Option View → EntryNaming → EntryNaming
name_or_naming None other = other
name_or_naming (Some name) other = by_name name

-- without a linkage name: the last name that can be read, or else the last reference
abbrev pub naming_of : HoldingUnit → List RawAttribute → EntryNaming
naming_of h attributes =
    name_or_naming (last_value_of_kind (text_of h) is_name attributes)
    (reference_or_nameless (last_value is_reference attributes))

-- a linkage name ends the reading, so that no fault after it counts
abbrev pub linkage_name_or : Option View → Option Error → EntryNaming
    → Result EntryNaming Error
linkage_name_or (Some name) fault other = Ok (by_name name)
linkage_name_or None (Some e) other = Err e
linkage_name_or None None other = Ok other

-- the first linkage name that can be read, or else what the other attributes give
abbrev pub naming_in : HoldingUnit → Listing Walk RawAttribute → Result EntryNaming Error
naming_in h l =
    linkage_name_or
    (first_of (filter_map (value_of_kind (text_of h) is_linkage_name) l.items))
    (fault_of l) (naming_of h l.items)

-- the naming of an entry, or why it can't be read
abbrev pub naming_at : ReferredEntry → Result EntryNaming Error
naming_at e =
    and_then (attributes_at e.holder.unit e.offset) (naming_in e.holder)

-- ---- attribute by attribute

-- a reference, or else what the attributes before it give
abbrev pub reference_or : Option RawValue → EntryNaming → EntryNaming
reference_or None found = found
reference_or (Some v) found = by_reference v

-- the naming by some attributes and one more that is no linkage name
abbrev pub naming_with : HoldingUnit → EntryNaming → RawAttribute → EntryNaming
naming_with h (by_name name) a =
    name_or_naming (value_of_kind (text_of h) is_name a) (by_name name)
naming_with h found a =
    name_or_naming (value_of_kind (text_of h) is_name a)
    (reference_or (value_of_kind any_value is_reference a) found)
