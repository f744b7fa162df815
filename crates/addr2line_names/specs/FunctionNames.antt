-- The names of functions and of inlined calls (DWARF 5, 2.15 and 2.22): an entry's own, or that of
-- the entry which it completes or is an instance of (2.13.2 and 3.3.8.2).
use Rattle.std.specs.Prelude.{ℕ, zero, suc, ◌||◌, List, [], ◌∷◌, map, Option, Some, None, Result, Ok, if◌then◌else◌}
use Rattle.std.specs.List.{filter_map, last_or}
use Rattle.std.specs.Option.{option_or}
use Rattle.gimli_dwarf.specs.Error.{Error}
use Rattle.gimli_dwarf.specs.View.{View}
use Rattle.gimli_dwarf.specs.AttributeMeanings.{value_under}
use Rattle.gimli_dwarf.specs.AttributeValues.{RawValue, RawAttribute}
use Rattle.gimli_dwarf.specs.Results.{and_then}
use Rattle.gimli_dwarf.specs.UnitFacts.{is_name, value_of_kind}
use Rattle.addr2line_names.specs.EntryReferences.{KnownUnits, HoldingUnit, ReferredEntry, referred_entry}
use Rattle.addr2line_names.specs.EntryNamings.{EntryNaming, by_name, by_reference, nameless, is_linkage_name, is_reference, text_of, naming_at}

-- ---- references

-- a name, or the name that a reference leads to
abbrev pub name_or_follow
    : (RawValue → Result (Option View) Error) → EntryNaming → Result (Option View) Error
name_or_follow follow (by_name name) = Ok (Some name)
name_or_follow follow (by_reference v) = follow v
name_or_follow follow nameless = Ok None

-- the name of an entry, if there is one
abbrev pub name_of_entry
    : (HoldingUnit → RawValue → Result (Option View) Error) → Option ReferredEntry
    → Result (Option View) Error
name_of_entry follow None = Ok None
name_of_entry follow (Some e) =
    and_then (naming_at e) (name_or_follow (follow e.holder))

-- the name that a value leads to by at most a number of references
unfoldable pub name_by_reference
    : KnownUnits → ℕ → HoldingUnit → RawValue → Result (Option View) Error
name_by_reference known zero h v = Ok None
name_by_reference known (suc more) h v =
    and_then (referred_entry known h v)
    (name_of_entry (name_by_reference known more))

-- a chain has at most this number of references
abbrev pub most_references : ℕ
most_references = 16

-- ---- the name of a function or a call

-- the name by one attribute: one that can be read, or that which a reference leads to
abbrev pub name_of_attribute
    : HoldingUnit → (RawValue → Result (Option View) Error) → RawAttribute
    → Result (Option View) Error
name_of_attribute h follow a =
    if is_linkage_name a.name || is_name a.name
    then Ok (text_of h (value_under a.name a.value))
    else if is_reference a.name then follow (value_under a.name a.value)
    else Ok None

-- a name, or else what comes later
abbrev pub name_or : Option View → Result (Option View) Error → Result (Option View) Error
name_or None later = later
name_or (Some name) later = Ok (Some name)

-- the first name, unless there is a refusal before it
abbrev pub first_name : List (Result (Option View) Error) → Result (Option View) Error
first_name [] = Ok None
first_name (r ∷ rs) = and_then r (λ name. name_or name (first_name rs))

-- The last linkage name that can be read, or else the first name by an attribute. In either
-- case a refusal before the first name counts.
abbrev pub name_of_attributes
    : HoldingUnit → (RawValue → Result (Option View) Error) → List RawAttribute
    → Result (Option View) Error
name_of_attributes h follow attributes =
    and_then (first_name (map (name_of_attribute h follow) attributes)) (λ first.
    Ok (last_or first
    (filter_map (value_of_kind (text_of h) is_linkage_name) attributes)))

-- the name of a function or a call with these attributes
abbrev pub name_of
    : KnownUnits → HoldingUnit → List RawAttribute → Result (Option View) Error
name_of known h attributes =
    name_of_attributes h (name_by_reference known most_references h) attributes

-- ---- attribute by attribute

-- the name by those of some attributes and one more
abbrev pub name_with
    : HoldingUnit → (RawValue → Result (Option View) Error) → Option View → RawAttribute
    → Result (Option View) Error
name_with h follow found a =
    if is_linkage_name a.name
    then Ok (option_or (text_of h (value_under a.name a.value)) found)
    else name_or found (name_of_attribute h follow a)
