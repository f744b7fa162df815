-- Laws of the names of functions and of inlined calls.
use Rattle.std.specs.Prelude.{◌≡◌, ℕ, zero, suc, ◌+◌, ◌<◌, ◌≤◌, ◌||◌, true, false, List, [], ◌∷◌, ◌++◌, All, Some, None, Ok, Err, IsOk}
use Rattle.gimli_dwarf.specs.Error.{Error}
use Rattle.gimli_dwarf.specs.View.{View}
use Rattle.gimli_dwarf.specs.TheConstants.{DW_AT_abstract_origin}
use Rattle.gimli_dwarf.specs.AttributeMeanings.{value_under}
use Rattle.gimli_dwarf.specs.AttributeValues.{RawValue, RawAttribute}
use Rattle.gimli_dwarf.specs.UnitHeaders.{IsWellFormed, length_including_self}
use Rattle.gimli_dwarf.specs.UnitOffsets.{to_unit_offset}
use Rattle.gimli_dwarf.specs.DwarfFiles.{DwarfFile}
use Rattle.gimli_dwarf.specs.UnitFacts.{UnitFacts, in_file, is_name}
use Rattle.addr2line_names.specs.declared.file.DebugFile.{DebugFile}
use Rattle.addr2line_names.specs.EntryReferences.{KnownUnits, HoldingUnit, ReferredEntry, entry_among, referred_entry}
use Rattle.addr2line_names.specs.EntryNamings.{by_name, by_reference, is_linkage_name, is_reference, text_of, naming_at}
use Rattle.addr2line_names.specs.FunctionNames.{name_by_reference, name_of, most_references}

-- ---- an entry's own name

abbrev pub IsNoReference : RawAttribute → Type 0
IsNoReference a = is_reference a.name ≡ false

-- an attribute that is a name which can be read
abbrev pub IsNamedBy : HoldingUnit → RawAttribute → View → Type 0
IsNamedBy h a name =
    ((is_linkage_name a.name || is_name a.name) ≡ true)
    × (text_of h (value_under a.name a.value) ≡ Some name)

-- Where an attribute before all references is a name, the entry has one, and other units don't
-- matter.
abbrev pub OwnNameNeedsNoReference : Type 0
OwnNameNeedsNoReference =
    (known other : KnownUnits) (h : HoldingUnit) (before after : List RawAttribute)
    (a : RawAttribute) (name : View)
    → All IsNoReference before → IsNamedBy h a name
    → IsOk (name_of known h (before ++ a ∷ after))
    × (name_of known h (before ++ a ∷ after)
    ≡ name_of other h (before ++ a ∷ after))

-- What refuses the name of an entry refuses it whatever attributes follow.
abbrev pub RefusalIsFinal : Type 0
RefusalIsFinal =
    (known : KnownUnits) (h : HoldingUnit) (before after : List RawAttribute)
    (e : Error)
    → name_of known h before ≡ Err e
    → name_of known h (before ++ after) ≡ Err e

-- ---- chains

-- a reference that leads to an entry which refers further
pub record RefersFurther (known : KnownUnits) (h : HoldingUnit) (v : RawValue)
    (entry : ReferredEntry) (further : RawValue) : Type 0 where
  pub is_referred : referred_entry known h v ≡ Ok (Some entry)
  pub refers_on : naming_at entry ≡ Ok (by_reference further)

-- Two entries that refer to each other have no name.
abbrev pub CirclesHaveNoName : Type 0
CirclesHaveNoName =
    (known : KnownUnits) (one other : ReferredEntry) (v w : RawValue)
    → RefersFurther known other.holder v one w
    → RefersFurther known one.holder w other v
    → (references : ℕ) → name_by_reference known references other.holder v ≡ Ok None

-- a number of references, one after the other, lead from an entry to one that has this name
abbrev pub LeadsTo : KnownUnits → View → ℕ → ReferredEntry → Type 0
LeadsTo known name zero e = naming_at e ≡ Ok (by_name name)
LeadsTo known name (suc more) e =
    (v : RawValue) × (next : ReferredEntry)
    × (naming_at e ≡ Ok (by_reference v))
    × (referred_entry known e.holder v ≡ Ok (Some next))
    × LeadsTo known name more next

-- the attribute of an instance that names its origin
abbrev pub origin : ℕ → RawValue → RawAttribute
origin form v = record { name = DW_AT_abstract_origin.0; form = form; value = v }

-- An entry whose one attribute names its origin, which has no name but by further references: where
-- there are fewer than 16 of them, the name is that of the last; else there is none.
abbrev pub ChainsAreLimited : Type 0
ChainsAreLimited =
    (known : KnownUnits) (h : HoldingUnit) (form : ℕ) (v : RawValue)
    (first : ReferredEntry) (further : ℕ) (name : View)
    → referred_entry known h v ≡ Ok (Some first)
    → LeadsTo known name further first
    → (further < most_references → name_of known h (origin form v ∷ []) ≡ Ok (Some name))
    × (most_references ≤ further → name_of known h (origin form v ∷ []) ≡ Ok None)

-- ---- units

-- a unit begins at the end of another, or after it
abbrev pub ComesAfter : UnitFacts → UnitFacts → Type 0
ComesAfter u b = u.header.offset + length_including_self u.header ≤ b.header.offset

-- Where units follow one another, an offset of their section that is among the entries of one of
-- them leads to that entry.
abbrev pub OffsetsLeadIntoTheirUnit : Type 0
OffsetsLeadIntoTheirUnit =
    (most : ℕ) (file : DebugFile) (s : DwarfFile) (before after : List UnitFacts) (u : UnitFacts)
    (offset place : ℕ)
    → IsWellFormed most u.header → All (ComesAfter u) after
    → to_unit_offset u.header offset ≡ Some place
    → entry_among file s (before ++ u ∷ after) offset
    ≡ Ok (record { holder = record { file = file; unit = in_file s u }; offset = place })
