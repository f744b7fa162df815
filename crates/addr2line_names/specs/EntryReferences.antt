-- Where references between entries lead: within a unit, to another unit of the file, or into the
-- file's supplement (DWARF 5, 7.5.5, references, and 7.3.6).
use Rattle.std.specs.Prelude.{ℕ, Bool, nat_lt, List, [], filter, Option, Some, None, option_map, option_and_then, Result, Ok, Err}
use Rattle.std.specs.List.{last_or}
use Rattle.gimli_dwarf.specs.Error.{Error}
use Rattle.gimli_dwarf.specs.Error.TheVariants.{NoEntryAtGivenOffset}
use Rattle.gimli_dwarf.specs.AttributeValues.{RawValue, unit_reference, info_reference, info_reference_sup}
use Rattle.gimli_dwarf.specs.UnitOffsets.{to_unit_offset}
use Rattle.gimli_dwarf.specs.Results.{some_of}
use Rattle.gimli_dwarf.specs.DwarfFiles.{DwarfFile, supplement}
use Rattle.gimli_dwarf.specs.UnitFacts.{UnitFacts, UnitInFile, in_file}
use Rattle.addr2line_names.specs.declared.file.DebugFile.{DebugFile}
use Rattle.addr2line_names.specs.declared.file.DebugFile.TheVariants.{Primary, Supplementary, Dwo}

-- the units that references may lead to: those of the main file, and those of its supplement
pub record KnownUnits : Type 0 where
  pub units : List UnitFacts
  pub supplement_units : List UnitFacts

-- the unit that holds an entry, and which of the files it is in
pub record HoldingUnit : Type 0 where
  pub file : DebugFile
  pub unit : UnitInFile

-- an entry that a reference leads to: the unit that holds it, and its offset in that unit
pub record ReferredEntry : Type 0 where
  pub holder : HoldingUnit
  pub offset : ℕ

-- ---- offsets of a section

-- The units among which a file's entries refer by offsets of `.debug_info`. No such offset of a
-- split file leads anywhere.
abbrev pub units_in : DebugFile → KnownUnits → List UnitFacts
units_in Primary known = known.units
units_in Supplementary known = known.supplement_units
units_in Dwo known = []

abbrev pub begins_below : ℕ → UnitFacts → Bool
begins_below offset u = nat_lt u.header.offset offset

-- the last unit that begins below an offset of the section
abbrev pub unit_below : ℕ → List UnitFacts → Option UnitFacts
unit_below offset units = last_or None (filter (begins_below offset) units)

-- the entry at an offset of the section, if it is among those of a unit
abbrev pub entry_in : DebugFile → DwarfFile → ℕ → UnitFacts → Option ReferredEntry
entry_in file s offset u =
    option_map (λ o. record {
      holder = record { file = file; unit = in_file s u };
      offset = o;
    }) (to_unit_offset u.header offset)

-- a value, or else an error
abbrev pub or_error : {A : Type 0} → Error → Option A → Result A Error
or_error e None = Err e
or_error e (Some x) = Ok x

-- the entry at an offset of the section
abbrev pub entry_among : DebugFile → DwarfFile → List UnitFacts → ℕ
    → Result ReferredEntry Error
entry_among file s units offset =
    or_error (NoEntryAtGivenOffset offset)
    (option_and_then (entry_in file s offset) (unit_below offset units))

-- ---- references

-- the entry at an offset of the supplement's section, if there is a supplement
abbrev pub entry_in_supplement
    : KnownUnits → ℕ → Option DwarfFile → Result (Option ReferredEntry) Error
entry_in_supplement known offset None = Ok None
entry_in_supplement known offset (Some s) =
    some_of (entry_among Supplementary s known.supplement_units offset)

-- The entry that a value refers to: one of the same unit, of the same file, or of its supplement.
-- Other values refer to none.
abbrev pub referred_entry
    : KnownUnits → HoldingUnit → RawValue → Result (Option ReferredEntry) Error
referred_entry known h (unit_reference offset) =
    Ok (Some (record { holder = h; offset = offset }))
referred_entry known h (info_reference offset) =
    some_of (entry_among h.file h.unit.file (units_in h.file known) offset)
referred_entry known h (info_reference_sup offset) =
    entry_in_supplement known offset (supplement h.unit.file)
referred_entry known h _ = Ok None
