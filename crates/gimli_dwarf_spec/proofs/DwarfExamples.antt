-- Worked values: what the definitions say of small roots and of split files, by computation.
use Rattle.std.proofs.Common.{◌≡◌, ℕ, true, false, [], ◌∷◌, Some, None, Err, refl}
use Rattle.gimli_units_entries.specs.Error.TheVariants.{ExpectedStringAttributeValue}
use Rattle.gimli_units_entries.specs.DwarfFileType.TheVariants.{Main, Dwo}
use Rattle.gimli_units_entries.specs.Encoding.{Encoding}
use Rattle.gimli_units_entries.specs.Format.TheVariants.{Dwarf32}
use Rattle.gimli_lines_header.specs.AttributeValues.{RawValue, RawAttribute, address, address_base}
use Rattle.gimli_lines_header.specs.UnitHeaders.{skeleton, split_compilation}
use Rattle.gimli_dwarf_spec.specs.Attributes.{Bases, attr_string, counts_from_base, supplement_string}
use Rattle.gimli_dwarf_spec.specs.DwarfFiles.{DwarfFile}
use Rattle.gimli_dwarf_spec.specs.Splitting.{split_from, relocated_from}
use Rattle.gimli_dwarf_spec.specs.UnitFacts.{UnitFacts, bases_of, dwo_id_in, dwo_name_number}

abbrev encoding : ℕ → Encoding
encoding version = record { address_size = 8; format = Dwarf32; version = version }

abbrev attribute : ℕ → RawValue → RawAttribute
attribute name value = record { name = name; form = 0; value = value }

-- ---- bases

-- a main file's tables are named, or begin where their sections do; those of a split file come after one header
no_bases : bases_of Main (encoding 5) []
    ≡ record {
      encoding = encoding 5;
      low_pc = 0;
      str_offsets_base = 0;
      addr_base = 0;
      loclists_base = 0;
      rnglists_base = 0;
    }
no_bases = refl

split_bases : bases_of Dwo (encoding 5) []
    ≡ record {
      encoding = encoding 5;
      low_pc = 0;
      str_offsets_base = 8;
      addr_base = 0;
      loclists_base = 12;
      rnglists_base = 12;
    }
split_bases = refl

last_base : (bases_of Main (encoding 4)
    (attribute 0x73 (address_base 8) ∷ attribute 0x2133 (address_base 16) ∷ [])).addr_base ≡ 16
last_base = refl

-- ---- values

no_text : (file : DwarfFile) (b : Bases) → attr_string file b (address 1) ≡ Err ExpectedStringAttributeValue
no_text file b = refl

no_supplement : supplement_string 0 None ≡ Err ExpectedStringAttributeValue
no_supplement = refl

split_offsets : counts_from_base Dwo (encoding 4) ≡ true
split_offsets = refl

split_offsets_of_version_5 : counts_from_base Dwo (encoding 5) ≡ false
split_offsets_of_version_5 = refl

main_offsets : counts_from_base Main (encoding 4) ≡ false
main_offsets = refl

-- ---- split units

skeleton_number : dwo_id_in (skeleton 7) ≡ Some 7
skeleton_number = refl

split_number : dwo_id_in (split_compilation 7) ≡ Some 7
split_number = refl

old_name : dwo_name_number (encoding 4) ≡ 0x2130
old_name = refl

new_name : dwo_name_number (encoding 5) ≡ 0x76
new_name = refl

parents_addresses : (parent s : DwarfFile) → (split_from parent s).sections.debug_addr ≡ parent.sections.debug_addr
parents_addresses parent s = refl

parents_old_ranges : (parent s : DwarfFile)
    → (split_from parent s).sections.ranges.debug_ranges ≡ parent.sections.ranges.debug_ranges
parents_old_ranges parent s = refl

own_ranges : (parent s : DwarfFile)
    → (split_from parent s).sections.ranges.debug_rnglists ≡ s.sections.ranges.debug_rnglists
own_ranges parent s = refl

begin_of_its_skeleton : (other u : UnitFacts) → (relocated_from other u).bases.low_pc ≡ other.bases.low_pc
begin_of_its_skeleton other u = refl

own_names : (other u : UnitFacts) → (relocated_from other u).name ≡ u.name
own_names other u = refl
