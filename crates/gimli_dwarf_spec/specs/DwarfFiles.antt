-- All sections of a file, and its supplement's.
use Rattle.std.specs.Prelude.{ℕ, List, [], ◌∷◌, Option, Some, None}
use Rattle.gimli_units_entries.specs.View.{View}
use Rattle.gimli_units_entries.specs.DwarfFileType.{DwarfFileType}
use Rattle.gimli_units_lists.specs.ListSections.{RangeSections, LocationSections}

-- the sections of one file (DWARF 5, 7.1), and whether it is a split file
pub record FileSections : Type 0 where
  pub debug_abbrev : View
  pub debug_addr : View
  pub debug_aranges : View
  pub debug_info : View
  pub debug_line : View
  pub debug_line_str : View
  pub debug_macinfo : View
  pub debug_macro : View
  pub debug_names : View
  pub debug_str : View
  pub debug_str_offsets : View
  pub debug_types : View
  pub locations : LocationSections
  pub ranges : RangeSections
  pub file_type : DwarfFileType

-- A file: its sections, and those of its supplement, of the supplement's own supplement, and so on
-- (DWARF 5, 7.3.6). All offsets in them are below a limit, which depends on what reads them.
pub record DwarfFile : Type 0 where
  pub offset_limit : ℕ
  pub sections : FileSections
  pub supplements : List FileSections

-- the supplement of a file, if it has one, and the supplements after that
abbrev pub with_its_supplements : FileSections → Option DwarfFile → List FileSections
with_its_supplements sections None = []
with_its_supplements sections (Some s) = s.sections ∷ s.supplements

abbrev pub dwarf_file : ℕ → FileSections → Option DwarfFile → DwarfFile
dwarf_file limit sections supplement =
    record {
      offset_limit = limit;
      sections = sections;
      supplements = with_its_supplements sections supplement;
    }

abbrev pub first_supplement : ℕ → List FileSections → Option DwarfFile
first_supplement limit [] = None
first_supplement limit (f ∷ fs) =
    Some (record { offset_limit = limit; sections = f; supplements = fs })

-- the supplement of a file
abbrev pub supplement : DwarfFile → Option DwarfFile
supplement file = first_supplement file.offset_limit file.supplements
