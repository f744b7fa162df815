-- Files that say what a table says.
use Rattle.std.specs.Prelude.{◌≡◌, ℕ, Bool, List, [], ◌∷◌, map, Some, Ok}
use Rattle.linemap_emit_units.specs.View.{bytes_left}
use Rattle.linemap_emit_units.specs.DwarfFileType.TheVariants.{Main}
use Rattle.linemap_emit_units.specs.Encoding.{Encoding}
use Rattle.linemap_emit_units.specs.LineHeaders.{LineHeader}
use Rattle.linemap_emit_units.specs.HeaderParsing.{header_at}
use Rattle.linemap_emit_units.specs.Attributes.{Bases, ranges_of_list}
use Rattle.linemap_emit_units.specs.DwarfFiles.{DwarfFile}
use Rattle.linemap_emit_units.specs.UnitFacts.{UnitFacts, in_file}
use Rattle.linemap_emit_units.specs.Lines.{ProgramRow, sequences_of_rows}
use Rattle.linemap_emit_units.specs.UnitLines.{lines_of_program}
use Rattle.linemap_emit_units.specs.TableParts.{UnitPart}
use Rattle.linemap_emit_units.specs.Entry.{Entry}
use Rattle.linemap_emit_units.specs.Entry.TheVariants.{CompileUnit}
use Rattle.linemap_emit_units.specs.EmittedEntries.{AllFit, attributes_of, spelled_declarations}
use Rattle.linemap_emit_units.specs.EmittedUnits.{IsWritten, AllSmall, spelled_units}
use Rattle.linemap_emit_units.specs.LookupAgreement.{lookup_range, RowsAgree, AreNumbered}
use Rattle.linemap_emit_units.specs.BytesAt.{bytes_at}
use Rattle.linemap_emit_calls_laws.specs.RecordedFunctions.{HasTextAt, RecordsFunctions}

-- The entries of a unit, and what its root refers to, say what a table's unit says: its name and
-- directory, its ranges, a line number program that shows its rows and names its files, and its
-- functions.
pub record RecordsUnit (e : Encoding) (s : DwarfFile) (u : UnitPart)
    (entries : List Entry) : Type 0 where
  pub name : ℕ
  pub directory : ℕ
  pub line_program : ℕ
  pub range_list : ℕ
  pub others : List Entry
  pub entries_are : entries ≡ (CompileUnit name directory line_program range_list ∷ others)
  pub fit : AllFit s.offset_limit e
      (attributes_of (CompileUnit name directory line_program range_list))
  pub is_name : HasTextAt s name u.name
  pub is_directory : HasTextAt s directory u.directory
  pub ranges_are : (b : Bases) → b.encoding ≡ e → b.low_pc ≡ 0
      → ranges_of_list s b range_list ≡ Ok (map (λ r. Ok (lookup_range r)) u.ranges)
  pub header : LineHeader
  pub header_is : header_at s.offset_limit line_program
      (record {
        address_bytes = e.address_size;
        directory = Some is_directory.found;
        name = Some is_name.found;
      }) s.sections.debug_line ≡ Ok header
  pub number : ℕ → ℕ
  pub rows : List ProgramRow
  pub files : List (List ℕ)
  pub lines_are : (facts : UnitFacts) → facts.comp_dir ≡ Some is_directory.found
      → lines_of_program (in_file s facts) header
      ≡ Ok (record { sequences = sequences_of_rows rows; files = files })
  pub rows_agree : RowsAgree number u.sequences rows
  pub files_numbered : AreNumbered number u files
  pub functions_are : RecordsFunctions e s number u.functions
      (CompileUnit name directory line_program range_list) others

-- units one by one
abbrev pub RecordsUnits : Encoding → DwarfFile → List UnitPart → List (List Entry) → Type 0
RecordsUnits e s [] [] = Unit {0}
RecordsUnits e s [] (x ∷ xs) = ⊥
RecordsUnits e s (u ∷ us) [] = ⊥
RecordsUnits e s (u ∷ us) (x ∷ xs) = RecordsUnit e s u x × RecordsUnits e s us xs

-- The sections of a main file without supplement that say what a table says: declarations, units
-- one after the other, no address ranges.
pub record RecordsTable (e : Encoding) (is_big : Bool) (s : DwarfFile)
    (us : List UnitPart) (entries : List (List Entry)) : Type 0 where
  pub encoding_is_written : IsWritten e
  pub units_are_small : AllSmall s.offset_limit e is_big entries
  pub abbrev_first : ℕ
  pub declarations_are : s.sections.debug_abbrev
      ≡ bytes_at is_big abbrev_first (spelled_declarations e)
  pub info_first : ℕ
  pub units_are : s.sections.debug_info
      ≡ bytes_at is_big info_first (spelled_units e is_big entries)
  pub no_aranges : bytes_left s.sections.debug_aranges ≡ 0
  pub is_main : s.sections.file_type ≡ Main
  pub is_alone : s.supplements ≡ []
  pub units_are_recorded : RecordsUnits e s us entries
