-- The sections that are emitted of a table, and files that have them.
use Rattle.std.specs.Prelude.{◌≡◌, ℕ, nat_le, Bool, List, [], if◌then◌else◌}
use Rattle.gimli_lines_write_tables.specs.View.{bytes_left}
use Rattle.gimli_lines_write_tables.specs.DwarfFileType.TheVariants.{Main}
use Rattle.gimli_lines_write_tables.specs.Encoding.{Encoding}
use Rattle.gimli_lines_write_tables.specs.StringSections.{section_of}
use Rattle.linemap_emit_programs.specs.DwarfFiles.{DwarfFile}
use Rattle.linemap_emit_programs.specs.TableParts.{UnitPart}
use Rattle.linemap_emit_programs.specs.EmittedEntries.{spelled_declarations}
use Rattle.linemap_emit_programs.specs.EmittedRanges.{spelled_lists}
use Rattle.linemap_emit_programs.specs.EmittedUnits.{spelled_units}
use Rattle.linemap_emit_units.specs.TableEmission.{EmittedTable, emitted_table}
use Rattle.gimli_lines_write_tables.specs.BytesAt.{bytes_at}

-- the bytes of each section that is emitted
pub record SectionBytes : Type 0 where
  pub debug_abbrev : List ℕ
  pub debug_info : List ℕ
  pub debug_line : List ℕ
  pub debug_line_str : List ℕ
  pub debug_ranges : List ℕ
  pub debug_rnglists : List ℕ
  pub debug_str : List ℕ

-- what is emitted, as sections; range lists have another section from version 5 on
abbrev pub sections_of : Encoding → Bool → EmittedTable → SectionBytes
sections_of e is_big st = record {
  debug_abbrev = spelled_declarations e;
  debug_info = spelled_units e is_big st.units;
  debug_line = st.lines;
  debug_line_str = section_of st.line_texts;
  debug_ranges = if nat_le e.version 4 then st.ranges else [];
  debug_rnglists = if nat_le e.version 4 then [] else spelled_lists e is_big st.ranges;
  debug_str = section_of st.texts;
}

-- the sections of a table's units
abbrev pub emitted_sections : Encoding → Bool → List UnitPart → SectionBytes
emitted_sections e is_big us = sections_of e is_big (emitted_table e is_big us)

-- The sections of a main file without supplement have these bytes, each from some identifier on,
-- and no address ranges.
pub record HoldBytes (is_big : Bool) (bytes : SectionBytes) (s : DwarfFile) : Type 0 where
  pub abbrev_first : ℕ
  pub info_first : ℕ
  pub line_first : ℕ
  pub line_str_first : ℕ
  pub ranges_first : ℕ
  pub rnglists_first : ℕ
  pub str_first : ℕ
  pub abbrev_is : s.sections.debug_abbrev ≡ bytes_at is_big abbrev_first bytes.debug_abbrev
  pub info_is : s.sections.debug_info ≡ bytes_at is_big info_first bytes.debug_info
  pub line_is : s.sections.debug_line ≡ bytes_at is_big line_first bytes.debug_line
  pub line_str_is : s.sections.debug_line_str
      ≡ bytes_at is_big line_str_first bytes.debug_line_str
  pub ranges_is : s.sections.ranges.debug_ranges ≡ bytes_at is_big ranges_first bytes.debug_ranges
  pub rnglists_is : s.sections.ranges.debug_rnglists
      ≡ bytes_at is_big rnglists_first bytes.debug_rnglists
  pub str_is : s.sections.debug_str ≡ bytes_at is_big str_first bytes.debug_str
  pub no_aranges : bytes_left s.sections.debug_aranges ≡ 0
  pub is_main : s.sections.file_type ≡ Main
  pub is_alone : s.supplements ≡ []

-- They have the bytes of what is emitted.
abbrev pub HoldTable : Encoding → Bool → EmittedTable → DwarfFile → Type 0
HoldTable e is_big st s = HoldBytes is_big (sections_of e is_big st) s
