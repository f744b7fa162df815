-- The state of the emitter of a table's units, and what a unit adds to it.
use Rattle.std.specs.Prelude.{◌≡◌, ℕ, nat_le, Bool, List, [], length, if◌then◌else◌}
use Rattle.linemap_emit_fits.specs.Encoding.{Encoding}
use Rattle.linemap_emit_fits.specs.OutputBytes.{WriterContents, append}
use Rattle.linemap_table.specs.TableParts.{UnitPart}
use Rattle.linemap_emit_fits.specs.EmittedUnits.{IsWritten, spelled_unit, spelled_units}
use Rattle.linemap_emit_fits.specs.UnitEmission.{EmittedUnit, with_unit, without_entries}
use Rattle.linemap_emit_fits.specs.EmittedFiles.{unit_files, unit_file_ids, file_number}
use Rattle.linemap_emit_fits.specs.EmittedPrograms.{line_program_bytes, bytes_if_any}
use Rattle.linemap_emit_fits.specs.TableEmission.{EmittedTable, before_entries}
use Rattle.linemap_emit_fits.specs.EmittedRanges.{spelled_lists}
use Rattle.linemap_emit_fits.specs.EmittedSections.{SectionBytes}
use Rattle.linemap_emit_fits.specs.FittingUnits.{UnitFits}
use Rattle.linemap_emit.specs.declared.table_emitter.TableEmitter.{TableEmitter}

-- bytes in an order
abbrev pub bytes_in_order : Bool → List ℕ → WriterContents
bytes_in_order is_big bytes = record { bytes = bytes; is_big = is_big }

-- the emitter's unit with the entries of a table's unit, after those before it
abbrev pub unit_after_entries : UnitPart → TableEmitter → EmittedUnit
unit_after_entries u s =
    with_unit (file_number s.encoding.version (unit_file_ids s.encoding u s.line_strings))
    (length s.lines.bytes) u s.emitter

-- the emitter with one more unit: its line number program with its texts, its entries as a unit,
-- their texts and range lists
abbrev pub with_unit_added : UnitPart → TableEmitter → TableEmitter
with_unit_added u s = record {
  encoding = s.encoding;
  lines = append
      (bytes_if_any (line_program_bytes s.encoding s.lines.is_big u s.line_strings)) s.lines;
  line_strings = (unit_files s.encoding u s.line_strings).line_texts;
  info = append (spelled_unit s.encoding s.info.is_big (unit_after_entries u s).entries) s.info;
  emitter = without_entries (unit_after_entries u s);
}

-- the emitter holds what is emitted of some units
pub record HoldsTable (e : Encoding) (is_big : Bool) (st : EmittedTable) (s : TableEmitter) : Type 0
  where
    pub encoding_is : s.encoding ≡ e
    pub lines_are : s.lines ≡ bytes_in_order is_big st.lines
    pub line_texts_are : s.line_strings ≡ st.line_texts
    pub units_are : s.info ≡ bytes_in_order is_big (spelled_units e is_big st.units)
    pub emitter_is : s.emitter ≡ before_entries e is_big st

-- the emitter's sections, with those of declarations and of texts
abbrev pub sections_in : TableEmitter → List ℕ → List ℕ → List ℕ → SectionBytes
sections_in s declarations line_texts texts = record {
  debug_abbrev = declarations;
  debug_info = s.info.bytes;
  debug_line = s.lines.bytes;
  debug_line_str = line_texts;
  debug_ranges = if nat_le s.encoding.version 4 then s.emitter.ranges.bytes else [];
  debug_rnglists = if nat_le s.encoding.version 4 then []
      else spelled_lists s.encoding s.emitter.ranges.is_big s.emitter.ranges.bytes;
  debug_str = texts;
}

-- A unit can be added after others.
pub record CanAddUnit (u : UnitPart) (s : TableEmitter) : Type 0 where
  pub before : EmittedTable
  pub is_big : Bool
  pub is_written : IsWritten s.encoding
  pub holds_before : HoldsTable s.encoding is_big before s
  pub fits : UnitFits s.encoding is_big u before
