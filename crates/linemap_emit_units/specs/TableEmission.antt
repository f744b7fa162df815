-- What is emitted of a table's units, one after the other: line number programs, entries, texts and
-- range lists.
use Rattle.std.specs.Prelude.{ℕ, Bool, List, [], ◌∷◌, ◌++◌, length}
use Rattle.gimli_lines_write_tables.specs.Encoding.{Encoding}
use Rattle.linemap_emit_programs.specs.TableParts.{UnitPart}
use Rattle.linemap_emit_programs.specs.Entry.{Entry}
use Rattle.linemap_emit_programs.specs.EmittedFiles.{unit_files, unit_file_ids, file_number}
use Rattle.linemap_emit_programs.specs.EmittedPrograms.{line_program_bytes, bytes_if_any}
use Rattle.linemap_emit_units.specs.UnitEmission.{EmittedUnit, with_unit}

-- The bytes of the line number programs and the texts of `.debug_line_str`, the entries of each
-- unit, the texts of `.debug_str`, and the range lists.
pub record EmittedTable : Type 0 where
  pub lines : List ℕ
  pub line_texts : List (List ℕ)
  pub units : List (List Entry)
  pub texts : List (List ℕ)
  pub ranges : List ℕ

-- no units yet
abbrev pub no_units : EmittedTable
no_units = record { lines = []; line_texts = []; units = []; texts = []; ranges = [] }

-- ---- one unit

-- what is emitted before the entries of a unit
abbrev pub before_entries : Encoding → Bool → EmittedTable → EmittedUnit
before_entries e is_big st =
    record {
      encoding = e;
      texts = st.texts;
      ranges = record { bytes = st.ranges; is_big = is_big };
      entries = [];
    }

-- the numbers of a unit's files in its line number program
abbrev pub number_of : Encoding → UnitPart → EmittedTable → ℕ → ℕ
number_of e u st = file_number e.version (unit_file_ids e u st.line_texts)

-- and after them; the unit's line number program comes after the others
abbrev pub after_entries : Encoding → Bool → UnitPart → EmittedTable → EmittedUnit
after_entries e is_big u st =
    with_unit (number_of e u st) (length st.lines) u (before_entries e is_big st)

-- and with the whole unit
abbrev pub with_emitted_unit : Encoding → Bool → UnitPart → EmittedTable → EmittedTable
with_emitted_unit e is_big u st =
    let after = after_entries e is_big u st in
    record {
      lines = st.lines ++ bytes_if_any (line_program_bytes e is_big u st.line_texts);
      line_texts = (unit_files e u st.line_texts).line_texts;
      units = st.units ++ after.entries ∷ [];
      texts = after.texts;
      ranges = after.ranges.bytes;
    }

-- ---- all units

unfoldable pub with_emitted_units : Encoding → Bool → List UnitPart → EmittedTable
    → EmittedTable
with_emitted_units e is_big [] st = st
with_emitted_units e is_big (u ∷ us) st =
    with_emitted_units e is_big us (with_emitted_unit e is_big u st)

-- what is emitted of a table
abbrev pub emitted_table : Encoding → Bool → List UnitPart → EmittedTable
emitted_table e is_big us = with_emitted_units e is_big us no_units
