-- The line number program of a table's unit, and the lines that are read of it.
use Rattle.std.specs.Prelude.{ℕ, Bool, false, List, [], ◌∷◌, Result, Ok, Err}
use Rattle.std.specs.Str.{IsUtf8}
use Rattle.linemap_emit_rows.specs.Encoding.{Encoding}
use Rattle.linemap_emit_rows.specs.WriteError.{Error}
use Rattle.linemap_emit_rows.specs.NumberBytes.{constant_of}
use Rattle.linemap_emit_rows.specs.SequenceBuilding.{with_entries}
use Rattle.gimli_lines_write_program.specs.BuiltPrograms.{Program, no_details, no_rows, program_bytes}
use Rattle.linemap_emit_rows.specs.TableParts.{FilePart, UnitPart}
use Rattle.linemap_emit_rows.specs.EmittedRows.{emitted_rules, emitted_sequences}
use Rattle.linemap_emit_programs.specs.EmittedFiles.{first_unit_files, unit_files, unit_file_ids, place_in}

-- ---- the program

-- a unit's program, before its files and rows are added
abbrev pub first_program : Encoding → UnitPart → List (List ℕ) → Program
first_program e u line_texts = record {
  is_none = false;
  tables = (first_unit_files e u line_texts).tables;
  details = no_details;
  rows = no_rows (emitted_rules e);
}

-- a unit's program, after the texts of others in `.debug_line_str`
abbrev pub line_program : Encoding → UnitPart → List (List ℕ) → Program
line_program e u line_texts = record {
  is_none = false;
  tables = (unit_files e u line_texts).tables;
  details = no_details;
  rows = with_entries (emitted_sequences (place_in (unit_file_ids e u line_texts)) u.sequences)
      (no_rows (emitted_rules e));
}

-- its bytes, or the first refusal
abbrev pub line_program_bytes : Encoding → Bool → UnitPart → List (List ℕ)
    → Result (List ℕ) Error
line_program_bytes e is_big u line_texts =
    program_bytes constant_of is_big [] (unit_files e u line_texts).line_texts
    (line_program e u line_texts)

abbrev pub bytes_if_any : Result (List ℕ) Error → List ℕ
bytes_if_any (Ok bytes) = bytes
bytes_if_any (Err e) = []

-- ---- the lines

-- the texts of a unit are UTF-8
abbrev pub FilesAreUtf8 : List FilePart → Type 0
FilesAreUtf8 [] = Unit {0}
FilesAreUtf8 (f ∷ fs) = (IsUtf8 f.directory × IsUtf8 f.name) × FilesAreUtf8 fs
