-- What is emitted of a table with one unit, byte by byte (DWARF 4, 7.5, 7.24 and 6.2), and range lists of version 5
-- (DWARF 5, 7.25 and 7.28).
use Rattle.std.proofs.Common.{◌≡◌, ℕ, true, false, [], ◌∷◌, refl}
use Rattle.gimli_lines_write_tables.specs.Encoding.{Encoding}
use Rattle.gimli_lines_write_tables.specs.Format.TheVariants.{Dwarf32, Dwarf64}
use Rattle.gimli_lines_write_tables.specs.StringSections.{section_of}
use Rattle.linemap_emit_programs.specs.TableParts.{RangePart, RowPart, no_calls, more_calls, UnitPart}
use Rattle.linemap_emit_programs.specs.Entry.TheVariants.{CompileUnit, AbstractFunction, Function, Call, EndOfChildren}
use Rattle.linemap_emit_programs.specs.EmittedRanges.{lists_start, spelled_lists, spelled_ranges}
use Rattle.linemap_emit_programs.specs.EmittedUnits.{spelled_units}
use Rattle.linemap_emit_units.specs.TableEmission.{EmittedTable, emitted_table, with_emitted_units}
use Rattle.gimli_lines_write_tables.specs.Spelling as spelling
use Rattle.gimli_lines_write_tables.specs.RowPieces as pieces
use Rattle.linemap_emit_units.specs.InlinedNames as names
use Rattle.linemap_emit_units.specs.UnitEmission as entries
use Rattle.linemap_emit_programs.specs.EmittedFiles as files
use Rattle.linemap_emit_programs.specs.HeaderBytes as header

abbrev target : Encoding
target = record { address_size = 8; format = Dwarf32; version = 4 }

abbrev range : ℕ → ℕ → RangePart
range begin end = record { begin = begin; end = end }

abbrev row : ℕ → ℕ → ℕ → RowPart
row address line column =
    record { address = address; file = 0; line = line; column = column; statement = true; discriminator = 0 }

-- "/w", "a.c", in it "src" and "a.c", and the function "main"
abbrev a_unit : UnitPart
a_unit = record {
  directory = 47 ∷ 119 ∷ [];
  name = 97 ∷ 46 ∷ 99 ∷ [];
  ranges = range 4096 4160 ∷ [];
  files = record { directory = 115 ∷ 114 ∷ 99 ∷ []; name = 97 ∷ 46 ∷ 99 ∷ [] } ∷ [];
  functions = record { name = 109 ∷ 97 ∷ 105 ∷ 110 ∷ []; ranges = range 4096 4144 ∷ []; calls = no_calls } ∷ [];
  sequences = record { rows = row 4096 5 1 ∷ row 4112 20 2 ∷ row 4128 7 1 ∷ []; end = 4144 } ∷ [];
}

abbrev table_of_a_unit : EmittedTable
table_of_a_unit = emitted_table target false (a_unit ∷ [])

-- each text once, by first use
texts_of_the_unit : section_of table_of_a_unit.texts ≡
    97 ∷ 46 ∷ 99 ∷ 0 ∷ 47 ∷ 119 ∷ 0 ∷ 109 ∷ 97 ∷ 105 ∷ 110 ∷ 0 ∷ []
unfolding section_of with_emitted_units entries.with_calls names.call_names
texts_of_the_unit = refl

-- each row by a special opcode, after what changes
lines_of_the_unit : table_of_a_unit.lines ≡
    66 ∷ 0 ∷ 0 ∷ 0 ∷ 4 ∷ 0 ∷ 31 ∷ 0 ∷ 0 ∷ 0 ∷ 1 ∷ 1 ∷ 1 ∷ 251 ∷ 14 ∷ 13 ∷ 0 ∷ 1 ∷ 1 ∷ 1 ∷ 1 ∷ 0 ∷ 0 ∷ 0 ∷ 1 ∷ 0 ∷
    0 ∷ 1 ∷ 115 ∷ 114 ∷ 99 ∷ 0 ∷ 0 ∷ 97 ∷ 46 ∷ 99 ∷ 0 ∷ 1 ∷ 0 ∷ 0 ∷ 0 ∷ 0 ∷ 9 ∷ 2 ∷ 0 ∷ 16 ∷ 0 ∷ 0 ∷ 0 ∷ 0 ∷ 0 ∷
    0 ∷ 5 ∷ 1 ∷ 22 ∷ 5 ∷ 2 ∷ 3 ∷ 15 ∷ 242 ∷ 5 ∷ 1 ∷ 3 ∷ 115 ∷ 242 ∷ 2 ∷ 16 ∷ 0 ∷ 1 ∷ 1 ∷ []
unfolding with_emitted_units files.with_table_files files.table_file_ids header.header_bytes
    spelling.unsigned_within spelling.signed_within pieces.row_piece pieces.flags pieces.changes pieces.moves
    pieces.end_piece
lines_of_the_unit = refl

-- a list for the unit, and one for its function
ranges_of_the_unit : table_of_a_unit.ranges ≡
    0 ∷ 16 ∷ 0 ∷ 0 ∷ 0 ∷ 0 ∷ 0 ∷ 0 ∷ 64 ∷ 16 ∷ 0 ∷ 0 ∷ 0 ∷ 0 ∷ 0 ∷ 0 ∷ 0 ∷ 0 ∷ 0 ∷ 0 ∷ 0 ∷ 0 ∷ 0 ∷ 0 ∷ 0 ∷ 0 ∷
    0 ∷ 0 ∷ 0 ∷ 0 ∷ 0 ∷ 0 ∷ 0 ∷ 16 ∷ 0 ∷ 0 ∷ 0 ∷ 0 ∷ 0 ∷ 0 ∷ 48 ∷ 16 ∷ 0 ∷ 0 ∷ 0 ∷ 0 ∷ 0 ∷ 0 ∷ 0 ∷ 0 ∷ 0 ∷ 0 ∷
    0 ∷ 0 ∷ 0 ∷ 0 ∷ 0 ∷ 0 ∷ 0 ∷ 0 ∷ 0 ∷ 0 ∷ 0 ∷ 0 ∷ []
unfolding with_emitted_units entries.with_calls names.call_names
ranges_of_the_unit = refl

entries_of_the_unit : spelled_units target false table_of_a_unit.units ≡
    42 ∷ 0 ∷ 0 ∷ 0 ∷ 4 ∷ 0 ∷ 0 ∷ 0 ∷ 0 ∷ 0 ∷ 8 ∷ 1 ∷ 0 ∷ 0 ∷ 0 ∷ 0 ∷ 4 ∷ 0 ∷ 0 ∷ 0 ∷ 0 ∷ 0 ∷ 0 ∷ 0 ∷ 0 ∷ 0 ∷ 0 ∷
    0 ∷ 0 ∷ 0 ∷ 0 ∷ 0 ∷ 0 ∷ 0 ∷ 0 ∷ 0 ∷ 3 ∷ 7 ∷ 0 ∷ 0 ∷ 0 ∷ 32 ∷ 0 ∷ 0 ∷ 0 ∷ 0 ∷ []
unfolding with_emitted_units entries.with_calls names.call_names spelling.unsigned_within
entries_of_the_unit = refl

-- the same unit, where "main" calls "f" twice
abbrev c_unit : UnitPart
c_unit = record a_unit {
  functions = record {
    name = 109 ∷ 97 ∷ 105 ∷ 110 ∷ [];
    ranges = range 4096 4144 ∷ [];
    calls =
        more_calls (record { name = 102 ∷ []; ranges = range 4112 4128 ∷ []; file = 0; line = 6; column = 3 }) no_calls
        (more_calls (record { name = 102 ∷ []; ranges = range 4128 4136 ∷ []; file = 0; line = 8; column = 3 }) no_calls
        no_calls);
  } ∷ [];
}

-- one abstract function, to which both calls refer
entries_of_calls : (emitted_table target false (c_unit ∷ [])).units ≡
    (CompileUnit 0 4 0 0 ∷ AbstractFunction 7 ∷ Function true 9 32 ∷ Call false 36 64 1 6 3 ∷ Call false 36 96 1 8 3
    ∷ EndOfChildren ∷ EndOfChildren ∷ []) ∷ []
unfolding with_emitted_units files.with_table_files files.table_file_ids entries.with_calls names.call_names
    spelling.unsigned_within spelling.signed_within pieces.row_piece
    pieces.flags pieces.changes pieces.moves pieces.end_piece
entries_of_calls = refl

bytes_of_calls : spelled_units target false (emitted_table target false (c_unit ∷ [])).units ≡
    72 ∷ 0 ∷ 0 ∷ 0 ∷ 4 ∷ 0 ∷ 0 ∷ 0 ∷ 0 ∷ 0 ∷ 8 ∷ 1 ∷ 0 ∷ 0 ∷ 0 ∷ 0 ∷ 4 ∷ 0 ∷ 0 ∷ 0 ∷ 0 ∷ 0 ∷ 0 ∷ 0 ∷ 0 ∷ 0 ∷ 0 ∷ 0 ∷ 0 ∷
    0 ∷ 0 ∷ 0 ∷ 0 ∷ 0 ∷ 0 ∷ 0 ∷ 6 ∷ 7 ∷ 0 ∷ 0 ∷ 0 ∷ 2 ∷ 9 ∷ 0 ∷ 0 ∷ 0 ∷ 32 ∷ 0 ∷ 0 ∷ 0 ∷ 5 ∷ 36 ∷ 0 ∷ 0 ∷ 0 ∷ 64 ∷ 0
    ∷ 0 ∷
    0 ∷ 1 ∷ 6 ∷ 3 ∷ 5 ∷ 36 ∷ 0 ∷ 0 ∷ 0 ∷ 96 ∷ 0 ∷ 0 ∷ 0 ∷ 1 ∷ 8 ∷ 3 ∷ 0 ∷ 0 ∷ []
unfolding with_emitted_units files.with_table_files files.table_file_ids entries.with_calls names.call_names
    spelling.unsigned_within
bytes_of_calls = refl

-- "b.c" in the same directory
abbrev b_unit : UnitPart
b_unit =
    record {
      directory = 47 ∷ 119 ∷ [];
      name = 98 ∷ 46 ∷ 99 ∷ [];
      ranges = range 8192 8200 ∷ [];
      files = [];
      functions = [];
      sequences = [];
    }

-- a second unit refers to its own name, program and list after those of the first, and to the same directory
second_unit_after_the_first : (emitted_table target false (a_unit ∷ b_unit ∷ [])).units ≡
    (CompileUnit 0 4 0 0 ∷ Function false 7 32 ∷ EndOfChildren ∷ []) ∷ (CompileUnit 12 4 70 64 ∷ EndOfChildren ∷ [])
    ∷ []
unfolding with_emitted_units files.with_table_files files.table_file_ids entries.with_calls names.call_names
    header.header_bytes spelling.unsigned_within spelling.signed_within pieces.row_piece
    pieces.flags pieces.changes pieces.moves pieces.end_piece
second_unit_after_the_first = refl

-- a list of version 5 in its section, after the header, in 32-bit DWARF and in 64-bit DWARF with addresses of
-- four bytes
abbrev later : Encoding
later = record { address_size = 8; format = Dwarf32; version = 5 }

abbrev wide : Encoding
wide = record { address_size = 4; format = Dwarf64; version = 5 }

lists_of_version_5 : spelled_lists later false (spelled_ranges later false (record { begin = 4096; end = 4160 } ∷ [])) ≡
    26 ∷ 0 ∷ 0 ∷ 0 ∷ 5 ∷ 0 ∷ 8 ∷ 0 ∷ 0 ∷ 0 ∷ 0 ∷ 0 ∷ 6 ∷ 0 ∷ 16 ∷ 0 ∷ 0 ∷ 0 ∷ 0 ∷ 0 ∷ 0 ∷ 64 ∷ 16 ∷ 0 ∷ 0 ∷ 0 ∷ 0 ∷ 0 ∷
    0 ∷ 0 ∷ []
lists_of_version_5 = refl

lists_of_64_bit_dwarf : spelled_lists wide true (spelled_ranges wide true (record { begin = 4096; end = 4160 } ∷ [])) ≡
    255 ∷ 255 ∷ 255 ∷ 255 ∷ 0 ∷ 0 ∷ 0 ∷ 0 ∷ 0 ∷ 0 ∷ 0 ∷ 18 ∷ 0 ∷ 5 ∷ 4 ∷ 0 ∷ 0 ∷ 0 ∷ 0 ∷ 0 ∷ 6 ∷ 0 ∷ 0 ∷ 16 ∷ 0 ∷ 0 ∷
    0 ∷
    16 ∷ 64 ∷ 0 ∷ []
lists_of_64_bit_dwarf = refl

lists_begin_after_the_header : lists_start wide ≡ 20
lists_begin_after_the_header = refl
