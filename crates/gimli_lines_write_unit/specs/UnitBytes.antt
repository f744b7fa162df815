-- A unit of `.debug_line` in versions 2 to 5: two lengths, a header and a program (DWARF 5, 6.2.4).
use Rattle.std.specs.Prelude.{◌≡◌, ◌≢◌, ℕ, Bool, List, length, nat_lt, ◌&&◌, ◌||◌, Result, Ok, Err, if◌then◌else◌}
use Rattle.gimli_lines_write_tables.specs.Format.{Format}
use Rattle.gimli_lines_write_tables.specs.FormatSizes.{word_size}
use Rattle.gimli_lines_write_tables.specs.WriteError.{Error}
use Rattle.gimli_lines_write_tables.specs.WriteError.TheVariants.{Memory, UnsupportedVersion, NeedVersion}
use Rattle.gimli_lines_write_tables.specs.Address.{Address}
use Rattle.gimli_lines_write_tables.specs.NumberBytes.{bytes_in_width, escape, length_bytes}
use Rattle.gimli_lines_write_tables.specs.LineRules.{LineRules}
use Rattle.gimli_lines_write_tables.specs.LineEntry.{LineEntry}
use Rattle.gimli_lines_write_tables.specs.BuiltRows.{first_row}
use Rattle.gimli_lines_write_tables.specs.EntryBytes.{join_bytes, entries_bytes}
use Rattle.gimli_lines_write_spec.specs.HeaderSpelling.{Tables, spelled_sizes}
use Rattle.gimli_lines_write_unit.specs.HeaderBytes.{header_bytes}

-- what follows the first length: the sizes, the second length and what it counts, and the program
abbrev pub body_with_header : (Address → Result ℕ Error) → Bool → LineRules → List ℕ
    → List LineEntry → Result (List ℕ) Error
body_with_header address_of is_big rules header entries =
    join_bytes (Ok (spelled_sizes rules.encoding is_big))
    (join_bytes (bytes_in_width is_big (word_size rules.encoding.format) (length header))
    (join_bytes (Ok header) (entries_bytes address_of is_big rules (first_row rules) entries)))

-- the same, where the header can be written
abbrev pub body_bytes : (Address → Result ℕ Error) → Bool → LineRules → Result (List ℕ) Error
    → List LineEntry → Result (List ℕ) Error
body_bytes address_of is_big rules (Ok header) entries =
    body_with_header address_of is_big rules header entries
body_bytes address_of is_big rules (Err e) entries = Err e

-- bytes after their length
abbrev pub with_length : Bool → Format → Result (List ℕ) Error → Result (List ℕ) Error
with_length is_big format (Ok bytes) =
    join_bytes (Ok (escape format))
    (join_bytes (length_bytes is_big format (length bytes)) (Ok bytes))
with_length is_big format (Err e) = Err e

-- a header with these tables, and the program of entries
abbrev pub unit_with_length : (Address → Result ℕ Error) → Bool → LineRules → Tables
    → List LineEntry → Result (List ℕ) Error
unit_with_length address_of is_big rules t entries =
    with_length is_big rules.encoding.format
    (body_bytes address_of is_big rules (header_bytes is_big rules t) entries)

-- Bytes of a unit with these rules: there are none in versions other than 2 to 5, nor below version
-- 4 with more than one operation an instruction.
abbrev pub where_supported : LineRules → Result (List ℕ) Error → Result (List ℕ) Error
where_supported rules bytes =
    if nat_lt rules.encoding.version 2 || nat_lt 5 rules.encoding.version
    then Err UnsupportedVersion
    else (if nat_lt rules.encoding.version 4
    && nat_lt 1 rules.line_encoding.maximum_operations_per_instruction then Err NeedVersion
    else bytes)

-- rules that a unit can be written with
abbrev pub IsSupported : LineRules → Type 0
IsSupported rules = (bytes : Result (List ℕ) Error) → where_supported rules bytes ≡ bytes

-- rules that no unit can be written with, and why
abbrev pub IsRefused : LineRules → Error → Type 0
IsRefused rules e = (bytes : Result (List ℕ) Error) → where_supported rules bytes ≡ Err e

-- the same where the version has such a header
abbrev pub unit_bytes : (Address → Result ℕ Error) → Bool → LineRules → Tables → List LineEntry
    → Result (List ℕ) Error
unit_bytes address_of is_big rules t entries =
    where_supported rules (unit_with_length address_of is_big rules t entries)

-- A result that has this meaning, or is out of memory.
abbrev pub Makes : {A B : Type 0} → (A → B) → Result A Error → Result B Error → Type 0
Makes see (Ok x) meaning = meaning ≡ Ok (see x)
Makes see (Err e) meaning = e ≢ Memory → meaning ≡ Err e
