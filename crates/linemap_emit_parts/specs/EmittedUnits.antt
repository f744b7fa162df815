-- Units as they are written: headers with their entries, end to end (DWARF 5, 7.5.1; versions 2 to
-- 4: DWARF 4, 7.5.1.1).
use Rattle.std.specs.Prelude.{◌≡◌, ℕ, ◌+◌, ◌*◌, ◌<◌, ◌≤◌, nat_le, Bool, true, List, [], ◌∷◌, ◌++◌, flat_map, length, if◌then◌else◌}
use Rattle.gimli_lines_write_bytes.specs.TheConstants.{DW_UT_compile}
use Rattle.gimli_lines_write_bytes.specs.Encoding.{Encoding}
use Rattle.gimli_lines_write_bytes.specs.FormatSizes.{initial_length_size, word_size}
use Rattle.gimli_lines_write_bytes.specs.Fixed.{number_bytes}
use Rattle.gimli_lines_write_bytes.specs.NumberBytes.{length_limit, spelled_length}
use Rattle.gimli_lines_write_bytes.specs.NumberParsers.{is_address_size}
use Rattle.gimli_lines_header.specs.UnitHeaders.{DebugUnit, compilation}
use Rattle.linemap_emit_parts.specs.declared.entries.Entry.{Entry}
use Rattle.linemap_emit_parts.specs.EmittedEntryRows.{spelled_entries}

-- an encoding that can be written
pub record IsWritten (e : Encoding) : Type 0 where
  pub not_before_2 : 2 ≤ e.version
  pub not_after_5 : e.version ≤ 5
  pub has_address_size : is_address_size e.address_size ≡ true

-- The fields after the length. All units share the declarations at the start of their section.
abbrev pub spelled_fields : Encoding → Bool → List ℕ
spelled_fields e is_big =
    if nat_le e.version 4
    then number_bytes is_big 2 e.version
    ++ (number_bytes is_big (word_size e.format) 0 ++ e.address_size ∷ [])
    else number_bytes is_big 2 e.version
    ++ (DW_UT_compile.0 ∷ e.address_size ∷ number_bytes is_big (word_size e.format) 0)

-- the bytes of a unit after its length
abbrev pub spelled_unit_body : Encoding → Bool → List Entry → List ℕ
spelled_unit_body e is_big xs = spelled_fields e is_big ++ spelled_entries e is_big xs

-- a unit
abbrev pub spelled_unit : Encoding → Bool → List Entry → List ℕ
spelled_unit e is_big xs =
    spelled_length e.format is_big (length (spelled_unit_body e is_big xs))
    ++ spelled_unit_body e is_big xs

abbrev pub spelled_units : Encoding → Bool → List (List Entry) → List ℕ
spelled_units e is_big us = flat_map (spelled_unit e is_big) us

-- ---- where the abstract functions of a unit are

-- the bytes of a unit before its entries
abbrev pub entries_start : Encoding → ℕ
entries_start e =
    if nat_le e.version 4 then initial_length_size e.format + 3 + word_size e.format
    else initial_length_size e.format + 4 + word_size e.format

-- the bytes of its root: the code, four offsets and an address
abbrev pub root_size : Encoding → ℕ
root_size e = 1 + 4 * word_size e.format + e.address_size

-- those of an abstract function: the code, and the offset of its name
abbrev pub abstract_size : Encoding → ℕ
abstract_size e = 1 + word_size e.format

-- the offset from the unit's start of the abstract function of a number; they come directly after
-- the root
abbrev pub abstract_offset : Encoding → ℕ → ℕ
abstract_offset e number = entries_start e + root_size e + number * abstract_size e

-- ---- units as they are read

-- what is read of a unit at an offset, whose first byte has an identifier
abbrev pub unit_for : Encoding → Bool → ℕ → ℕ → List Entry → DebugUnit
unit_for e is_big offset first xs = record {
  offset = offset;
  unit_length = length (spelled_unit_body e is_big xs);
  encoding = e;
  kind = compilation;
  abbrev_offset = 0;
  entries = record {
    bytes = spelled_entries e is_big xs;
    is_big = is_big;
    first = first + length (spelled_length e.format is_big (length (spelled_unit_body e is_big xs)))
        + length (spelled_fields e is_big);
  };
}

-- units from an offset on
abbrev pub units_for : Encoding → Bool → ℕ → ℕ → List (List Entry) → List DebugUnit
units_for e is_big offset first [] = []
units_for e is_big offset first (u ∷ us) =
    unit_for e is_big offset first u ∷ units_for e is_big
    (offset + length (spelled_unit e is_big u)) (first + length (spelled_unit e is_big u)) us

-- the unit's length can be written, and is an offset
abbrev pub IsSmall : ℕ → Encoding → Bool → List Entry → Type 0
IsSmall limit e is_big xs =
    (length (spelled_unit_body e is_big xs) < length_limit e.format)
    × (length (spelled_unit_body e is_big xs) < limit)

abbrev pub AllSmall : ℕ → Encoding → Bool → List (List Entry) → Type 0
AllSmall limit e is_big [] = Unit {0}
AllSmall limit e is_big (u ∷ us) = IsSmall limit e is_big u × AllSmall limit e is_big us
