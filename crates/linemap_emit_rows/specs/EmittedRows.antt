-- The rows of a table's unit as a line number program is built of them.
use Rattle.std.specs.Prelude.{◌≡◌, ℕ, ◌+◌, ◌-◌, ◌<◌, ◌≤◌, ◌*◌, ◌^◌, true, false, List, [], ◌∷◌, ◌++◌, map, flat_map}
use Rattle.gimli_lines_write_rows.specs.Encoding.{Encoding}
use Rattle.gimli_lines_write_rows.specs.LineDefaults.{default_line_encoding}
use Rattle.gimli_lines_write_rows.specs.Addresses.{is_tombstone}
use Rattle.gimli_lines_write_rows.specs.declared.row.LineRow.{LineRow}
use Rattle.gimli_lines_write_rows.specs.declared.entry.LineEntry.{LineEntry}
use Rattle.gimli_lines_write_rows.specs.declared.entry.LineEntry.TheVariants.{SetAddress, Row, EndSequence}
use Rattle.gimli_lines_write_rows.specs.Address.TheVariants.{Constant}
use Rattle.gimli_lines_write_rows.specs.LineRules.{LineRules}
use Rattle.gimli_lines_write_rows.specs.BuiltRows.{raw_file, rows_of, first_row, row_at_address, follows, IsReadable}
use Rattle.linemap_places_laws.specs.LookupAgreement.{RowsAgree}
use Rattle.linemap_places_laws.specs.TableParts.{RowPart, SequencePart}
use Rattle.linemap_places_laws.specs.UnitLines.{program_row}

-- a row, whose offset is from the start of its sequence, and whose file has a place in the program
abbrev pub emitted_row : (ℕ → ℕ) → ℕ → RowPart → LineRow
emitted_row place begin r = record {
  address_offset = r.address - begin;
  op_index = 0;
  file = record { 0 = place r.file };
  line = r.line;
  column = r.column;
  discriminator = r.discriminator;
  is_statement = r.statement;
  basic_block = false;
  prologue_end = false;
  epilogue_begin = false;
  isa = 0;
}

-- a sequence: the address of its first row, the rows, and the end
abbrev pub emitted_rows : (ℕ → ℕ) → ℕ → List RowPart → List LineEntry
emitted_rows place begin rs = map (λ r. Row (emitted_row place begin r)) rs

abbrev pub emitted_from : (ℕ → ℕ) → ℕ → List RowPart → ℕ → List LineEntry
emitted_from place begin rs end =
    SetAddress (Constant begin) ∷ emitted_rows place begin rs ++ EndSequence (end - begin) 0 ∷ []

abbrev pub emitted_sequence : (ℕ → ℕ) → SequencePart → List LineEntry
emitted_sequence place s = from_first s.rows s.end
  where
    from_first : List RowPart → ℕ → List LineEntry
    from_first [] end = []
    from_first (r ∷ rs) end = emitted_from place r.address (r ∷ rs) end

abbrev pub emitted_sequences : (ℕ → ℕ) → List SequencePart → List LineEntry
emitted_sequences place ss = flat_map (emitted_sequence place) ss

-- ---- the rows that are shown

-- no row is below an address, and each has one of the files
unfoldable pub AllFrom : ℕ → ℕ → List RowPart → Type 0
AllFrom files low [] = Unit {0}
AllFrom files low (r ∷ rs) = (low ≤ r.address) × (r.file < files) × AllFrom files low rs

-- a sequence with rows, none of them below the first, and an end that isn't below it either
pub record CanShowAll (files : ℕ) (s : SequencePart) : Type 0 where
  pub first : RowPart
  pub others : List RowPart
  pub rows : s.rows ≡ first ∷ others
  pub all : AllFrom files first.address (first ∷ others)
  pub end : first.address ≤ s.end

unfoldable pub AllSequences : ℕ → List SequencePart → Type 0
AllSequences files [] = Unit {0}
AllSequences files (s ∷ ss) = CanShowAll files s × AllSequences files ss

-- A program that is built of a table's sequences shows their rows, each file by the number of its
-- place.
abbrev pub SequencesShown : Type 0
SequencesShown =
    (rules : LineRules) (place : ℕ → ℕ) (files : ℕ) (ss : List SequencePart)
    → AllSequences files ss
    → RowsAgree (λ i. raw_file rules.encoding.version (place i)) ss
    (map program_row (rows_of rules (emitted_sequences place ss)))

-- ---- what can be built

-- the parameters of programs that are written: instructions of one byte and one operation, special
-- opcodes from 13 on that move the line by -5 to 8
abbrev pub emitted_rules : Encoding → LineRules
emitted_rules e = record {
  encoding = e;
  line_encoding = default_line_encoding;
  opcode_base = 13;
}

-- rows that don't go back from an address, each at an address of the size, with a line of 63 bits
-- and a column and a discriminator of 64
unfoldable pub CanBuild : ℕ → ℕ → List RowPart → Type 0
CanBuild size low [] = Unit {0}
CanBuild size low (r ∷ rs) =
    (low ≤ r.address) × (r.address < 2 ^ (8 * size)) × (r.address < 2 ^ 64) × (r.line < 2 ^ 63)
    × (r.column < 2 ^ 64) × (r.discriminator < 2 ^ 64) × CanBuild size r.address rs

-- no row is above an address
unfoldable pub AllBelow : ℕ → List RowPart → Type 0
AllBelow end [] = Unit {0}
AllBelow end (r ∷ rs) = (r.address ≤ end) × AllBelow end rs

-- a sequence of such rows, which begins below the tombstones and ends at or after its last row
pub record CanBuildAll (size : ℕ) (s : SequencePart) : Type 0 where
  pub first : RowPart
  pub others : List RowPart
  pub rows : s.rows ≡ first ∷ others
  pub begins : is_tombstone size first.address ≡ false
  pub ascend : CanBuild size first.address (first ∷ others)
  pub above : AllBelow s.end s.rows
  pub ends : s.end < 2 ^ (8 * size)
  pub ends_low : s.end < 2 ^ 64

unfoldable pub AllCanBuild : ℕ → List SequencePart → Type 0
AllCanBuild size [] = Unit {0}
AllCanBuild size (s ∷ ss) = CanBuildAll size s × AllCanBuild size ss

-- places of 64 bits
abbrev pub ArePlaces : (ℕ → ℕ) → Type 0
ArePlaces place = (i : ℕ) → place i < 2 ^ 64

-- The entries of such sequences can be built, after the first row of a program, and what is built
-- can be read.
abbrev pub SequencesFollow : Type 0
SequencesFollow =
    (e : Encoding) (place : ℕ → ℕ) (ss : List SequencePart) → ArePlaces place
    → AllCanBuild e.address_size ss
    → follows (emitted_rules e) (first_row (emitted_rules e)) (emitted_sequences place ss) ≡ true

abbrev pub SequencesReadable : Type 0
SequencesReadable =
    (e : Encoding) (place : ℕ → ℕ) (ss : List SequencePart) → AllCanBuild e.address_size ss
    → IsReadable (emitted_rules e) 0 (first_row (emitted_rules e)) (emitted_sequences place ss)

-- ---- sequences one by one

-- The rows of a sequence and its end can be built after a row.
abbrev pub RowsFollow : LineRules → (ℕ → ℕ) → LineRow → ℕ → List RowPart → ℕ → Type 0
RowsFollow rules place previous begin rs end =
    follows rules previous (emitted_rows place begin rs ++ EndSequence (end - begin) 0 ∷ []) ≡ true

-- a sequence whose rows and end aren't below its first row, and can be built
abbrev pub IsOrderedUpTo : LineRules → (ℕ → ℕ) → ℕ → List RowPart → ℕ → Type 0
IsOrderedUpTo rules place files [] end = Unit {0}
IsOrderedUpTo rules place files (r ∷ rs) end =
    AllFrom files r.address (r ∷ rs) × (r.address ≤ end)
    × RowsFollow rules place (row_at_address (first_row rules)) r.address (r ∷ rs) end

abbrev pub IsOrdered : LineRules → (ℕ → ℕ) → ℕ → SequencePart → Type 0
IsOrdered rules place files s = IsOrderedUpTo rules place files s.rows s.end

unfoldable pub AllOrdered : LineRules → (ℕ → ℕ) → ℕ → List SequencePart → Type 0
AllOrdered rules place files [] = Unit {0}
AllOrdered rules place files (s ∷ ss) =
    IsOrdered rules place files s × AllOrdered rules place files ss
