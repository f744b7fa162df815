-- Units whose debug information says what a table says.
use Rattle.std.specs.Prelude.{◌≡◌, ℕ, ◌<◌, true, false, List, [], ◌∷◌, ◌++◌, length, map, slice_get, Some, option_map, Result, Ok}
use Rattle.addr2line_spec.specs.Error.{Error}
use Rattle.addr2line_spec.specs.Range.{Range}
use Rattle.addr2line_spec.specs.Lines.{ProgramRow, Lines, Location, sequences_of_rows}
use Rattle.linemap_meaning.specs.TableParts.{RangePart, RowPart, SequencePart, UnitPart}
use Rattle.linemap_meaning.specs.FileText.{file_text}
use Rattle.linemap_meaning.specs.Meaning as table

-- a range of a table
abbrev pub lookup_range : RangePart → Range
lookup_range r = record { begin = r.begin; end = r.end }

-- a row of a table, whose file has a number
abbrev pub lookup_row : (ℕ → ℕ) → RowPart → ProgramRow
lookup_row number r =
    record {
      address = r.address;
      file = number r.file;
      line = r.line;
      column = r.column;
      statement = r.statement;
      discriminator = r.discriminator;
      ends = false;
    }

-- the end of a sequence: only its address counts
abbrev pub IsEnd : ℕ → ProgramRow → Type 0
IsEnd address r = (r.address ≡ address) × (r.ends ≡ true)

-- The rows of a line number program that says what a unit's sequences say: those of each, and its
-- end.
pub data RowsAgree (number : ℕ → ℕ) : List SequencePart → List ProgramRow → Type 0 where
  no_sequences : RowsAgree number [] []
  a_sequence : (s : SequencePart) (ss : List SequencePart) (end : ProgramRow)
      (rows : List ProgramRow)
      → IsEnd s.end end → RowsAgree number ss rows
      → RowsAgree number (s ∷ ss) (map (lookup_row number) s.rows ++ end ∷ rows)

-- each file of the unit has its text under its number
abbrev pub AreNumbered : (ℕ → ℕ) → UnitPart → List (List ℕ) → Type 0
AreNumbered number u files =
    (i : ℕ) → i < length u.files → slice_get files (number i)
    ≡ option_map (file_text u) (slice_get u.files i)

-- what lookups know of a unit says what the table says of it
pub record UnitAgrees (u : UnitPart) (ranges : List Range) (lines : Result Lines Error) : Type 0
  where
    pub ranges_agree : ranges ≡ map lookup_range u.ranges
    pub number : ℕ → ℕ
    pub rows : List ProgramRow
    pub files : List (List ℕ)
    pub rows_agree : RowsAgree number u.sequences rows
    pub files_numbered : AreNumbered number u files
    pub lines_are : lines ≡ Ok (record { sequences = sequences_of_rows rows; files = files })

-- the units of a table, one after the other
abbrev pub TableAgrees : {U : Type 0} → (U → List Range) → (U → Result Lines Error)
    → List UnitPart → List U → Type 0
TableAgrees ranges lines [] [] = Unit {0}
TableAgrees ranges lines [] (x ∷ xs) = ⊥
TableAgrees ranges lines (u ∷ us) [] = ⊥
TableAgrees ranges lines (u ∷ us) (x ∷ xs) =
    UnitAgrees u (ranges x) (lines x) × TableAgrees ranges lines us xs

-- a place of a table, as lookups answer it
abbrev pub lookup_location : table.Location → Location
lookup_location l =
    record {
      file = l.file;
      line = Some l.line;
      column = Some l.column;
      statement = l.statement;
      discriminator = l.discriminator;
    }
