-- The rows of a unit's line number program as lookups use them, and the places in the source that
-- they stand for (DWARF 5, 6.2).
use Rattle.std.specs.Prelude.{ℕ, ◌-◌, ◌%◌, ◌^◌, Bool, false, ◌==◌, ◌&&◌, ◌||◌, nat_lt, nat_le, List, [], ◌∷◌, filter, flat_map, drop, slice_get, Option, Some, None, option_map, option_and_then, if◌then◌else◌}
use Rattle.std.specs.List.{filter_map, last_or, take_while, prefix_len}
use Rattle.gimli_lines_machine.specs.Range.{Range}
use Rattle.addr2line_spec.specs.Choice.{holder}
use Rattle.addr2line_spec.specs.Orders.{in_order}

-- ---- rows and sequences

-- a row that a program emits: the registers that lookups use, and whether it ends a sequence
pub record ProgramRow : Type 0 where
  pub address : ℕ
  pub file : ℕ
  pub line : ℕ
  pub column : ℕ
  pub statement : Bool
  pub discriminator : ℕ
  pub ends : Bool

-- a row as lookups use it: from its address on, the place in the source, whether a statement begins
-- there, and which of the blocks of its line the code belongs to
pub record LineRow : Type 0 where
  pub address : ℕ
  pub file : ℕ
  pub line : ℕ
  pub column : ℕ
  pub statement : Bool
  pub discriminator : ℕ

-- rows, and where the last of them ends
pub record Sequence : Type 0 where
  pub start : ℕ
  pub end : ℕ
  pub rows : List LineRow

-- lines and columns are numbers of 32 bits
abbrev pub line_row : ProgramRow → LineRow
line_row r =
    record {
      address = r.address;
      file = r.file;
      line = r.line % 2 ^ 32;
      column = r.column % 2 ^ 32;
      statement = r.statement;
      discriminator = r.discriminator;
    }

-- the rows before an end, and its address
pub record EndedRows : Type 0 where
  pub rows : List LineRow
  pub end : ℕ

-- a row put first in the first of these; where there is none, nothing ends the row, and it is
-- dropped
abbrev pub add_row : LineRow → List EndedRows → List EndedRows
add_row r [] = []
add_row r (s ∷ ss) = record { rows = r ∷ s.rows; end = s.end } ∷ ss

-- the rows cut after each that ends a sequence
abbrev pub split_at_ends : List ProgramRow → List EndedRows
split_at_ends [] = []
split_at_ends (r ∷ rs) =
    if r.ends then record { rows = []; end = r.address } ∷ split_at_ends rs
    else add_row (line_row r) (split_at_ends rs)

-- the next row is at the same address
abbrev pub is_replaced : ℕ → List LineRow → Bool
is_replaced address [] = false
is_replaced address (r ∷ rs) = r.address == address

-- of rows side by side at one address the last
abbrev pub last_at_each_address : List LineRow → List LineRow
last_at_each_address [] = []
last_at_each_address (r ∷ rs) =
    if is_replaced r.address rs then last_at_each_address rs else r ∷ last_at_each_address rs

-- rows up to an end are a sequence if there are any and the first is below the end
abbrev pub sequence_of : List LineRow → ℕ → Option Sequence
sequence_of [] end = None
sequence_of (r ∷ rs) end =
    if nat_lt r.address end then Some (record { start = r.address; end = end; rows = r ∷ rs })
    else None

-- the sequences of rows, in the order of the program
abbrev pub sequences_of_rows : List ProgramRow → List Sequence
sequences_of_rows rows =
    filter_map (λ s. sequence_of (last_at_each_address s.rows) s.end) (split_at_ends rows)

-- what lookups know of a unit's lines: its sequences, and the texts of its files by their numbers
pub record Lines : Type 0 where
  pub sequences : List Sequence
  pub files : List (List ℕ)

-- a unit without a line number program
abbrev pub no_lines : Lines
no_lines = record { sequences = []; files = [] }

-- ---- places

-- a place in the source: the file's text, the line, and the column, 0 for the left edge; each where
-- it is known; and where a row gives the place, whether it is the beginning of a statement, and its
-- discriminator
pub record Location : Type 0 where
  pub file : Option (List ℕ)
  pub line : Option ℕ
  pub column : Option ℕ
  pub statement : Option Bool
  pub discriminator : Option ℕ

-- a number that is known where the row has a line, which 0 is not
abbrev pub with_line : ℕ → ℕ → Option ℕ
with_line line n = if line == 0 then None else Some n

abbrev pub row_location : List (List ℕ) → LineRow → Location
row_location files r =
    record {
      file = slice_get files r.file;
      line = with_line r.line r.line;
      column = with_line r.line r.column;
      statement = Some r.statement;
      discriminator = Some r.discriminator;
    }

-- ---- an address

abbrev pub range_of : Sequence → Range
range_of s = record { begin = s.start; end = s.end }

-- how many rows come before the first that is above an address
abbrev pub rows_to : ℕ → List LineRow → ℕ
rows_to a rows = prefix_len (λ r. nat_le r.address a) rows

-- the row of an address: the last of those before the first that is above it
abbrev pub row_of : List LineRow → ℕ → Option LineRow
row_of rows a = last_or None (take_while (λ r. nat_le r.address a) rows)

-- that of the sequence that holds the address
abbrev pub row_at : Lines → ℕ → Option LineRow
row_at l a = option_and_then (λ s. row_of s.rows a) (holder range_of a l.sequences)

-- the place of an address
abbrev pub place_in : Lines → ℕ → Option Location
place_in l a = option_map (row_location l.files) (row_at l a)

-- ---- two ends

-- the addresses that a row stands for: the first, how many they are, and their place
pub record Stretch : Type 0 where
  pub address : ℕ
  pub length : ℕ
  pub location : Location

-- where a row ends: at the next one, or at the sequence's end
abbrev pub next_address : List LineRow → ℕ → ℕ
next_address [] end = end
next_address (r ∷ rs) end = r.address

-- each row as a stretch, of no length where what follows is lower
abbrev pub stretches_of : List (List ℕ) → ℕ → List LineRow → List Stretch
stretches_of files end [] = []
stretches_of files end (r ∷ rs) =
    record {
      address = r.address;
      length = next_address rs end - r.address;
      location = row_location files r;
    } ∷ stretches_of files end rs

-- those of a sequence from the row of the low end on, or from the first where that is above, while
-- they begin below the high end
abbrev pub sequence_between : List (List ℕ) → ℕ → ℕ → Sequence → List Stretch
sequence_between files low high s =
    take_while (λ t. nat_lt t.address high)
    (drop (rows_to low s.rows - 1) (stretches_of files s.end s.rows))

-- a sequence starts after another, or with it and ends after it
abbrev pub starts_after : Sequence → Sequence → Bool
starts_after s t = nat_lt t.start s.start || (s.start == t.start && nat_lt t.end s.end)

-- the sequence starts below the high end and ends above the low one
abbrev pub reaches : ℕ → ℕ → Sequence → Bool
reaches low high s = nat_lt s.start high && nat_lt low s.end

-- the stretches between two ends, by the sequences' starts and ends
abbrev pub lines_between : Lines → ℕ → ℕ → List Stretch
lines_between l low high =
    flat_map (sequence_between l.files low high)
    (filter (reaches low high) (in_order starts_after l.sequences))
