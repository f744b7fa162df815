-- What has been made of the first rows of a line number program (DWARF 5, 6.2.2).
use Rattle.std.specs.Prelude.{ℕ, Bool, false, ◌==◌, ◌||◌, List, [], ◌∷◌, ◌++◌, Option, Some, None, if◌then◌else◌}
use Rattle.std.specs.List.{list_any}
use Rattle.addr2line_spec.specs.Lines.{ProgramRow, LineRow, Sequence, line_row, last_at_each_address, sequence_of, sequences_of_rows}

-- the sequences so far, and the rows after the last of them, the last of each address alone
pub record PartialLines : Type 0 where
  pub sequences : List Sequence
  pub rows : List LineRow

-- the rows that nothing has ended yet
abbrev pub rows_left : List ProgramRow → List LineRow
rows_left [] = []
rows_left (r ∷ rs) =
    if r.ends || list_any (λ s. s.ends) rs then rows_left rs else line_row r ∷ rows_left rs

-- what is made of these rows
abbrev pub partial_lines : List ProgramRow → PartialLines
partial_lines rows =
    record { sequences = sequences_of_rows rows; rows = last_at_each_address (rows_left rows) }

-- ---- one row more

-- a row is at an address, and is the last
abbrev pub is_last_at : ℕ → LineRow → List LineRow → Bool
is_last_at address r [] = address == r.address
is_last_at address r (s ∷ rs) = false

-- a row appended, in place of the last one where that is at the same address
abbrev pub put_row : LineRow → List LineRow → List LineRow
put_row r [] = r ∷ []
put_row r (x ∷ xs) = if is_last_at r.address x xs then r ∷ [] else x ∷ put_row r xs

-- a row is at an address
abbrev pub is_at : ℕ → Option LineRow → Bool
is_at address None = false
is_at address (Some r) = address == r.address

-- one or none
abbrev pub as_list : {X : Type 0} → Option X → List X
as_list None = []
as_list (Some x) = x ∷ []

-- the rows ended
abbrev pub with_end : ℕ → PartialLines → PartialLines
with_end end b = record { sequences = b.sequences ++ as_list (sequence_of b.rows end); rows = [] }

-- one more row, which doesn't end
abbrev pub with_row : LineRow → PartialLines → PartialLines
with_row r b = record { sequences = b.sequences; rows = put_row r b.rows }
