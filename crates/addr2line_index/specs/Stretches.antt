-- The rows of a sequence between two ends, as stretches of addresses.
use Rattle.std.specs.Prelude.{ℕ, List, [], drop, nat_lt, Option, Some, None}
use Rattle.std.specs.List.{take_while}
use Rattle.addr2line_spec.specs.Lines.{LineRow, Sequence, Stretch, row_location, stretches_of}
use Rattle.addr2line_index.specs.declared.stretches.RowStretch.{RowStretch}

-- the addresses that a row stands for, with its place by the texts of files
abbrev pub stretch_of_row : List (List ℕ) → RowStretch → Stretch
stretch_of_row files s =
    record { address = s.address; length = s.length; location = row_location files s.row }

-- rows as stretches, while they begin below the high end
abbrev pub stretches_below : List (List ℕ) → ℕ → ℕ → List LineRow → List Stretch
stretches_below files end high rows =
    take_while (λ t. nat_lt t.address high) (stretches_of files end rows)

-- those of a sequence from the row of a number on, if there is a sequence
abbrev pub sequence_from : List (List ℕ) → ℕ → ℕ → Option Sequence → List Stretch
sequence_from files high row None = []
sequence_from files high row (Some s) = stretches_below files s.end high (drop row s.rows)
