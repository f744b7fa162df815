use Rattle.std.specs.Prelude.{ℕ}
use Rattle.std.specs.Int.NonZero.{non_zero_u64_get}
use Rattle.gimli_lines_rows.specs.declared.row.ColumnType.{ColumnType}
use Rattle.gimli_lines_rows.specs.declared.row.ColumnType.TheVariants.{LeftEdge, Column}

-- the register of a column: 0 for the left edge (DWARF 5, 6.2.2)
abbrev pub column_number : ColumnType → ℕ
column_number LeftEdge = 0
column_number (Column n) = non_zero_u64_get n
