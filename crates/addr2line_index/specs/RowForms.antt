-- Rows in one of their two forms.
use Rattle.std.specs.Prelude.{List}
use Rattle.addr2line_spec.specs.Lines.{LineRow}
use Rattle.addr2line_index.specs.NarrowRows.{AscendFrom}
use Rattle.addr2line_index.specs.declared.row_list.RowForm.{RowForm}
use Rattle.addr2line_index.specs.declared.row_list.RowForm.TheVariants.{Narrow, Wide}

abbrev pub rows_in_form : RowForm → List LineRow
rows_in_form (Narrow v) = v.items
rows_in_form (Wide v) = v.items

-- narrow rows don't go back
abbrev pub IsForm : RowForm → Type 0
IsForm (Narrow v) = AscendFrom 0 v.items
IsForm (Wide v) = Unit {0}
