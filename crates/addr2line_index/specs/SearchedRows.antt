-- Rows as a search looks at them.
use Rattle.addr2line_spec.specs.Lines.{LineRow}
use Rattle.addr2line_search.specs.ProbedLists.{ProbedList}
use Rattle.addr2line_index.specs.NarrowRows.{AscendFrom}
use Rattle.addr2line_index.specs.declared.row_index.SearchedRows.{SearchedRows}
use Rattle.addr2line_index.specs.declared.row_index.SearchedRows.TheVariants.{Ascending, Any}

abbrev pub searched_rows : SearchedRows → ProbedList LineRow
searched_rows (Ascending p) = p
searched_rows (Any w) = w

-- those that are searched by their own addresses don't go back
abbrev pub IsSearched : SearchedRows → Type 0
IsSearched (Ascending p) = AscendFrom 0 p.entries
IsSearched (Any w) = Unit {0}
