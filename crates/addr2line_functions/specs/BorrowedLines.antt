-- The files of lines that may be borrowed.
use Rattle.std.specs.Prelude.{ℕ, List, [], Option, Some, None}
use Rattle.addr2line_ranges.specs.LineIndexes.{CountedLines}

-- none where there are no lines
abbrev pub files_in : Option CountedLines → List (List ℕ)
files_in None = []
files_in (Some l) = l.lines.files
