-- Walks over the lines of a unit between two ends, and how many looks at entries they take.
use Rattle.std.specs.Prelude.{◌≡◌, ℕ, [], ◌∷◌, length, Option, Some, None, MatchOption, Result, Ok, Err}
use Rattle.addr2line_functions.specs.Error.{Error}
use Rattle.addr2line_functions.specs.Lines.{Lines, lines_between}
use Rattle.addr2line_functions.specs.LineCursor.{LineCursor}
use Rattle.addr2line_functions.specs.LineCursors.{lines_left, StepsTo}
use Rattle.addr2line_functions.specs.RowStretch.{RowStretch}
use Rattle.addr2line_functions.specs.Stretches.{stretch_of_row}
use Rattle.addr2line_root.specs.LineIndexes.{CountedLines}
use Rattle.addr2line_root.specs.ProbedLists.{ProbeCount}
use Rattle.addr2line_root.specs.Searches.{digit_count, AtMostProbes}

-- lines without the name of their counter
abbrev pub plain_lines : Result CountedLines Error → Result Lines Error
plain_lines (Ok l) = Ok l.lines
plain_lines (Err e) = Err e

-- ---- rows

-- a walk from a low end on begins at a cursor; at none where there are no rows for it, or the lines
-- are refused
abbrev pub WalkBegins : ℕ → Result Lines Error → Option LineCursor → Type 0
WalkBegins low (Ok l) c =
    MatchOption c ((high : ℕ) → lines_between l low high ≡ [])
    (λ k. (high : ℕ) → lines_left l low high k ≡ lines_between l low high)
WalkBegins low (Err e) c = c ≡ None

-- the next row at a cursor, with the cursor after it, if one is left between two ends; none where
-- the lines are refused
abbrev pub WalkGoesOn : ℕ → ℕ → LineCursor → Result Lines Error → Option (RowStretch × LineCursor)
    → Type 0
WalkGoesOn low high c (Ok l) None = lines_left l low high c ≡ []
WalkGoesOn low high c (Ok l) (Some f) =
    lines_left l low high c ≡ stretch_of_row l.files f.0 ∷ lines_left l low high f.1
WalkGoesOn low high c (Err e) f = f ≡ None

-- ---- looks at entries

-- to begin, those of a search among the sequences
abbrev pub cursor_probes : Result Lines Error → ℕ
cursor_probes (Ok l) = digit_count (length l.sequences)
cursor_probes (Err e) = 0

-- for a step, those at the sequences that it passes, and three at a row
abbrev pub StepsOn : LineCursor → Result Lines Error → Option (RowStretch × LineCursor)
    → ProbeCount → ProbeCount → Type 0
StepsOn c (Ok l) f old new = StepsTo l c f old new
StepsOn c (Err e) f old new = AtMostProbes 0 old new
