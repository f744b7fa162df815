-- The texts of a line number program's header: directories, paths of files, and their sources
-- (DWARF 5, 6.2.4.1).
use Rattle.std.specs.Prelude.{◌≢◌, ℕ, List, All, length}

-- A text: its bytes in the header, or a number that finds it in `.debug_str` or in
-- `.debug_line_str`: its place in the table as it is built, its offset in the section as it is
-- written.
pub data Text : Type 0 where
  in_header : List ℕ → Text
  of_strings : ℕ → Text
  of_line_strings : ℕ → Text

-- the bytes of a text hold no zero byte
abbrev pub IsText : List ℕ → Type 0
IsText bytes = All (λ b. b ≢ 0) bytes

-- a text in a header holds no zero byte
abbrev pub HasNoZero : Text → Type 0
HasNoZero (in_header bytes) = IsText bytes
HasNoZero (of_strings _) = Unit {0}
HasNoZero (of_line_strings _) = Unit {0}

-- and isn't empty
abbrev pub HasBytes : Text → Type 0
HasBytes (in_header bytes) = length bytes ≢ 0
HasBytes (of_strings _) = Unit {0}
HasBytes (of_line_strings _) = Unit {0}
