-- The lines of an input, read one after the other.
use Rattle.std.specs.Prelude.{◌≡◌, ◌<◌, ℕ, Bool, true, false, ◌||◌, List, [], ◌∷◌, ◌++◌, length, map, take, All, Option, Some, None, IfSome, if◌then◌else◌}
use Rattle.std.specs.Str.{IsUtf8}
use Rattle.std.specs.Str.Lines.{lines}
use Rattle.std.specs.Io.{StopsAt}
use Rattle.std.specs.Io.BufRead.{ends_with_byte, strip_last}
use Rattle.std.specs.Io.KnownBytes.{Consumes}
use Rattle.linemap_meaning.specs.AnswerTexts.{word_address}
use Rattle.linemap_lookup.specs.declared.lines.LineBuffer.{LineBuffer}

-- ---- bytes

-- '\n'
abbrev pub line_feed : ℕ
line_feed = 0x0A

-- '\r'
abbrev pub carriage_return : ℕ
carriage_return = 0x0D

-- a line without the line feed at its end, and without a carriage return before that
abbrev pub without_end : List ℕ → List ℕ
without_end line =
    if ends_with_byte line_feed line then strip_last carriage_return (strip_last line_feed line)
    else line

-- A prefix that has no line feed but at its end, and is empty only where nothing is there.
pub record IsPartOfLine (bytes part : List ℕ) : Type 0 where
  pub prefix : part ≡ take (length part) bytes
  pub one_end : StopsAt part line_feed
  pub some : 0 < length bytes → 0 < length part

-- ---- one line

-- the line has its end, or the reader was at its end
abbrev pub is_whole : LineBuffer → Bool
is_whole b = b.is_at_end || ends_with_byte line_feed b.line.items

-- some bytes are taken from those of a reader
abbrev pub Takes : Option (List ℕ) → Option (List ℕ) → Type 0
Takes old new = (taken : List ℕ) × Consumes old new taken

-- these bytes are all that there are, where those are known
abbrev pub IsWholeInput : Option (List ℕ) → List ℕ → Type 0
IsWholeInput known bytes = IfSome known (λ all. all ≡ bytes)

-- The bytes that are taken are appended to a line. Where none are left, the reader was at its end.
pub record AppendsPart (old new : Option (List ℕ)) (before after : LineBuffer) : Type 0 where
  pub part : List ℕ
  pub consumes : Consumes old new part
  pub line : after.line.items ≡ before.line.items ++ part
  pub one_end : StopsAt part line_feed
  pub end : after.is_at_end ≡ true → before.is_at_end ≡ false → IsWholeInput old part
  pub same : (after.tries_left ≡ before.tries_left) × (after.has_failed ≡ before.has_failed)

-- A line is taken with its end, or up to the end of the input.
pub record ReadsLine (old new : Option (List ℕ)) (b : LineBuffer) : Type 0 where
  pub consumes : Consumes old new b.line.items
  pub one_end : StopsAt b.line.items line_feed
  pub whole : is_whole b ≡ true
  pub end : b.is_at_end ≡ true → IsWholeInput old b.line.items

-- the address in a line, which is text; or the line is no text, which is a fault
abbrev pub HasAddress : LineBuffer → LineBuffer → Option (Option ℕ) → Type 0
HasAddress before after None =
    (after.has_failed ≡ true) × (IsUtf8 (without_end before.line.items) → ⊥)
HasAddress before after (Some a) =
    IsUtf8 (without_end before.line.items) × (a ≡ word_address (without_end before.line.items))
    × (after ≡ before)

-- ---- one line after the other

-- The next line of an input is taken, which is text: what is taken has this line alone, and
-- before more of the input it is the first line; or it is all that was left.
pub record TakesLine (old new : Option (List ℕ)) (line : List ℕ) (is_last : Bool) : Type 0 where
  pub taken : List ℕ
  pub consumes : Consumes old new taken
  pub is_line : lines taken ≡ line ∷ []
  pub is_text : IsUtf8 line
  pub first : is_last ≡ false → (rest : List ℕ) → lines (taken ++ rest) ≡ line ∷ lines rest
  pub last : is_last ≡ true → IsWholeInput old taken

-- No line is left, or the next one can't be read.
pub record TakesNoLine (old new : Option (List ℕ)) (before after : LineBuffer) : Type 0 where
  pub rest : List ℕ
  pub consumes : Consumes old new rest
  pub none : after.has_failed ≡ false
      → (rest ≡ []) × (before.is_at_end ≡ false → IsWholeInput old [])

-- the address in the next line, or none
abbrev pub YieldsAddress : Option (List ℕ) → Option (List ℕ) → LineBuffer → LineBuffer
    → Option (Option ℕ) → Type 0
YieldsAddress old new before after None = TakesNoLine old new before after
YieldsAddress old new before after (Some a) =
    (line : List ℕ) × TakesLine old new line after.is_at_end × (a ≡ word_address line)
    × (before.is_at_end ≡ false) × (after.has_failed ≡ before.has_failed)
    × (after.tries_left < before.tries_left)

-- ---- all lines

-- What is read of an input is whole lines, each of them text; and nothing else, unless a read
-- failed or the next line is no text.
pub record ReadsTextLines (old new : Option (List ℕ)) (ls : List (List ℕ)) (is_cut : Bool) : Type 0
  where
    pub taken : List ℕ
    pub rest : List ℕ
    pub consumes : Consumes old new (taken ++ rest)
    pub are_lines : lines taken ≡ ls
    pub are_texts : All IsUtf8 ls
    pub all : is_cut ≡ false → IsWholeInput old taken

-- the addresses in those lines
abbrev pub AsksLines : Option (List ℕ) → Option (List ℕ) → Bool → List (Option ℕ) → Type 0
AsksLines old new is_cut addresses =
    (ls : List (List ℕ)) × ReadsTextLines old new ls is_cut × (addresses ≡ map word_address ls)
