-- The parts of a string table in which names begin. Each is UTF-8 and ends with a zero byte, so
-- that a name begins at each byte of it that begins a character.
use Rattle.std.specs.Prelude.{◌≡◌, ◌≢◌, ℕ, ◌+◌, ◌-◌, ◌<◌, ◌≤◌, ◌==◌, ◌&&◌, ◌||◌, not, nat_le, nat_lt, Bool, false, List, [], ◌∷◌, ◌++◌, length, take, slice_index, if◌then◌else◌}
use Rattle.std.specs.List.Sorted.{IsNonDecreasingBy}
use Rattle.std.specs.Option.{is_some, option_and_then}
use Rattle.std.specs.Str.{IsUtf8}
use Rattle.addr2line_elf.specs.declared.names.NamePart.{NamePart}
use Rattle.addr2line_elf.specs.ElfTexts.{text_at}
use Rattle.addr2line_elf.specs.ElfSymbols.{as_name}

-- the text at an offset is a name
abbrev pub begins_name : List ℕ → ℕ → Bool
begins_name texts offset = is_some (option_and_then as_name (text_at texts offset))

-- ---- parts

-- the byte begins a character, and isn't the one after a text
abbrev pub begins_text : ℕ → Bool
begins_text b = not (b == 0) && (nat_lt b 0x80 || nat_le 0xc0 b)

abbrev pub end_of : NamePart → ℕ
end_of p = p.end

abbrev pub ends_by : ℕ → NamePart → Bool
ends_by offset p = nat_le p.end offset

-- the first part that ends after an offset begins there or before
abbrev pub is_in_part : ℕ → List NamePart → Bool
is_in_part offset [] = false
is_in_part offset (p ∷ ps) =
    if nat_le p.end offset then is_in_part offset ps else nat_le p.begin offset

abbrev pub is_name_in : List ℕ → ℕ → List NamePart → Bool
is_name_in texts offset parts = is_in_part offset parts && begins_text (slice_index texts offset)

-- the parts are in order, and names begin in them alone
pub record AreNameParts (texts : List ℕ) (parts : List NamePart) : Type 0 where
  pub order : IsNonDecreasingBy end_of parts
  pub begins : (offset : ℕ) → begins_name texts offset ≡ is_name_in texts offset parts

-- ---- the parts up to an offset

abbrev pub EndBy : ℕ → List NamePart → Type 0
EndBy offset [] = Unit {0}
EndBy offset (p ∷ ps) = (p.end ≤ offset) × EndBy offset ps

-- the parts before an offset are in order, and names that begin there begin in them alone
pub record AreNamePartsTo (end : ℕ) (texts : List ℕ) (parts : List NamePart) : Type 0 where
  pub order : IsNonDecreasingBy end_of parts
  pub ended : EndBy end parts
  pub begins : (offset : ℕ) → offset < end
      → begins_name texts offset ≡ is_name_in texts offset parts

-- the parts with one of a length that begins at an offset, unless it has no bytes
abbrev pub with_part : ℕ → ℕ → List NamePart → List NamePart
with_part begin len parts =
    if len == 0 then parts else parts ++ record { begin = begin; end = begin + len } ∷ []

-- as many bytes, and no more, are UTF-8
pub record IsLongestText (bytes : List ℕ) (n : ℕ) : Type 0 where
  pub within : n ≤ length bytes
  pub valid : IsUtf8 (take n bytes)
  pub longest : (m : ℕ) → n < m → m ≤ length bytes → ¬ (IsUtf8 (take m bytes))

-- how many bytes end with the last zero byte; 0, where there is none
pub record IsLastZero (bytes : List ℕ) (n : ℕ) : Type 0 where
  pub within : n ≤ length bytes
  pub zero_at : 0 < n → slice_index bytes (n - 1) ≡ 0
  pub none_after : (k : ℕ) → n ≤ k → k < length bytes → slice_index bytes k ≢ 0
