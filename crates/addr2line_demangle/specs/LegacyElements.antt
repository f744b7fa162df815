-- The text of one element of a legacy Rust name.
use Rattle.std.specs.Prelude.{ℕ, Bool, not, ◌&&◌, ◌||◌, ◌==◌, nat_lt, List, [], ◌∷◌, ◌++◌, length, drop, slice_index, codes, bytes_eq, encode_utf8, Option, Some, None, option_map, if◌then◌else◌}
use Rattle.std.specs.Char.{is_control}
use Rattle.std.specs.Int.{is_in_range}
use Rattle.std.specs.List.{find, list_all, slice_split, join_with_byte, position_or_len, before_first, after_first}
use Rattle.std.specs.Str.Parse.{digits_value}

-- '$'
abbrev pub dollar : ℕ
dollar = 0x24

-- '.'
abbrev pub dot : ℕ
dot = 0x2e

-- 'u'
abbrev pub letter_u : ℕ
letter_u = 0x75

-- '_'
abbrev pub underscore : ℕ
underscore = 0x5f

-- two colons replace two dots, from left to right; a single dot stays
abbrev pub dots_as_colons : List ℕ → List ℕ
dots_as_colons [] = []
dots_as_colons (a ∷ []) = a ∷ []
dots_as_colons (a ∷ b ∷ text) =
    if (a == dot) && (b == dot) then codes "::" ++ dots_as_colons text
    else a ∷ dots_as_colons (b ∷ text)

-- a word between dollar signs and the character that it means
pub record Sign : Type 0 where
  pub word : List ℕ
  pub character : ℕ

-- '@', '*', '&', '<', '>', '(', ')' and ','
abbrev pub signs : List Sign
signs =
    record { word = codes "SP"; character = 0x40 }
    ∷ record { word = codes "BP"; character = 0x2a }
    ∷ record { word = codes "RF"; character = 0x26 }
    ∷ record { word = codes "LT"; character = 0x3c }
    ∷ record { word = codes "GT"; character = 0x3e }
    ∷ record { word = codes "LP"; character = 0x28 }
    ∷ record { word = codes "RP"; character = 0x29 }
    ∷ record { word = codes "C"; character = 0x2c }
    ∷ []

abbrev pub sign_of : List ℕ → Option ℕ
sign_of word = option_map (λ s. s.character) (find (λ s. bytes_eq word s.word) signs)

-- '0' to '9' and 'a' to 'f'
abbrev pub is_lower_hexadecimal : List ℕ → Bool
is_lower_hexadecimal digits =
    list_all (λ b. is_in_range 0x30 0x39 b || is_in_range 0x61 0x66 b) digits

-- a number that is a character: not that of a surrogate, and at most U+10FFFF
abbrev pub is_character : ℕ → Bool
is_character c = nat_lt c 0xd800 || is_in_range 0xe000 0x10_ffff c

-- the character, unless it is one of U+0000 to U+001F and U+007F to U+009F
abbrev pub visible_character : ℕ → Option ℕ
visible_character c = if is_character c && not (is_control c) then Some c else None

-- the character whose number is written by one or more such digits
abbrev pub character_by_number : List ℕ → Option ℕ
character_by_number digits =
    if nat_lt 0 (length digits) && is_lower_hexadecimal digits
    then visible_character (digits_value 16 digits)
    else None

-- the character that a word between dollar signs means: a sign's, or after 'u' that of a number
abbrev pub character_of : List ℕ → Option ℕ
character_of word =
    if slice_index word 0 == letter_u then character_by_number (drop 1 word) else sign_of word

-- what follows a plain part: the character of a word and the rest; or, if the word has no
-- character, the element from its dollar sign on, as it is
abbrev pub character_then : Option ℕ → List ℕ → List ℕ → List ℕ
character_then (Some c) rest whole = encode_utf8 c ++ rest
character_then None rest whole = whole

-- the parts between an element's dollar signs: plain parts and words in turn; the first word that
-- means no character, or has no dollar sign after it, stays as it is, with all that follows it
abbrev pub parts_text : List (List ℕ) → List ℕ
parts_text [] = []
parts_text (plain ∷ []) = dots_as_colons plain
parts_text (plain ∷ word ∷ []) = dots_as_colons plain ++ (dollar ∷ word)
parts_text (plain ∷ word ∷ next ∷ parts) =
    dots_as_colons plain
    ++ character_then (character_of word) (parts_text (next ∷ parts))
    (dollar ∷ join_with_byte dollar (word ∷ next ∷ parts))

-- the start of a text after a dollar sign: a word's character, and the text after the dollar sign
-- that ends the word
pub record Replacement : Type 0 where
  pub character : ℕ
  pub rest : List ℕ

-- none if no dollar sign ends the word, or the word means no character
abbrev pub first_replacement : List ℕ → Option Replacement
first_replacement text =
    if position_or_len (λ b. b == dollar) text == length text
    then None
    else option_map (λ c. record { character = c; rest = after_first (λ b. b == dollar) text })
    (character_of (before_first (λ b. b == dollar) text))

-- an underscore before a dollar sign at the start is left out
abbrev pub without_underscore : List ℕ → List ℕ
without_underscore element =
    if (slice_index element 0 == underscore) && (slice_index element 1 == dollar)
    then drop 1 element
    else element

abbrev pub element_text : List ℕ → List ℕ
element_text element = parts_text (slice_split (λ b. b == dollar) (without_underscore element))
