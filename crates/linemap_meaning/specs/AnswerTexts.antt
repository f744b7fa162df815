-- The text that answers a word, as `ask` prints it.
use Rattle.std.specs.Prelude.{ℕ, ◌^◌, Bool, ◌&&◌, ◌==◌, nat_lt, List, [], ◌++◌, length, drop, slice_index, flat_map, decimal, codes, Option, Some, None, unwrap_or, option_and_then, if◌then◌else◌}
use Rattle.std.specs.List.{list_all}
use Rattle.std.specs.Char.{is_digit}
use Rattle.std.specs.Str.Parse.{without_leading_plus, digits_value}
use Rattle.linemap_meaning.specs.TableParts.{UnitPart}
use Rattle.linemap_meaning.specs.Meaning.{Location, location_at}

-- ---- addresses

-- one hexadecimal digit or more, of either case
abbrev pub is_hexadecimal : List ℕ → Bool
is_hexadecimal digits = nat_lt 0 (length digits) && list_all (λ c. is_digit c 16) digits

-- the number that hexadecimal digits write, where there are only such digits and it fits 64 bits
abbrev pub hexadecimal_number : List ℕ → Option ℕ
hexadecimal_number digits =
    if is_hexadecimal digits && nat_lt (digits_value 16 digits) (2 ^ 64)
    then Some (digits_value 16 digits) else None

-- '0'
abbrev digit_zero : ℕ
digit_zero = 0x30

-- 'x'
abbrev letter_x : ℕ
letter_x = 0x78

-- the word without a leading "0x", unless nothing follows it
abbrev pub without_0x : List ℕ → List ℕ
without_0x word =
    if nat_lt 2 (length word)
    && ((slice_index word 0 == digit_zero) && (slice_index word 1 == letter_x))
    then drop 2 word else word

-- the address that a word writes: "0x" may come first, then one plus sign
abbrev pub word_address : List ℕ → Option ℕ
word_address word = hexadecimal_number (without_leading_plus (without_0x word))

-- ---- lines

-- a file that isn't known
abbrev pub unknown_text : List ℕ
unknown_text = codes "??"

-- a line, or one that isn't known
abbrev pub number_text : Option ℕ → List ℕ
number_text None = codes "?"
number_text (Some n) = decimal n

-- the file or "??", a colon, and the line or "?"
abbrev pub place_text : Option (List ℕ) → Option ℕ → List ℕ
place_text file line = unwrap_or file unknown_text ++ (codes ":" ++ number_text line)

-- a discriminator above 0, in parentheses after a space
abbrev pub discriminator_text : Option ℕ → List ℕ
discriminator_text None = []
discriminator_text (Some n) =
    if nat_lt 0 n then codes " (discriminator " ++ (decimal n ++ codes ")") else []

-- the text of a location, with its discriminator; "??:0" where there is none
abbrev pub location_text : Option Location → List ℕ
location_text None = place_text None (Some 0)
location_text (Some l) =
    place_text l.file (Some l.line) ++ discriminator_text l.discriminator

-- the answer to a word; one that can't be read is answered as if there were no location
abbrev pub word_text : List UnitPart → List ℕ → List ℕ
word_text us word = location_text (option_and_then (location_at us) (word_address word))

-- the answers to words, each with a line end
abbrev pub ask_text : List UnitPart → List (List ℕ) → List ℕ
ask_text us words = flat_map (λ w. word_text us w ++ codes "\n") words
