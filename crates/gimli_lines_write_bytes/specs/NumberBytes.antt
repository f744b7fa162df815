-- The bytes that are written of numbers, addresses and lengths (DWARF 5, 7.1, 7.3 and 7.4).
use Rattle.std.specs.Prelude.{ℕ, ℤ, pos, negsuc, ◌+◌, ◌-◌, ◌*◌, ◌^◌, nat_lt, Bool, List, [], ◌∷◌, Result, Ok, Err, if◌then◌else◌, ◌++◌}
use Rattle.gimli_core_base.specs.declared.common.Format.{Format}
use Rattle.gimli_core_base.specs.declared.common.Format.TheVariants.{Dwarf32, Dwarf64}
use Rattle.gimli_core_base.specs.Fixed.{number_bytes}
use Rattle.gimli_core_base.specs.declared.constants.TheConstants.{FIRST_RESERVED_LENGTH}
use Rattle.gimli_core_base.specs.FormatSizes.{word_size}
use Rattle.gimli_core_base.specs.NumberParsers.{is_address_size}
use Rattle.gimli_lines_write_bytes.specs.declared.error.Error.{Error}
use Rattle.gimli_lines_write_bytes.specs.declared.error.Error.TheVariants.{ValueTooLarge, UnsupportedWordSize, InitialLengthOverflow, InvalidAddress}
use Rattle.gimli_lines_write_bytes.specs.declared.address.Address.{Address}
use Rattle.gimli_lines_write_bytes.specs.declared.address.Address.TheVariants.{Constant, Symbol}

-- a number in `size` bytes, where these are 1, 2, 4 or 8 and hold it
abbrev pub bytes_in_width : Bool → ℕ → ℕ → Result (List ℕ) Error
bytes_in_width is_big size n =
    if is_address_size size then (if nat_lt n (256 ^ size) then Ok (number_bytes is_big size n)
    else Err ValueTooLarge)
    else Err UnsupportedWordSize

-- `size` bytes hold a signed number: half of the numbers that they spell are below 0
abbrev pub fits_signed : ℕ → ℤ → Bool
fits_signed size (pos n) = nat_lt (2 * n) (256 ^ size)
fits_signed size (negsuc n) = nat_lt (2 * n) (256 ^ size)

-- two's complement: below 0 a number is spelled as what it lacks to 256 ^ size
abbrev pub complement : ℕ → ℤ → ℕ
complement size (pos n) = n
complement size (negsuc n) = 256 ^ size - (n + 1)

-- a signed number in `size` bytes, where these are 1, 2, 4 or 8 and hold it
abbrev pub signed_bytes_in_width : Bool → ℕ → ℤ → Result (List ℕ) Error
signed_bytes_in_width is_big size z =
    if is_address_size size then (if fits_signed size z
    then Ok (number_bytes is_big size (complement size z)) else Err ValueTooLarge)
    else Err UnsupportedWordSize

-- the number of an address, where it is known now
abbrev pub constant_of : Address → Result ℕ Error
constant_of (Constant n) = Ok n
constant_of (Symbol _ _) = Err InvalidAddress

-- the bytes of an address that is written as a number
abbrev pub address_bytes : Bool → ℕ → Result ℕ Error → Result (List ℕ) Error
address_bytes is_big size (Ok n) = bytes_in_width is_big size n
address_bytes is_big size (Err e) = Err e

-- the bytes before a length: the escape of 64-bit DWARF
abbrev pub escape : Format → List ℕ
escape Dwarf32 = []
escape Dwarf64 = 255 ∷ 255 ∷ 255 ∷ 255 ∷ []

-- the bytes of a length: those from the first reserved one on need 64-bit DWARF
abbrev pub length_bytes : Bool → Format → ℕ → Result (List ℕ) Error
length_bytes is_big Dwarf32 n =
    if nat_lt n FIRST_RESERVED_LENGTH then Ok (number_bytes is_big 4 n)
    else Err InitialLengthOverflow
length_bytes is_big Dwarf64 n = bytes_in_width is_big 8 n

-- the lengths that a format can write
abbrev pub length_limit : Format → ℕ
length_limit Dwarf32 = FIRST_RESERVED_LENGTH
length_limit Dwarf64 = 2 ^ 64

-- the bytes of such a length, after the escape of 64-bit DWARF
abbrev pub spelled_length : Format → Bool → ℕ → List ℕ
spelled_length format is_big n = escape format ++ number_bytes is_big (word_size format) n
