-- Numbers, read from a view: a value and the rest, or the first fault.
use Rattle.std.specs.Prelude.{ℕ, ℤ, ◌+◌, ◌^◌, ◌==◌, ◌||◌, nat_lt, Bool, List, length, take, Option, Some, None, Result, Ok, Err, if◌then◌else◌}
use Rattle.std.specs.Int.{Width, byte_len, cast_signed}
use Rattle.gimli_core_base.specs.declared.error.Error.{Error}
use Rattle.gimli_core_base.specs.declared.error.Error.TheVariants.{UnexpectedEof, BadUnsignedLeb128, BadSignedLeb128, UnknownReservedLength, UnsupportedOffset, UnsupportedAddressSize}
use Rattle.gimli_core_base.specs.View.{View, after, unexpected_end}
use Rattle.gimli_core_base.specs.Parsers.{Parser, ◌>>=◌, give, fail, branch, lift}
use Rattle.gimli_core_base.specs.declared.common.Format.{Format}
use Rattle.gimli_core_base.specs.declared.common.Format.TheVariants.{Dwarf32, Dwarf64}
use Rattle.gimli_core_base.specs.declared.constants.TheConstants.{DWARF64_ESCAPE, FIRST_RESERVED_LENGTH}
use Rattle.gimli_core_base.specs.FormatSizes.{word_size}
use Rattle.gimli_core_base.specs.declared.leb128.Fault.{Fault}
use Rattle.gimli_core_base.specs.declared.leb128.Fault.TheVariants.{Cut, Bad}
use Rattle.gimli_core_base.specs.Fixed.{number}
use Rattle.gimli_core_base.specs.Leb128.{leb_string, unsigned_at, signed_at}

-- ---- numbers of a fixed width, in the view's order

-- a number of n bytes
unfoldable pub fixed : ℕ → Parser ℕ
fixed n v =
    if nat_lt (length v.bytes) n then Err (unexpected_end v)
    else Ok (number v.is_big (take n v.bytes), after n v)

-- the same as two's complement
unfoldable pub fixed_signed : Width → Parser ℤ
fixed_signed w = do
  n ← fixed (byte_len w)
  give (cast_signed w n)

-- ---- LEB128 (DWARF 5, 7.6)

-- A string that is cut ends where its missing byte would be.
abbrev pub string_fault : Error → View → Fault → Error
string_fault bad v Cut = UnexpectedEof (record { 0 = v.first + length v.bytes })
string_fault bad v Bad = bad

-- a number and the bytes after its string
abbrev pub number_and_rest : {A : Type 0} → Error → View → Result (A × ℕ) Fault
    → Result (A × View) Error
number_and_rest bad v (Ok p) = Ok (p.0, after p.1 v)
number_and_rest bad v (Err fault) = Err (string_fault bad v fault)

-- an unsigned number in 64 bits
unfoldable pub unsigned : Parser ℕ
unsigned v = number_and_rest BadUnsignedLeb128 v (unsigned_at 10 (2 ^ 64) v.bytes)

-- an unsigned number in 16 bits, of at most three bytes
unfoldable pub unsigned_16 : Parser ℕ
unsigned_16 v = number_and_rest BadUnsignedLeb128 v (unsigned_at 3 (2 ^ 16) v.bytes)

-- an unsigned number in 32 bits
unfoldable pub unsigned_32 : Parser ℕ
unsigned_32 = do
  n ← unsigned
  branch (nat_lt n (2 ^ 32)) (give n) (fail BadUnsignedLeb128)

-- a signed number in 64 bits
unfoldable pub signed : Parser ℤ
signed v = number_and_rest BadSignedLeb128 v (signed_at v.bytes)

-- the bytes after a string of any length, whatever its number
abbrev pub rest_after_string : View → Option (List ℕ) → Result (Unit {0} × View) Error
rest_after_string v (Some string) = Ok (tt, after (length string) v)
rest_after_string v None = Err (string_fault BadUnsignedLeb128 v Cut)

unfoldable pub skip_leb : Parser (Unit {0})
skip_leb v = rest_after_string v (leb_string v.bytes)

-- ---- offsets and lengths, of a type that holds the numbers below a limit

abbrev pub offset_below : ℕ → ℕ → Result ℕ Error
offset_below limit n = if nat_lt n limit then Ok n else Err UnsupportedOffset

-- an offset of n bytes
unfoldable pub sized_offset : ℕ → ℕ → Parser ℕ
sized_offset limit n = do
  offset ← fixed n
  lift (offset_below limit offset)

-- an offset or a length of a format: four or eight bytes (DWARF 5, 7.4)
unfoldable pub word : ℕ → Format → Parser ℕ
word limit format = sized_offset limit (word_size format)

-- An initial length and its format: a word below the reserved ones for 32-bit DWARF, the escape and
-- eight more bytes for 64-bit DWARF; the words between are reserved (DWARF 5, 7.4 and 7.2.2).
abbrev pub length_of : ℕ → ℕ → Parser (ℕ × Format)
length_of limit w =
    branch (nat_lt w FIRST_RESERVED_LENGTH) (give (w, Dwarf32))
    (branch (w == DWARF64_ESCAPE) (sized_offset limit 8 >>= λ n. give (n, Dwarf64))
    (fail (UnknownReservedLength w)))

unfoldable pub initial_length : ℕ → Parser (ℕ × Format)
initial_length limit = do
  w ← fixed 4
  length_of limit w

-- ---- addresses

-- the sizes that an address may have
abbrev pub is_address_size : ℕ → Bool
is_address_size n = n == 1 || n == 2 || n == 4 || n == 8

-- a byte that is the size of an address
unfoldable pub address_size : Parser ℕ
address_size = do
  n ← fixed 1
  branch (is_address_size n) (give n) (fail (UnsupportedAddressSize n))

-- an address of n bytes
unfoldable pub address : ℕ → Parser ℕ
address n = branch (is_address_size n) (fixed n) (fail (UnsupportedAddressSize n))
