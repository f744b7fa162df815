-- The LEB128 string that is written of a number: the shortest one (DWARF 5, 7.6).
use Rattle.std.specs.Prelude.{ℕ, ℤ, pos, negsuc, zero, suc, ◌+◌, ◌-◌, ◌/◌, ◌%◌, nat_lt, Bool, List, [], ◌∷◌, if◌then◌else◌}
use Rattle.std.specs.Int.{int_shr}

-- the digits of a number, the lowest first, each but the last with 128 added; of at most k bytes
unfoldable pub unsigned_within : ℕ → ℕ → List ℕ
unsigned_within zero n = []
unsigned_within (suc k) n =
    if nat_lt n 128 then n ∷ [] else (128 + n % 128) ∷ unsigned_within k (n / 128)

-- the string of a number of 64 bits
abbrev pub unsigned_string : ℕ → List ℕ
unsigned_string n = unsigned_within 10 n

-- the lowest seven bits of a number in two's complement: below 0 it has the bits of its complement,
-- each turned
abbrev pub signed_digit : ℤ → ℕ
signed_digit (pos n) = n % 128
signed_digit (negsuc n) = 127 - n % 128

-- seven bits hold the number and its sign
abbrev pub is_digit : ℤ → Bool
is_digit (pos n) = nat_lt n 64
is_digit (negsuc n) = nat_lt n 64

-- the digits of a signed number in two's complement; of at most k bytes
unfoldable pub signed_within : ℕ → ℤ → List ℕ
signed_within zero z = []
signed_within (suc k) z =
    if is_digit z then signed_digit z ∷ [] else (128 + signed_digit z)
    ∷ signed_within k (int_shr z 7)

-- the string of a signed number of 64 bits
abbrev pub signed_string : ℤ → List ℕ
signed_string z = signed_within 10 z
