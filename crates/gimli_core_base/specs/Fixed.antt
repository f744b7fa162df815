-- Numbers of a fixed width as bytes (DWARF 5, 7.1): a list of bytes is a list of numbers below 256.
use Rattle.std.specs.Prelude.{ℕ, ◌+◌, ◌*◌, ◌^◌, Bool, List, [], ◌∷◌, length, if◌then◌else◌}
use Rattle.std.specs.Int.{bytes_low_first, bytes_high_first}

-- the lowest byte first: each byte counts 256 times as much as the one before it
abbrev pub little : List ℕ → ℕ
little [] = 0
little (b ∷ bs) = b + 256 * little bs

-- the highest byte first: each byte counts 256 ^ n where n bytes follow it
abbrev pub big : List ℕ → ℕ
big [] = 0
big (b ∷ bs) = b * 256 ^ length bs + big bs

-- the number of the bytes in an order
abbrev pub number : Bool → List ℕ → ℕ
number is_big bytes = if is_big then big bytes else little bytes

-- the n bytes of a number below 256 ^ n in an order
abbrev pub number_bytes : Bool → ℕ → ℕ → List ℕ
number_bytes is_big n x = if is_big then bytes_high_first n x else bytes_low_first 0 n x
