-- Addresses of a size of 1, 2, 4 or 8 bytes.
use Rattle.std.specs.Prelude.{ℕ, ◌-◌, ◌*◌, ◌^◌, ◌%◌, nat_le, Bool}

-- all ones
abbrev pub greatest_address : ℕ → ℕ
greatest_address size = 2 ^ (8 * size) - 1

-- The least of the addresses that stand for no address: linkers write the two greatest for code
-- that they dropped.
abbrev pub least_tombstone : ℕ → ℕ
least_tombstone size = 2 ^ (8 * size) - 2

abbrev pub is_tombstone : ℕ → ℕ → Bool
is_tombstone size address = nat_le (least_tombstone size) address

-- a sum in the address size
abbrev pub wrap : ℕ → ℕ → ℕ
wrap size n = n % 2 ^ (8 * size)
