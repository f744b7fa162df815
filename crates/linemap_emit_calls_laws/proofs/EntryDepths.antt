-- The depths of entries.
use Rattle.std.proofs.Common.{◌≡◌, ℕ, ◌+◌, ℤ, pos, ◌+ℤ◌, ◌-ℤ◌, arith}
use Rattle.std.proofs.lemmas.Int.{ints}

pub deeper : (n : ℕ) → (pos n +ℤ pos 1) ≡ pos (n + 1)
deeper n = omega (arith, ints)

pub less_deep : (n : ℕ) → (pos (n + 1) -ℤ pos 1) ≡ pos n
less_deep n = omega (arith, ints)
