-- Sums in the size of an address.
use Rattle.std.proofs.Common.{◌≡◌, ℕ, ◌+◌, ◌-◌, ◌*◌, ◌≤◌, ◌%◌, ◌^◌, sym, ap, ◌∙◌, arith, IsTrue, bit_and}
use Rattle.std.proofs.lemmas.Nat.{and_mask}
use Rattle.std.proofs.Math.Pow.{mod-mod-pow}
use Rattle.std.proofs.lemmas.Bool.Decides.{nat_tests}
use Rattle.gimli_core_base.specs.NumberParsers.{is_address_size}
use Rattle.gimli_core_readers.specs.Addresses.{wrap}

-- an address has at most eight bytes
pub at_most_eight : (size : ℕ) → IsTrue (is_address_size size) → size ≤ 8
at_most_eight size is = grind (arith, nat_tests)

-- a number of so many bits, of one of more
pub mod_mod : (n bits k m : ℕ) → k + m ≡ bits → n % 2 ^ bits % 2 ^ m ≡ n % 2 ^ m
mod_mod n bits k m e = ap (λ b. n % 2 ^ b % 2 ^ m) (sym e) ∙ mod-mod-pow n k m

-- what is left of a sum of 64 bits under a mask
pub mask_wraps : (size n : ℕ) → IsTrue (is_address_size size) → bit_and (n % 2 ^ 64) (2 ^ (8 * size) - 1) ≡ wrap size n
mask_wraps size n is =
    let small = at_most_eight size is in
    and_mask (n % 2 ^ 64) (8 * size) ∙ mod_mod n 64 (64 - 8 * size) (8 * size) (omega arith)
