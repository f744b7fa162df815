-- Some address of each size is no tombstone.
use Rattle.std.proofs.Common.{◌≡◌, ℕ, ◌+◌, ◌-◌, ◌*◌, ◌^◌, ◌<◌, ap, ◌∙◌, arith, IsTrue}
use Rattle.std.proofs.lemmas.Nat.{pow-add, pow_pos}
use Rattle.gimli_core_readers.specs.NumberParsers.{is_address_size}
use Rattle.gimli_core_readers.proofs.ByteCountLemmas.{some_size}
use Rattle.gimli_core_readers.specs.Addresses.{least_tombstone}

pub zero_below_tombstones : (size : ℕ) → IsTrue (is_address_size size) → 0 < least_tombstone size
zero_below_tombstones size is =
    let some = some_size size is in
    let bits : 8 * size ≡ (8 * size - 2) + 2 = omega arith in
    let power : 2 ^ (8 * size) ≡ 2 ^ (8 * size - 2) * 4 = ap (λ n. 2 ^ n) bits ∙ pow-add 2 (8 * size - 2) 2 in
    let more = pow_pos (8 * size - 2) in
    omega (arith, power, more)
