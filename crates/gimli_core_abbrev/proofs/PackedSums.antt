-- Sums of widths that are packed into one number.
use Rattle.std.proofs.Common.{◌≡◌, ℕ, zero, suc, ◌+◌, ◌*◌, ◌/◌, ◌%◌, ◌<◌, ◌≤◌, ap, ◌∙◌, arith}
use Rattle.gimli_core_abbrev.specs.declared.widths.FixedWidths.{FixedWidths}
use Rattle.gimli_core_abbrev.specs.declared.widths.PackedWidths.{PackedWidths}
use Rattle.gimli_core_abbrev.specs.FormWidths.{AreBytes, sum_of_widths, widths_in}

abbrev packed : ℕ → PackedWidths
packed n = record { 0 = n }

of_counts : ℕ → ℕ → ℕ → ℕ → FixedWidths
of_counts n addresses offsets attributes =
    record { bytes = n; addresses = addresses; offsets = offsets; attributes = attributes }

-- where the low bytes add up to a byte, the other bytes add up by themselves
low_bytes : (n m : ℕ) → n % 256 + m % 256 < 256 → (n + m) % 256 ≡ n % 256 + m % 256
low_bytes n m fit = omega (arith, fit)

other_bytes : (n m : ℕ) → n % 256 + m % 256 < 256 → (n + m) / 256 ≡ n / 256 + m / 256
other_bytes n m fit = omega (arith, fit)

same_counts : (v w : FixedWidths) → v.bytes ≡ w.bytes → v.addresses ≡ w.addresses → v.offsets ≡ w.offsets
    → v.attributes ≡ w.attributes → v ≡ w
unfolding of_counts
same_counts v w bytes addresses offsets attributes =
    ap (λ (n : ℕ). of_counts n v.addresses v.offsets v.attributes) bytes
    ∙ ap (λ (n : ℕ). of_counts w.bytes n v.offsets v.attributes) addresses
    ∙ ap (λ (n : ℕ). of_counts w.bytes w.addresses n v.attributes) offsets
    ∙ ap (λ (n : ℕ). of_counts w.bytes w.addresses w.offsets n) attributes

-- one more
one_added : (n m : ℕ) → AreBytes (sum_of_widths (widths_in (packed n)) 1 (widths_in (packed m)))
    → widths_in (packed (n + m)) ≡ sum_of_widths (widths_in (packed n)) 1 (widths_in (packed m))
one_added n m fit =
    let first : n % 256 + m % 256 < 256 = omega (arith, fit.0) in
    let next : n / 256 % 256 + m / 256 % 256 < 256 = omega (arith, fit.1) in
    let third : n / 256 / 256 % 256 + m / 256 / 256 % 256 < 256 = omega (arith, fit.2) in
    let last : n / 256 / 256 / 256 % 256 + m / 256 / 256 / 256 % 256 < 256 = omega (arith, fit.3) in
    let from_next = other_bytes n m first in
    let from_third = ap (λ (k : ℕ). k / 256) from_next ∙ other_bytes (n / 256) (m / 256) next in
    let from_last = ap (λ (k : ℕ). k / 256) from_third ∙ other_bytes (n / 256 / 256) (m / 256 / 256) third in
    let bytes = low_bytes n m first in
    let addresses = ap (λ (k : ℕ). k % 256) from_next ∙ low_bytes (n / 256) (m / 256) next in
    let offsets = ap (λ (k : ℕ). k % 256) from_third ∙ low_bytes (n / 256 / 256) (m / 256 / 256) third in
    let attributes =
    ap (λ (k : ℕ). k % 256) from_last ∙ low_bytes (n / 256 / 256 / 256) (m / 256 / 256 / 256) last in
    same_counts _ _ (omega (arith, bytes)) (omega (arith, addresses)) (omega (arith, offsets))
    (omega (arith, attributes))

pub sum_packed : (n m count : ℕ) → count ≤ 1
    → AreBytes (sum_of_widths (widths_in (packed n)) count (widths_in (packed m)))
    → widths_in (packed (n + count * m)) ≡ sum_of_widths (widths_in (packed n)) count (widths_in (packed m))
sum_packed n m zero less fit =
    same_counts _ _ (omega arith) (omega arith) (omega arith) (omega arith)
sum_packed n m (suc zero) less fit =
    ap (λ (k : ℕ). widths_in (packed (n + k))) (omega arith) ∙ one_added n m fit
sum_packed n m (suc (suc count)) less fit = absurd (omega (arith, less))
