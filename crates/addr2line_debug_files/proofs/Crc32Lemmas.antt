-- What a byte does to the remainder: eight coefficients by one look at the table.
use Rattle.std.proofs.Common.{◌≡◌, ℕ, zero, suc, ◌+◌, ◌*◌, ◌/◌, ◌%◌, ◌^◌, ◌<◌, Bool, true, false, ◌&&◌, cond, eqb, List, [], ◌∷◌, ◌++◌, length, drop, get_or, refl, sym, ap, ◌∙◌, arith, drop-cons, add-one}
use Rattle.std.proofs.Math.Path.{ap₂}
use Rattle.std.proofs.lemmas.Bool.{eqb-true}
use Rattle.std.specs.Prelude.{bit_xor, bit_and}
use Rattle.std.specs.Int.Bits.{xor_assoc, xor_self, xor_zero_l, xor_zero_r, xor_shifted}
use Rattle.std.proofs.lemmas.Nat.{xor_comm, xor_shr, xor_mod, and_mask, div-add-mod', pow_pos}
use Rattle.std.proofs.Math.Nat.{mod-lt, mul-mod_left, mul-div_cancel}
use Rattle.addr2line_debug_files.specs.declared.checksum.TheConstants.{GENERATOR, REMAINDERS}
use Rattle.addr2line_debug_files.specs.Crc32.{times_x, remainder, low_bits, coefficients}

-- ---- x times a sum

-- a half, with the generator g where the digit says so
abbrev reduced : ℕ → ℕ → ℕ → ℕ
reduced g digit half = cond (eqb digit 1) (bit_xor half g) half

reduced-xor : (g d e h k : ℕ) → d < 2 → e < 2
    → reduced g (bit_xor d e) (bit_xor h k) ≡ bit_xor (reduced g d h) (reduced g e k)
reduced-xor g zero zero h k p q = refl
reduced-xor g zero (suc zero) h k p q = xor_assoc h k g
reduced-xor g (suc zero) zero h k p q = xor_assoc h k g ∙ ap (bit_xor h) (xor_comm k g) ∙ sym (xor_assoc h g k)
reduced-xor g (suc zero) (suc zero) h k p q =
    sym (xor_assoc h g (bit_xor k g) ∙ ap (λ x. bit_xor h (bit_xor g x)) (xor_comm k g)
    ∙ ap (bit_xor h) (sym (xor_assoc g g k) ∙ ap (λ x. bit_xor x k) (xor_self g) ∙ xor_zero_l k))
reduced-xor g (suc (suc d)) e h k p q = absurd (omega arith)
reduced-xor g zero (suc (suc e)) h k p q = absurd (omega arith)
reduced-xor g (suc zero) (suc (suc e)) h k p q = absurd (omega arith)

times_x-xor : (a b : ℕ) → times_x (bit_xor a b) ≡ bit_xor (times_x a) (times_x b)
times_x-xor a b =
    ap₂ (reduced GENERATOR) (xor_mod a b 1) (xor_shr a b 1)
    ∙ reduced-xor GENERATOR (a % 2) (b % 2) (a / 2) (b / 2) (omega arith) (omega arith)

times_x-double : (c : ℕ) → times_x (c * 2) ≡ c
times_x-double c =
    ap₂ (reduced GENERATOR) (mul-mod_left c 2) (mul-div_cancel c {n = 2} (omega arith))

-- ---- powers of x

unfoldable pub times_power : ℕ → ℕ → ℕ
times_power zero r = r
times_power (suc n) r = times_power n (times_x r)

times_power-xor : (n a b : ℕ) → times_power n (bit_xor a b) ≡ bit_xor (times_power n a) (times_power n b)
unfolding times_power
times_power-xor zero a b = refl
times_power-xor (suc n) a b = ap (times_power n) (times_x-xor a b) ∙ times_power-xor n (times_x a) (times_x b)

-- a multiple of 2 ^ n has no coefficient that reaches the generator
times_power-shifted : (n c : ℕ) → times_power n (c * 2 ^ n) ≡ c
unfolding times_power
times_power-shifted zero c = omega arith
times_power-shifted (suc n) c =
    ap (λ x. times_power n (times_x x)) (double c n) ∙ ap (times_power n) (times_x-double (c * 2 ^ n))
    ∙ times_power-shifted n c
  where
    double : (c n : ℕ) → c * 2 ^ suc n ≡ c * 2 ^ n * 2
    double c n = grind arith

-- a number is the sum of its high and its low part
parts : (y k : ℕ) → y ≡ bit_xor (y / 2 ^ k * 2 ^ k) (y % 2 ^ k)
parts y k = sym (xor_shifted (y / 2 ^ k) k (y % 2 ^ k) (mod-lt y (pow_pos k)) ∙ div-add-mod' y (2 ^ k))

times_power-parts : (n y : ℕ) → times_power n y ≡ bit_xor (y / 2 ^ n) (times_power n (y % 2 ^ n))
times_power-parts n y =
    ap (times_power n) (parts y n) ∙ times_power-xor n (y / 2 ^ n * 2 ^ n) (y % 2 ^ n)
    ∙ ap (λ x. bit_xor x (times_power n (y % 2 ^ n))) (times_power-shifted n (y / 2 ^ n))

-- ---- coefficients

remainder-low_bits : (n r b : ℕ) → b < 2 ^ n → remainder r (low_bits n b) ≡ times_power n (bit_xor r b)
unfolding times_power low_bits
remainder-low_bits zero r b h = sym (ap (bit_xor r) none ∙ xor_zero_r r)
  where
    none : b ≡ 0
    none = omega arith
remainder-low_bits (suc n) r b h =
    remainder-low_bits n (times_x (bit_xor r (b % 2))) (b / 2) half
    ∙ ap (times_power n) (sym (ap times_x split ∙ times_x-xor (bit_xor r (b % 2)) (b / 2 * 2)
    ∙ ap (bit_xor (times_x (bit_xor r (b % 2)))) (times_x-double (b / 2))))
  where
    half : b / 2 < 2 ^ n
    half = grind arith

    split : bit_xor r b ≡ bit_xor (bit_xor r (b % 2)) (b / 2 * 2)
    split = ap (bit_xor r) (parts b 1 ∙ xor_comm (b / 2 * 2) (b % 2)) ∙ sym (xor_assoc r (b % 2) (b / 2 * 2))

remainder-append : (r : ℕ) (xs ys : List ℕ) → remainder r (xs ++ ys) ≡ remainder (remainder r xs) ys
remainder-append r [] ys = refl
remainder-append r (x ∷ xs) ys = remainder-append (times_x (bit_xor r x)) xs ys

-- ---- the table

-- each entry, from the one of index k on, is x ^ 8 times its index
unfoldable are_remainders : ℕ → List ℕ → Bool
are_remainders k [] = true
are_remainders k (x ∷ xs) = eqb x (times_power 8 k) && are_remainders (suc k) xs

and_left : (a b : Bool) → (a && b) ≡ true → a ≡ true
and_left true b e = refl
and_left false b e = e

and_right : (a b : Bool) → (a && b) ≡ true → b ≡ true
and_right true b e = e
and_right false b e = absurd cc

entry : (k i : ℕ) (xs : List ℕ) → are_remainders k xs ≡ true → i < length xs → get_or xs i 0 ≡ times_power 8 (k + i)
unfolding are_remainders
entry k i [] e h = absurd (omega arith)
entry k zero (x ∷ xs) e h =
    eqb-true x (times_power 8 k) (and_left (eqb x (times_power 8 k)) (are_remainders (suc k) xs) e)
    ∙ ap (times_power 8) (omega arith)
entry k (suc i) (x ∷ xs) e h =
    entry (suc k) i xs (and_right (eqb x (times_power 8 k)) (are_remainders (suc k) xs) e) (omega arith)
    ∙ ap (times_power 8) (omega arith)

table_holds : are_remainders 0 REMAINDERS ≡ true
unfolding are_remainders times_power
table_holds = refl

pub table_entry : (i : ℕ) → i < 256 → get_or REMAINDERS i 0 ≡ times_power 8 i
table_entry i h = entry 0 i REMAINDERS table_holds h ∙ ap (times_power 8) (omega arith)

-- ---- a byte

pub byte_index : (y : ℕ) → bit_and y 255 < 256
byte_index y = omega (arith, and_mask y 8)

pub remainder-byte : (r b : ℕ) → b < 256
    → bit_xor (r / 256) (get_or REMAINDERS (bit_and (bit_xor r b) 255) 0) ≡ remainder r (low_bits 8 b)
remainder-byte r b h =
    sym (remainder-low_bits 8 r b h ∙ times_power-parts 8 (bit_xor r b) ∙ ap₂ bit_xor high low)
  where
    none : b / 256 ≡ 0
    none = omega arith

    high : bit_xor r b / 256 ≡ r / 256
    high = xor_shr r b 8 ∙ ap (bit_xor (r / 256)) none ∙ xor_zero_r (r / 256)

    low : times_power 8 (bit_xor r b % 256) ≡ get_or REMAINDERS (bit_and (bit_xor r b) 255) 0
    low =
        sym (table_entry (bit_and (bit_xor r b) 255) (byte_index (bit_xor r b))
        ∙ ap (times_power 8) (and_mask (bit_xor r b) 8))

-- ---- a text

pub remainder-next : (r : ℕ) (bytes : List ℕ) (i : ℕ) → i < length bytes
    → remainder r (coefficients (drop i bytes))
    ≡ remainder (remainder r (low_bits 8 (get_or bytes i 0))) (coefficients (drop (i + 1) bytes))
remainder-next r bytes i h =
    ap (λ (l : List ℕ). remainder r (coefficients l)) (drop-cons bytes i 0 h)
    ∙ remainder-append r (low_bits 8 (get_or bytes i 0)) (coefficients (drop (suc i) bytes))
    ∙ ap (λ (n : ℕ). remainder (remainder r (low_bits 8 (get_or bytes i 0))) (coefficients (drop n bytes)))
    (sym (add-one i))
