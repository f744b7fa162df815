-- What is spelled is read again, whatever follows it.
use Rattle.std.proofs.Common.{◌≡◌, ℕ, zero, suc, ◌+◌, ◌-◌, ◌*◌, ◌^◌, ◌/◌, ◌<◌, ◌≤◌, ◌%◌, true, false, List, [], ◌∷◌, ◌++◌, length, take, Some, option_map, Ok, refl, sym, ap, inl, inr, ◌∙◌, arith}
use Rattle.std.specs.Prelude.{ℤ, pos, negsuc, ◌-ℤ◌, FitsSigned}
use Rattle.std.specs.Int.{w64, int_shr}
use lib.Signed.{mag}
use Rattle.std.proofs.lemmas.Bool.{cases_lt, le-ltb, lt-ltb, le-leb, lt-leb}
use Rattle.std.proofs.lemmas.Int.{ints}
use Rattle.std.proofs.lemmas.Nat.{div_below}
use Rattle.std.proofs.Math.Nat.{pow-suc, mul_assoc, mul_comm, add-mul}
use Rattle.gimli_core_base.specs.Leb128.{leb_string, digits_from, unsigned_number, is_negative, signed_number, unsigned_at, signed_at}
use Rattle.gimli_core_base.specs.Spelling.{unsigned_within, unsigned_string, signed_digit, is_digit, signed_within, signed_string}
use Rattle.gimli_core_base.proofs.LebStrings.{string_at-last, string_at-goes_on, next_power}
use Rattle.gimli_core_base.proofs.LebSigns.{fits_i64-yes}
use Rattle.gimli_core_base.proofs.Spellings.{fewer_digits, unsigned_within-more, unsigned_within-last, signed_within-more, signed_within-last}

-- ---- the bytes are a string

found_last : (k n : ℕ) (rest : List ℕ) → n < 128 → leb_string (take (suc k) (unsigned_within (suc k) n ++ rest))
    ≡ Some (unsigned_within (suc k) n)
found_last k n rest last = rw (unsigned_within-last k n last) (string_at-last n (take k rest) last)

pub unsigned_found : (k n : ℕ) (rest : List ℕ) → n < 128 ^ suc k
    → leb_string (take (suc k) (unsigned_within (suc k) n ++ rest)) ≡ Some (unsigned_within (suc k) n)
unsigned_found zero n rest below = found_last 0 n rest (omega arith)
unsigned_found (suc j) n rest below = elim (cases_lt n 128) [
  | inl last ↦ found_last (suc j) n rest last
  | inr more ↦
      let tail = unsigned_found j (n / 128) rest (fewer_digits (suc j) n below) in
      rw (unsigned_within-more (suc j) n more)
      (string_at-goes_on (128 + n % 128) (take (suc j) (unsigned_within (suc j) (n / 128) ++ rest)) (omega arith)
      ∙ ap (option_map (λ (s : List ℕ). (128 + n % 128) ∷ s)) tail)
]

-- ---- and the number is that of its digits

split_digit : (n p q : ℕ) → q ≡ p * 128 → n % 128 * p + n / 128 * q ≡ n * p
split_digit n p q h =
    let e : n / 128 * q ≡ n / 128 * 128 * p = ap (λ (x : ℕ). n / 128 * x) (h ∙ mul_comm p 128)
    ∙ sym (mul_assoc (n / 128) 128 p) in
    let s : n % 128 + n / 128 * 128 ≡ n = omega arith in
    ap (λ (x : ℕ). n % 128 * p + x) e ∙ sym (add-mul (n % 128) (n / 128 * 128) p) ∙ ap (λ (x : ℕ). x * p) s

digits_last : (k n i : ℕ) → n < 128 → digits_from i (unsigned_within (suc k) n) ≡ n * 128 ^ i
digits_last k n i last =
    let whole : n % 128 ≡ n = omega arith in
    rw (unsigned_within-last k n last, whole) (omega arith)

pub unsigned_digits : (k n i : ℕ) → n < 128 ^ suc k → digits_from i (unsigned_within (suc k) n) ≡ n * 128 ^ i
unsigned_digits zero n i below = digits_last 0 n i (omega arith)
unsigned_digits (suc j) n i below = elim (cases_lt n 128) [
  | inl last ↦ digits_last (suc j) n i last
  | inr more ↦
      let tail = unsigned_digits j (n / 128) (i + 1) (fewer_digits (suc j) n below) in
      let digit : (128 + n % 128) % 128 ≡ n % 128 = omega arith in
      rw (unsigned_within-more (suc j) n more, tail, digit) (split_digit n (128 ^ i) (128 ^ (i + 1)) (next_power i))
]

pub unsigned_string_reads_back : (n : ℕ) (rest : List ℕ) → n < 2 ^ 64
    → unsigned_at 10 (2 ^ 64) (unsigned_string n ++ rest) ≡ Ok (n, length (unsigned_string n))
unsigned_string_reads_back n rest h =
    let below : n < 128 ^ 10 = omega arith in
    let found = unsigned_found 9 n rest below in
    let number : unsigned_number (unsigned_string n) ≡ n = unsigned_digits 9 n 0 below ∙ omega arith in
    rw (found, number, lt-ltb n (2 ^ 64) h) refl

-- ---- signed numbers

abbrev Within : ℕ → ℤ → Type 0
Within k z = mag z < 64 * 128 ^ k

small : (z : ℤ) → mag z < 64 → is_digit z ≡ true
small (pos n) h = lt-ltb n 64 h
small (negsuc n) h = lt-ltb n 64 h

large : (z : ℤ) → 64 ≤ mag z → is_digit z ≡ false
large (pos n) h = le-ltb n 64 h
large (negsuc n) h = le-ltb n 64 h

digit_below : (z : ℤ) → signed_digit z < 128
digit_below (pos n) = omega arith
digit_below (negsuc n) = omega arith

fewer_signed : (k : ℕ) (z : ℤ) → Within (suc k) z → Within k (int_shr z 7)
fewer_signed k (pos n) h =
    let e : 128 ^ suc k ≡ 128 ^ k * 128 = pow-suc 128 k in div_below n 128 (64 * 128 ^ k) (omega arith)
    (omega (arith, e, h))
fewer_signed k (negsuc n) h =
    let e : 128 ^ suc k ≡ 128 ^ k * 128 = pow-suc 128 k in div_below n 128 (64 * 128 ^ k) (omega arith)
    (omega (arith, e, h))

signed_last : (k : ℕ) (z : ℤ) (rest : List ℕ) → mag z < 64
    → leb_string (take (suc k) (signed_within (suc k) z ++ rest)) ≡ Some (signed_within (suc k) z)
signed_last k z rest last =
    rw (signed_within-last k z (small z last)) (string_at-last (signed_digit z) (take k rest) (digit_below z))

pub signed_found : (k : ℕ) (z : ℤ) (rest : List ℕ) → Within k z
    → leb_string (take (suc k) (signed_within (suc k) z ++ rest)) ≡ Some (signed_within (suc k) z)
signed_found zero z rest below = signed_last 0 z rest (omega arith)
signed_found (suc j) z rest below = elim (cases_lt (mag z) 64) [
  | inl last ↦ signed_last (suc j) z rest last
  | inr more ↦
      let tail = signed_found j (int_shr z 7) rest (fewer_signed j z below) in
      rw (signed_within-more (suc j) z (large z more))
      (string_at-goes_on (128 + signed_digit z) (take (suc j) (signed_within (suc j) (int_shr z 7) ++ rest))
      (omega arith) ∙ ap (option_map (λ (s : List ℕ). (128 + signed_digit z) ∷ s)) tail)
]

-- a string isn't empty, and its last byte has its sign
is_negative-cons : (b : ℕ) (s : List ℕ) → 0 < length s → is_negative (b ∷ s) ≡ is_negative s
is_negative-cons b [] h = absurd (omega arith)
is_negative-cons b (c ∷ s) h = refl

signed_some : (k : ℕ) (z : ℤ) → 0 < length (signed_within (suc k) z)
signed_some k z = elim (cases_lt (mag z) 64) [
  | inl last ↦ rw (signed_within-last k z (small z last)) (omega arith)
  | inr more ↦ rw (signed_within-more k z (large z more)) (omega arith)
]

-- what the digits of a number from 0 on come to
abbrev Positive : ℕ → ℕ → List ℕ → Type 0
Positive n i s = (digits_from i s ≡ n * 128 ^ i) × (is_negative s ≡ false)

positive_last : (k n i : ℕ) → n < 64 → Positive n i (signed_within (suc k) (pos n))
positive_last k n i last =
    let whole : n % 128 ≡ n = omega arith in
    let sign : is_negative (n % 128 ∷ []) ≡ false = lt-leb 64 (n % 128 % 128) (omega arith) in
    let one : signed_within (suc k) (pos n) ≡ n % 128 ∷ [] = signed_within-last k (pos n) (small (pos n) last) in
    (rw (one, whole, whole) (omega arith), rw one sign)

signed_positive : (k n i : ℕ) → Within k (pos n) → Positive n i (signed_within (suc k) (pos n))
signed_positive zero n i below = positive_last 0 n i (omega arith)
signed_positive (suc j) n i below = elim (cases_lt n 64) [
  | inl last ↦ positive_last (suc j) n i last
  | inr more ↦
      let tail = signed_positive j (n / 128) (i + 1) (fewer_signed j (pos n) below) in
      let one : signed_within (suc (suc j)) (pos n) ≡ (128 + n % 128)
      ∷ signed_within (suc j) (pos (n / 128)) = signed_within-more (suc j) (pos n) (large (pos n) more) in
      let digit : (128 + n % 128) % 128 ≡ n % 128 = omega arith in
      let sign = is_negative-cons (128 + n % 128) (signed_within (suc j) (pos (n / 128)))
      (signed_some j (pos (n / 128))) in
      (rw (one, tail.0, digit) (split_digit n (128 ^ i) (128 ^ (i + 1)) (next_power i)), rw one (sign ∙ tail.1))
]

-- The digits of a number below 0 and those of its complement make a power of 128 but for 1.
abbrev Negative : ℕ → ℕ → List ℕ → Type 0
Negative n i s = (digits_from i s + (n + 1) * 128 ^ i ≡ 128 ^ (i + length s)) × (is_negative s ≡ true)

negative_last : (k n i : ℕ) → n < 64 → Negative n i (signed_within (suc k) (negsuc n))
negative_last k n i last =
    let sign : is_negative ((127 - n % 128) ∷ []) ≡ true = le-leb 64 ((127 - n % 128) % 128) (omega arith) in
    let one : signed_within (suc k) (negsuc n) ≡ (127 - n % 128)
    ∷ [] = signed_within-last k (negsuc n) (small (negsuc n) last) in
    (rw one ends, rw one sign)
  where
    ends : digits_from i ((127 - n % 128) ∷ []) + (n + 1) * 128 ^ i ≡ 128 ^ (i + length ((127 - n % 128) ∷ []))
    ends =
        let digit : (127 - n % 128) % 128 ≡ 127 - n = omega arith in
        let place : i + length ((127 - n % 128) ∷ []) ≡ i + 1 = omega arith in
        let both : (127 - n) + (n + 1) ≡ 128 = omega arith in
        let sum : (127 - n) * 128 ^ i + (n + 1) * 128 ^ i ≡ 128 * 128 ^ i = sym (add-mul (127 - n) (n + 1) (128 ^ i))
        ∙ ap (λ (x : ℕ). x * 128 ^ i) both in
        rw (digit, place) (omega (arith, sum, next_power i))

-- one digit more in front
one_digit_more : (n i d q sum top : ℕ) → d < 128 → n ≡ q * 128 + d → sum + (q + 1) * 128 ^ (i + 1) ≡ top
    → (127 - d) * 128 ^ i + sum + (n + 1) * 128 ^ i ≡ top
one_digit_more n i d q sum top low split so_far =
    let p = 128 ^ i in
    let high : (q + 1) * 128 ^ (i + 1) ≡ (q + 1) * 128 * p = ap (λ (x : ℕ). (q + 1) * x) (next_power i ∙ mul_comm p 128)
    ∙ sym (mul_assoc (q + 1) 128 p) in
    let both : (127 - d) + (n + 1) ≡ (q + 1) * 128 = omega arith in
    let sums : (127 - d) * p + (n + 1) * p ≡ (q + 1) * 128 * p = sym (add-mul (127 - d) (n + 1) p)
    ∙ ap (λ (x : ℕ). x * p) both in
    omega (arith, high, sums, so_far)

signed_negative : (k n i : ℕ) → Within k (negsuc n) → Negative n i (signed_within (suc k) (negsuc n))
signed_negative zero n i below = negative_last 0 n i (omega arith)
signed_negative (suc j) n i below = elim (cases_lt n 64) [
  | inl last ↦ negative_last (suc j) n i last
  | inr more ↦
      let rest = signed_within (suc j) (negsuc (n / 128)) in
      let tail = signed_negative j (n / 128) (i + 1) (fewer_signed j (negsuc n) below) in
      let one : signed_within (suc (suc j)) (negsuc n) ≡ (128 + (127 - n % 128))
      ∷ rest = signed_within-more (suc j) (negsuc n) (large (negsuc n) more) in
      let digit : (128 + (127 - n % 128)) % 128 ≡ 127 - n % 128 = omega arith in
      let place : i + length ((128 + (127 - n % 128)) ∷ rest) ≡ i + 1 + length rest = omega arith in
      let sign = is_negative-cons (128 + (127 - n % 128)) rest (signed_some j (negsuc (n / 128))) in (
        rw (one, digit, place)
            (one_digit_more n i (n % 128) (n / 128) (digits_from (i + 1) rest) (128 ^ (i + 1 + length rest))
            (omega arith) (omega arith) tail.0),
        rw one (sign ∙ tail.1),
      )
]

signed_value : (z : ℤ) → Within 9 z → signed_number (signed_string z) ≡ z
signed_value (pos n) below =
    let s = signed_positive 9 n 0 below in
    rw (s.0, s.1) (omega (arith, ints))
signed_value (negsuc n) below =
    let s = signed_negative 9 n 0 below in
    let place : 0 + length (signed_string (negsuc n)) ≡ length (signed_string (negsuc n)) = omega arith in
    let sum : digits_from 0 (signed_string (negsuc n)) + (n + 1) * 1 ≡ 128 ^ length (signed_string (negsuc n)) = s.0
    ∙ ap (λ (k : ℕ). 128 ^ k) place in
    rw s.1 (less (digits_from 0 (signed_string (negsuc n))) (128 ^ length (signed_string (negsuc n)))
    (omega (arith, sum)))
  where
    less : (sum top : ℕ) → sum + (n + 1) ≡ top → pos sum -ℤ pos top ≡ negsuc n
    less sum top h = omega (arith, ints)

pub signed_string_reads_back : (z : ℤ) (rest : List ℕ) → FitsSigned w64 z
    → signed_at (signed_string z ++ rest) ≡ Ok (z, length (signed_string z))
signed_string_reads_back z rest fits =
    let below : Within 9 z = omega (arith, fits.sfits) in
    let found = signed_found 9 z rest below in
    let number = signed_value z below in
    rw (found, number, fits_i64-yes z fits) refl
