-- The sign of a LEB128 string.
use Rattle.std.proofs.Common.{◌≡◌, ℕ, zero, suc, ◌+◌, ◌-◌, ◌*◌, ◌^◌, ◌<◌, ◌≤◌, ◌/◌, ◌%◌, true, false, cond, leb, ltb, List, [], ◌∷◌, ◌++◌, length, get_or, take, drop, Ok, Err, refl, sym, ap, subst, ◌∙◌, arith, inl, inr}
use Rattle.std.specs.Prelude.{◌≢◌, ℤ, pos, negsuc, ◌-ℤ◌, FitsSigned}
use mir.Val.{to_z}
use Rattle.std.specs.Int.{w64}
use Rattle.std.proofs.lemmas.Bool.{cases_lt, le-ltb, lt-ltb, le-leb, lt-leb}
use Rattle.std.proofs.lemmas.Int.{ints, to_z_pos}
use Rattle.std.proofs.lemmas.List.{length-take-le, length-append}
use Rattle.std.proofs.Math.Nat.{pow-succ', pow-le-pow_right, mul-le-mul_right}
use Rattle.gimli_core_base.specs.declared.leb128.Fault.TheVariants.{Bad}
use Rattle.gimli_core_base.specs.Leb128.{unsigned_number, is_negative, signed_number, fits_i64, bounded_string, signed_at}
use Rattle.gimli_core_base.proofs.LebStrings.{pow128, unsigned_number-push, unsigned_number-below, take_at_place, drop_at_place, NextDigit, judged_from, judged_from-long, judged_from-end}

pub is_negative-push : (front : List ℕ) (b : ℕ) → is_negative (front ++ b ∷ []) ≡ leb 64 (b % 128)
is_negative-push [] b = refl
is_negative-push (a ∷ []) b = refl
is_negative-push (a ∷ c ∷ front) b = is_negative-push (c ∷ front) b

pub fits_i64-yes : (z : ℤ) → FitsSigned w64 z → fits_i64 z ≡ true
fits_i64-yes (pos n) h = lt-ltb n (2 ^ 63) h.sfits
fits_i64-yes (negsuc n) h = lt-ltb n (2 ^ 63) h.sfits

pub fits_i64-no : (z : ℤ) → (FitsSigned w64 z → ⊥) → fits_i64 z ≡ false
fits_i64-no (pos n) h =
    elim (cases_lt n (2 ^ 63)) [ inl lt ↦ absurd (h (record { sfits = lt })) | inr le ↦ le-ltb n (2 ^ 63) le ]
fits_i64-no (negsuc n) h =
    elim (cases_lt n (2 ^ 63)) [ inl lt ↦ absurd (h (record { sfits = lt })) | inr le ↦ le-ltb n (2 ^ 63) le ]

-- one byte more, of either sign
pub signed_number-positive : (front : List ℕ) (b : ℕ) → b % 128 < 64
    → signed_number (front ++ b ∷ []) ≡ pos (unsigned_number (front ++ b ∷ []))
signed_number-positive front b h = rw (is_negative-push front b, lt-leb 64 (b % 128) h) (omega (arith, ints))

pub signed_number-negative : (front : List ℕ) (b : ℕ) → 64 ≤ b % 128
    → signed_number (front ++ b ∷ []) ≡ pos (unsigned_number (front ++ b ∷ [])) -ℤ pos (128 ^ length (front ++ b ∷ []))
signed_number-negative front b h = rw (is_negative-push front b, le-leb 64 (b % 128) h) refl

-- a string that ends with its number in range, and one that doesn't
pub signed_ends : (bytes string : List ℕ) (z : ℤ) (n : ℕ) → bounded_string 10 bytes ≡ Ok string
    → z ≡ signed_number string → n ≡ length string → FitsSigned w64 z → Ok (z, n) ≡ signed_at bytes
signed_ends bytes string z n found is_z is_n fits =
    let test : fits_i64 (signed_number string) ≡ true = ap fits_i64 (sym is_z) ∙ fits_i64-yes z fits in
    rw (found, test, ← is_z, ← is_n) refl

pub signed_refused : (bytes string : List ℕ) → bounded_string 10 bytes ≡ Ok string
    → (FitsSigned w64 (signed_number string) → ⊥) → Err Bad ≡ signed_at bytes
signed_refused bytes string found past = rw (found, fits_i64-no (signed_number string) past) refl

-- half of what bit 6 of the last byte takes away
pub record IsHalf (half n last : ℕ) : Type 0 where
  pub two_halves : 2 * half ≡ cond (ltb last 64) 0 (128 ^ n)
  pub fits : half ≤ 2 ^ 62

pub half_is : (n last bit : ℕ) → 0 < n → n ≤ 9 → last < 128 → bit ≡ last / 64
    → IsHalf (bit * 2 ^ (7 * n - 1) % 2 ^ 64) n last
half_is zero last bit some short below is = absurd (omega arith)
half_is (suc n) last bit some short below is = elim (cases_lt last 64) [
  | inl low ↦
      let none : bit ≡ 0 = omega (arith, is, low) in
      subst (λ (k : ℕ). IsHalf (k * 2 ^ (7 * suc n - 1) % 2 ^ 64) (suc n) last) (sym none)
      (record { two_halves = rw (lt-ltb last 64 low) (omega arith); fits = omega arith })
  | inr set ↦
      let one : bit ≡ 1 = omega (arith, is, set, below) in
      let top : 2 ^ (7 * suc n - 1) ≤ 2 ^ 62 = pow-le-pow_right {n = 2} (omega arith) {i = 7 * suc n - 1} {j = 62}
      (omega arith) in
      let more : 7 * suc n ≡ suc (7 * suc n - 1) = omega arith in
      let twice : 128 ^ suc n ≡ 2 * 2 ^ (7 * suc n - 1) = pow128 (suc n) ∙ ap (λ (e : ℕ). 2 ^ e) more
      ∙ pow-succ' 2 (7 * suc n - 1) in
      subst (λ (k : ℕ). IsHalf (k * 2 ^ (7 * suc n - 1) % 2 ^ 64) (suc n) last) (sym one)
      (record { two_halves = rw (le-ltb last 64 set) (omega (arith, top, twice)); fits = omega (arith, top) })
]

pub nine_sevens : (n : ℕ) → n ≤ 9 → 128 ^ n ≤ 2 ^ 63
nine_sevens n short =
    let top : 128 ^ n ≤ 128 ^ 9 = pow-le-pow_right {n = 128} (omega arith) {i = n} {j = 9} (omega arith) in
    omega (arith, top)

-- ---- a string that ends at place i, short of the tenth byte

positive_ends : (bytes : List ℕ) (i next : ℕ) → i < length bytes → NextDigit bytes i next → get_or bytes i 0 < 64
    → bounded_string 10 bytes ≡ Ok (take (i + 1) bytes) → Ok (to_z w64 next, i + 1) ≡ signed_at bytes
positive_ends bytes i next inside digit low found =
    let is_z : to_z w64 next ≡ signed_number (take (i + 1) bytes) =
    to_z_pos w64 next digit.fits ∙ ap pos digit.number
    ∙ sym (rw (take_at_place bytes i inside)
    (signed_number-positive (take i bytes) (get_or bytes i 0) (omega arith))) in
    signed_ends bytes (take (i + 1) bytes) (to_z w64 next) (i + 1) found is_z
    (sym (length-take-le (i + 1) bytes (omega arith)))
    (rw (to_z_pos w64 next digit.fits) (record { sfits = digit.fits }))

negative_ends : (bytes : List ℕ) (i next : ℕ) (z : ℤ) → i < length bytes → i ≤ 8 → NextDigit bytes i next
    → 64 ≤ get_or bytes i 0 → get_or bytes i 0 < 128 → bounded_string 10 bytes ≡ Ok (take (i + 1) bytes)
    → z ≡ pos next -ℤ pos (128 ^ (i + 1)) → Ok (z, i + 1) ≡ signed_at bytes
negative_ends bytes i next z inside short digit set last found z-is =
    let len : length (take (i + 1) bytes) ≡ i + 1 = length-take-le (i + 1) bytes (omega arith) in
    let signs : signed_number (take (i + 1) bytes)
    ≡ pos (unsigned_number (take (i + 1) bytes)) -ℤ pos (128 ^ length (take (i + 1) bytes)) =
    rw (take_at_place bytes i inside) (signed_number-negative (take i bytes) (get_or bytes i 0) (omega arith)) in
    let is_z : z ≡ signed_number (take (i + 1) bytes) = rw (signs, len, ← digit.number) z-is in
    let whole = nine_sevens (i + 1) (omega arith) in
    signed_ends bytes (take (i + 1) bytes) z (i + 1) found is_z (sym len)
    (omega (arith, ints, z-is, whole, digit.below))

-- of either sign
pub number_ends : (bytes : List ℕ) (i next : ℕ) (z : ℤ) → i < length bytes → i ≤ 8 → NextDigit bytes i next
    → get_or bytes i 0 < 128 → bounded_string 10 bytes ≡ Ok (take (i + 1) bytes)
    → z ≡ pos next -ℤ pos (cond (ltb (get_or bytes i 0) 64) 0 (128 ^ (i + 1))) → Ok (z, i + 1) ≡ signed_at bytes
number_ends bytes i next z inside short digit last found z-is = elim (cases_lt (get_or bytes i 0) 64) [
  | inl low ↦
      let less : z ≡ pos next -ℤ pos 0 =
      z-is ∙ ap (λ b. pos next -ℤ pos (cond b 0 (128 ^ (i + 1)))) (lt-ltb (get_or bytes i 0) 64 low) in
      let is : z ≡ pos next = omega (arith, ints, less) in
      ap (λ (k : ℤ). Ok (k, i + 1)) (is ∙ sym (to_z_pos w64 next digit.fits))
      ∙ positive_ends bytes i next inside digit low found
  | inr set ↦
      negative_ends bytes i next z inside short digit set last found
      (z-is ∙ ap (λ b. pos next -ℤ pos (cond b 0 (128 ^ (i + 1)))) (le-ltb (get_or bytes i 0) 64 set))
]

-- ---- the tenth byte

-- the number of the nine bytes before it, and the string that it ends
pub record Tenth (bytes : List ℕ) (n : ℕ) : Type 0 where
  pub inside : 9 < length bytes
  pub number : n ≡ unsigned_number (take 9 bytes)
  pub below : n < 2 ^ 63
  pub judges : judged_from 1 (take 9 bytes) (drop 9 bytes) ≡ bounded_string 10 bytes

tenth_ends : (bytes : List ℕ) (n : ℕ) → Tenth bytes n → get_or bytes 9 0 < 128
    → bounded_string 10 bytes ≡ Ok (take 9 bytes ++ get_or bytes 9 0 ∷ [])
tenth_ends bytes n tenth last =
    judged_from-end 10 bytes 9 (bounded_string 10 bytes) tenth.inside (omega arith) last tenth.judges
    ∙ ap Ok (take_at_place bytes 9 tenth.inside)

tenth_sum : (bytes : List ℕ) (n : ℕ) → Tenth bytes n → get_or bytes 9 0 < 128
    → unsigned_number (take 9 bytes ++ get_or bytes 9 0 ∷ []) ≡ n + get_or bytes 9 0 * 2 ^ 63
tenth_sum bytes n tenth last =
    let len : length (take 9 bytes) ≡ 9 = length-take-le 9 bytes (omega (arith, tenth.inside)) in
    rw (unsigned_number-push (take 9 bytes) (get_or bytes 9 0), len, ← tenth.number) (omega arith)

tenth_length : (bytes : List ℕ) (n : ℕ) → Tenth bytes n → length (take 9 bytes ++ get_or bytes 9 0 ∷ []) ≡ 10
tenth_length bytes n tenth =
    let len : length (take 9 bytes) ≡ 9 = length-take-le 9 bytes (omega (arith, tenth.inside)) in
    length-append (take 9 bytes) (get_or bytes 9 0 ∷ []) ∙ omega (arith, len)

-- with variables for the powers
less_tenth : (n m k h : ℕ) → h ≡ 2 ^ 63 → m ≡ n + 127 * h → k ≡ 128 * h → pos m -ℤ pos k ≡ pos n -ℤ pos h
less_tenth n m k h is_h is_m is_k = omega (arith, ints)

past_high : (m : ℕ) → 2 ^ 63 ≤ m → FitsSigned w64 (pos m) → ⊥
past_high m h fits = omega (arith, fits.sfits)

past_low : (n d m k h : ℕ) → h ≡ 2 ^ 63 → n < h → d ≤ 126 → m ≡ n + d * h → k ≡ 128 * h
    → FitsSigned w64 (pos m -ℤ pos k) → ⊥
past_low n d m k h is_h below low is_m is_k fits =
    let most : d * h ≤ 126 * h = mul-le-mul_right h low in
    omega (arith, ints, most, fits)

pub tenth_negative : (bytes : List ℕ) (n : ℕ) (z : ℤ) → Tenth bytes n → get_or bytes 9 0 ≡ 127
    → z ≡ pos n -ℤ pos (2 ^ 63) → Ok (z, 10) ≡ signed_at bytes
tenth_negative bytes n z tenth is_127 z-is =
    let string = take 9 bytes ++ get_or bytes 9 0 ∷ [] in
    let sum : unsigned_number string ≡ n + 127 * 2 ^ 63 = tenth_sum bytes n tenth (omega arith)
    ∙ ap (λ (b : ℕ). n + b * 2 ^ 63) is_127 in
    let len = tenth_length bytes n tenth in
    let worth : 128 ^ length string ≡ 128 * 2 ^ 63 = ap (λ (k : ℕ). 128 ^ k) len in
    let is_z : z ≡ signed_number string =
    z-is ∙ sym (signed_number-negative (take 9 bytes) (get_or bytes 9 0) (omega arith) ∙ less_tenth n
    (unsigned_number string) (128 ^ length string) (2 ^ 63) refl sum worth) in
    signed_ends bytes string z 10 (tenth_ends bytes n tenth (omega arith)) is_z (sym len)
    (omega (arith, ints, z-is, tenth.below))

pub tenth_refused : (bytes : List ℕ) (n : ℕ) → Tenth bytes n → get_or bytes 9 0 ≢ 0 → get_or bytes 9 0 ≢ 127
    → Err Bad ≡ signed_at bytes
tenth_refused bytes n tenth not_0 not_127 = elim (cases_lt (get_or bytes 9 0) 128) [
  | inl last ↦
      let string = take 9 bytes ++ get_or bytes 9 0 ∷ [] in
      let sum = tenth_sum bytes n tenth last in
      let worth : 128 ^ length string ≡ 128 * 2 ^ 63 = ap (λ (k : ℕ). 128 ^ k) (tenth_length bytes n tenth) in
      signed_refused bytes string (tenth_ends bytes n tenth last) (λ fits. elim (cases_lt (get_or bytes 9 0) 64) [
        | inl low ↦ past_high (unsigned_number string) (omega (arith, sum))
            (rw (← signed_number-positive (take 9 bytes) (get_or bytes 9 0) (omega arith)) fits)
        | inr set ↦ past_low n (get_or bytes 9 0) (unsigned_number string) (128 ^ length string) (2 ^ 63) refl
            tenth.below (omega arith) sum worth
            (rw (← signed_number-negative (take 9 bytes) (get_or bytes 9 0) (omega arith)) fits)
      ])
  | inr goes ↦
      let long : bounded_string 10 bytes ≡ Err Bad = sym tenth.judges
      ∙ rw (drop_at_place bytes 9 tenth.inside)
      (judged_from-long (take 9 bytes) (get_or bytes 9 0) (drop 10 bytes) goes) in
      rw long refl
]

-- what a loop knows at the tenth byte
pub tenth : (bytes : List ℕ) (i n : ℕ) → i ≡ 9 → i < length bytes → n ≡ unsigned_number (take i bytes)
    → judged_from (10 - i) (take i bytes) (drop i bytes) ≡ bounded_string 10 bytes → Tenth bytes n
tenth bytes i n at_9 inside number judges =
    let inside' : 9 < length bytes = omega arith in
    let number' : n ≡ unsigned_number (take 9 bytes) = subst (λ (k : ℕ). n ≡ unsigned_number (take k bytes)) at_9 number
    in
    let judges' : judged_from 1 (take 9 bytes) (drop 9 bytes)
    ≡ bounded_string 10 bytes = subst
    (λ (k : ℕ). judged_from (10 - k) (take k bytes) (drop k bytes) ≡ bounded_string 10 bytes) at_9 judges in
    let len : length (take 9 bytes) ≡ 9 = length-take-le 9 bytes (omega arith) in
    let bound : unsigned_number (take 9 bytes) < 128 ^ 9 = subst (λ (k : ℕ). unsigned_number (take 9 bytes) < 128 ^ k)
    len (unsigned_number-below (take 9 bytes)) in
    record { inside = inside'; number = number'; below = omega (arith, bound, number'); judges = judges' }
