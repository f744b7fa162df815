-- How a loop spells a number, digit by digit.
use Rattle.std.proofs.Common.{◌≡◌, ℕ, suc, true, false, ◌+◌, ◌-◌, ◌*◌, ◌^◌, ◌/◌, ◌<◌, ◌≤◌, ◌%◌, List, [], ◌∷◌, ◌++◌, length, take, set, refl, sym, ap, subst, inl, inr, ◌∙◌, append_assoc, arith}
use Rattle.std.specs.Prelude.{ℤ, pos, negsuc}
use Rattle.std.specs.Int.{w64, int_shr}
use lib.Signed.{mag, shr_z, mag_shr}
use mir.Val.{SFits, to_z, of_z}
use Rattle.std.proofs.lemmas.Int.{to_z-of_z}
use Rattle.std.proofs.Math.Facts.{sfits_to_z}
use Rattle.std.proofs.lemmas.Bool.{cases_lt, le-ltb, lt-ltb, ltb-false}
use Rattle.std.proofs.lemmas.List.{take_more_set, length-set}
use Rattle.std.proofs.lemmas.Nat.{div_below}
use Rattle.std.proofs.Math.Nat.{pow-suc}
use Rattle.gimli_core_base.specs.Spelling.{unsigned_within, signed_within, signed_digit, is_digit}

pub unsigned_within-more : (k n : ℕ) → 128 ≤ n → unsigned_within (suc k) n ≡ (128 + n % 128)
    ∷ unsigned_within k (n / 128)
unfolding unsigned_within
unsigned_within-more k n h = rw (le-ltb n 128 h) refl

pub unsigned_within-last : (k n : ℕ) → n < 128 → unsigned_within (suc k) n ≡ n ∷ []
unfolding unsigned_within
unsigned_within-last k n h = rw (lt-ltb n 128 h) refl

-- a digit fewer is a power less
pub fewer_digits : (k n : ℕ) → n < 128 ^ suc k → n / 128 < 128 ^ k
fewer_digits k n h = div_below n 128 (128 ^ k) (omega arith) (rw (← pow-suc 128 k) h)

-- the string goes on: room is left, and what is spelled so far has one byte more
pub record GoesOn (bytes : List ℕ) (len b rest : ℕ) (tail string : List ℕ) : Type 0 where
  pub short : len + 1 ≤ 9
  pub below : rest < 128 ^ (10 - (len + 1))
  pub spells : take (len + 1) (set bytes len b) ++ tail ≡ string

-- one byte more in front of the rest
pub push_front : (bytes tail : List ℕ) (len b : ℕ) → len < length bytes
    → take (len + 1) (set bytes len b) ++ tail ≡ take len bytes ++ b ∷ tail
push_front bytes tail len b room = rw (take_more_set bytes len b room) (append_assoc (take len bytes) (b ∷ []) tail)

room_left : (len n : ℕ) → len ≤ 9 → 128 ≤ n → n < 128 ^ (10 - len) → len + 1 ≤ 9
room_left len n short more below = elim (cases_lt len 9) [
  | inl lt ↦ omega arith
  | inr ge ↦
      let ninth : len ≡ 9 = omega arith in
      let few : n < 128 = subst (λ (k : ℕ). n < 128 ^ (10 - k)) ninth below in
      absurd (omega arith)
]

pub unsigned_goes_on : (bytes string : List ℕ) (len b n : ℕ) → length bytes ≡ 10 → len ≤ 9 → 128 ≤ n → b ≡ n % 128 + 128
    → n < 128 ^ (10 - len) → take len bytes ++ unsigned_within (10 - len) n ≡ string
    → GoesOn bytes len b (n / 128) (unsigned_within (10 - (len + 1)) (n / 128)) string
unsigned_goes_on bytes string len b n ten short more is_b below so_far =
    let left : 10 - len ≡ suc (10 - (len + 1)) = omega arith in
    let byte : b ≡ 128 + n % 128 = omega arith in
    let one : unsigned_within (10 - len) n ≡ b
    ∷ unsigned_within (10 - (len + 1)) (n / 128) = rw (left, byte) (unsigned_within-more (10 - (len + 1)) n more) in
    record {
      short = room_left len n short more below;
      below = fewer_digits (10 - (len + 1)) n (rw (← left) below);
      spells = push_front bytes (unsigned_within (10 - (len + 1)) (n / 128)) len b (omega arith)
          ∙ ap (λ (s : List ℕ). take len bytes ++ s) (sym one) ∙ so_far;
    }

pub unsigned_stops : (bytes string : List ℕ) (len n : ℕ) → length bytes ≡ 10 → len ≤ 9 → n < 128
    → take len bytes ++ unsigned_within (10 - len) n ≡ string → take (len + 1) (set bytes len n) ≡ string
unsigned_stops bytes string len n ten short last so_far =
    let left : 10 - len ≡ suc (10 - (len + 1)) = omega arith in
    let one : unsigned_within (10 - len) n ≡ n ∷ [] = rw left (unsigned_within-last (10 - (len + 1)) n last) in
    take_more_set bytes len n (omega arith) ∙ ap (λ (s : List ℕ). take len bytes ++ s) (sym one) ∙ so_far

-- ---- signed numbers

pub signed_within-more : (k : ℕ) (z : ℤ) → is_digit z ≡ false
    → signed_within (suc k) z ≡ (128 + signed_digit z) ∷ signed_within k (int_shr z 7)
unfolding signed_within
signed_within-more k z h = rw h refl

pub signed_within-last : (k : ℕ) (z : ℤ) → is_digit z ≡ true → signed_within (suc k) z ≡ signed_digit z ∷ []
unfolding signed_within
signed_within-last k z h = rw h refl

-- a number that is no digit is large, and the rest of it is smaller
large : (z : ℤ) → is_digit z ≡ false → 64 ≤ mag z
large (pos n) h = ltb-false n 64 h
large (negsuc n) h = ltb-false n 64 h

pub mag-shr : (z : ℤ) → mag (int_shr z 7) ≡ mag z / 128
mag-shr (pos n) = refl
mag-shr (negsuc n) = refl

fewer_signed : (k n : ℕ) → n < 64 * 128 ^ suc k → n / 128 < 64 * 128 ^ k
fewer_signed k n h =
    let e : 128 ^ suc k ≡ 128 ^ k * 128 = pow-suc 128 k in
    div_below n 128 (64 * 128 ^ k) (omega arith) (omega (arith, e, h))

signed_room : (len n : ℕ) → len ≤ 9 → 64 ≤ n → n < 64 * 128 ^ (9 - len) → len + 1 ≤ 9
signed_room len n short more below = elim (cases_lt len 9) [
  | inl lt ↦ omega arith
  | inr ge ↦
      let ninth : len ≡ 9 = omega arith in
      let few : n < 64 * 1 = subst (λ (k : ℕ). n < 64 * 128 ^ (9 - k)) ninth below in
      absurd (omega arith)
]

pub record SignedGoesOn (bytes : List ℕ) (len b : ℕ) (rest : ℤ) (string : List ℕ) : Type 0 where
  pub ten : length (set bytes len b) ≡ 10
  pub short : len + 1 ≤ 9
  pub below : mag rest < 64 * 128 ^ (9 - (len + 1))
  pub spells : take (len + 1) (set bytes len b) ++ signed_within (10 - (len + 1)) rest ≡ string

pub signed_goes_on : (bytes string : List ℕ) (len d : ℕ) (z rest : ℤ) → length bytes ≡ 10 → len ≤ 9 → is_digit z ≡ false
    → d ≡ signed_digit z → rest ≡ int_shr z 7 → mag z < 64 * 128 ^ (9 - len)
    → take len bytes ++ signed_within (10 - len) z ≡ string
    → SignedGoesOn bytes len (d + 128) rest string
signed_goes_on bytes string len d z rest ten short more is_d is_rest below so_far =
    let left : 10 - len ≡ suc (10 - (len + 1)) = omega arith in
    let room = signed_room len (mag z) short (large z more) below in
    let left' : 9 - len ≡ suc (9 - (len + 1)) = omega arith in
    let byte : d + 128 ≡ 128 + signed_digit z = omega arith in
    let one : signed_within (10 - len) z ≡ (d + 128)
    ∷ signed_within (10 - (len + 1)) rest = rw (left, byte, is_rest) (signed_within-more (10 - (len + 1)) z more) in
    record {
      ten = length-set bytes len (d + 128) ∙ ten;
      short = room;
      below = rw (is_rest, mag-shr z) (fewer_signed (9 - (len + 1)) (mag z) (rw (← left') below));
      spells = push_front bytes (signed_within (10 - (len + 1)) rest) len (d + 128) (omega arith)
          ∙ ap (λ (s : List ℕ). take len bytes ++ s) (sym one) ∙ so_far;
    }

pub signed_stops : (bytes string : List ℕ) (len d : ℕ) (z : ℤ) → length bytes ≡ 10 → len ≤ 9 → is_digit z ≡ true
    → d ≡ signed_digit z → take len bytes ++ signed_within (10 - len) z ≡ string
    → take (len + 1) (set bytes len d) ≡ string
signed_stops bytes string len d z ten short last is_d so_far =
    let left : 10 - len ≡ suc (10 - (len + 1)) = omega arith in
    let one : signed_within (10 - len) z ≡ d ∷ [] = rw (left, is_d) (signed_within-last (10 - (len + 1)) z last) in
    take_more_set bytes len d (omega arith) ∙ ap (λ (s : List ℕ). take len bytes ++ s) (sym one) ∙ so_far

-- what a shift leaves is a number of 64 bits still
pub fits_shifted : (n : ℕ) → n < 2 ^ 64 → to_z w64 (of_z w64 (shr_z (to_z w64 n) 128)) ≡ int_shr (to_z w64 n) 7
fits_shifted n h =
    let fits : SFits w64 (to_z w64 n) = sfits_to_z {w = w64} {n = n} (omega arith) in
    to_z-of_z w64 (shr_z (to_z w64 n) 128) (record { sfits = omega (arith, mag_shr (to_z w64 n) 128, fits.sfits) })
