-- What follows a LEB128 string doesn't change it, and no shorter string has its number.
use Rattle.std.proofs.Common.{◌≡◌, ◌≢◌, ℕ, zero, suc, ◌+◌, ◌-◌, ◌*◌, ◌^◌, ◌/◌, ◌<◌, ◌≤◌, ◌%◌, Bool, true, false, List, [], ◌∷◌, ◌++◌, length, take, Option, Some, None, option_map, Err, refl, sym, ap, inl, inr, ◌∙◌, arith}
use Rattle.std.specs.Prelude.{ℤ, pos, negsuc, ◌-ℤ◌}
use Rattle.std.specs.Int.{int_shr}
use lib.Signed.{mag}
use Rattle.std.proofs.lemmas.Bool.{cases_lt, le-ltb, lt-ltb, leb-true, leb-false}
use Rattle.std.proofs.lemmas.Int.{ints}
use Rattle.std.proofs.lemmas.List.{take_all, take-append-le, length-append, append-nil}
use Rattle.std.proofs.Math.Seq.{take-append-add}
use Rattle.std.proofs.lemmas.Nat.{div_below}
use Rattle.std.proofs.Math.Nat.{pow-suc, mul-le-mul_right}
use Rattle.gimli_core_base.specs.declared.leb128.Fault.TheVariants.{Cut}
use Rattle.gimli_core_base.specs.Leb128.{leb_string, digits_from, unsigned_number, is_negative, signed_number, bounded_string, unsigned_of, unsigned_at, signed_of, signed_at}
use Rattle.gimli_core_base.specs.Spelling.{unsigned_within, unsigned_string, is_digit, signed_within, signed_string}
use Rattle.gimli_core_base.proofs.LebStrings.{map_some, string_at-last, string_at-goes_on, next_power, unsigned_number-below}
use Rattle.gimli_core_base.proofs.Spellings.{signed_within-more, signed_within-last, mag-shr}

-- ---- what follows

pub string_at-append : (a b s : List ℕ) → leb_string a ≡ Some s → leb_string (a ++ b) ≡ Some s
string_at-append [] b s e = absurd cc
string_at-append (x ∷ a) b s e = elim (cases_lt x 128) [
  | inl last ↦ string_at-last x (a ++ b) last ∙ sym (string_at-last x a last) ∙ e
  | inr more ↦
      let m = map_some x (leb_string a) s (sym (string_at-goes_on x a more) ∙ e) in
      string_at-goes_on x (a ++ b) more ∙ ap (option_map (λ (t : List ℕ). x ∷ t)) (string_at-append a b m.0 m.1)
      ∙ ap Some m.2
]

-- the first bytes of more bytes begin with those of fewer
more_taken : (limit : ℕ) (bytes rest : List ℕ) → (more : List ℕ)
    × (take limit (bytes ++ rest) ≡ take limit bytes ++ more)
more_taken limit bytes rest = elim (cases_lt (length bytes) limit) [
  | inl short ↦
      let n : limit ≡ length bytes + (limit - length bytes) = omega arith in (
        take (limit - length bytes) rest,
        rw (take_all limit bytes (omega arith))
            (ap (λ (k : ℕ). take k (bytes ++ rest)) n ∙ take-append-add bytes rest (limit - length bytes)),
      )
  | inr long ↦ ([], take-append-le limit bytes rest long ∙ sym (append-nil (take limit bytes)))
]

pub judged-append : (limit : ℕ) (bytes rest : List ℕ) → bounded_string limit bytes ≢ Err Cut
    → bounded_string limit (bytes ++ rest) ≡ bounded_string limit bytes
judged-append limit bytes rest whole = cases (leb_string (take limit bytes)) refl
  where
    cases : (o : Option (List ℕ)) → leb_string (take limit bytes) ≡ o
        → bounded_string limit (bytes ++ rest) ≡ bounded_string limit bytes
    cases (Some s) e = let m = more_taken limit bytes rest in rw (m.1, string_at-append (take limit bytes) m.0 s e, e)
        refl
    cases None e = elim (cases_lt (length bytes) limit) [
      | inl short ↦ absurd (whole (rw (e, lt-ltb (length bytes) limit short) refl))
      | inr long ↦ rw (
        take-append-le limit bytes rest long,
        e,
        le-ltb (length bytes) limit long,
        le-ltb
            (length (bytes ++ rest)) limit (omega (arith, length-append bytes rest)),
      ) refl
    ]

pub unsigned_ignores_rest : (limit bound : ℕ) (bytes rest : List ℕ) → unsigned_at limit bound bytes ≢ Err Cut
    → unsigned_at limit bound (bytes ++ rest) ≡ unsigned_at limit bound bytes
unsigned_ignores_rest limit bound bytes rest whole =
    ap (unsigned_of bound) (judged-append limit bytes rest (λ cut. whole (ap (unsigned_of bound) cut)))

pub signed_ignores_rest : (bytes rest : List ℕ) → signed_at bytes ≢ Err Cut
    → signed_at (bytes ++ rest) ≡ signed_at bytes
signed_ignores_rest bytes rest whole = ap signed_of (judged-append 10 bytes rest (λ cut. whole (ap signed_of cut)))

-- ---- no shorter string

unsigned_length : (k n j : ℕ) → n < 128 ^ suc j → length (unsigned_within k n) ≤ suc j
unfolding unsigned_within
unsigned_length zero n j below = omega arith
unsigned_length (suc k) n zero below = rw (lt-ltb n 128 (omega arith)) (omega arith)
unsigned_length (suc k) n (suc j) below = elim (cases_lt n 128) [
  | inl last ↦ rw (lt-ltb n 128 last) (omega arith)
  | inr more ↦
      let fewer : n / 128 < 128 ^ suc j = div_below n 128 (128 ^ suc j) (omega arith) (rw (← pow-suc 128 (suc j)) below)
      in
      let tail = unsigned_length k (n / 128) j fewer in
      rw (le-ltb n 128 more) (omega (arith, tail))
]

pub unsigned_shortest : (n : ℕ) (string : List ℕ) → leb_string string ≡ Some string → unsigned_number string ≡ n
    → length (unsigned_string n) ≤ length string
unsigned_shortest n [] is_string number = absurd cc
unsigned_shortest n (b ∷ bs) is_string number =
    unsigned_length 10 n (length bs) (rw (← number) (unsigned_number-below (b ∷ bs)))

small : (z : ℤ) → mag z < 64 → is_digit z ≡ true
small (pos n) h = lt-ltb n 64 h
small (negsuc n) h = lt-ltb n 64 h

large : (z : ℤ) → 64 ≤ mag z → is_digit z ≡ false
large (pos n) h = le-ltb n 64 h
large (negsuc n) h = le-ltb n 64 h

one_byte : (k : ℕ) (z : ℤ) (j : ℕ) → mag z < 64 → length (signed_within (suc k) z) ≤ suc j
one_byte k z j last = rw (signed_within-last k z (small z last)) (omega arith)

signed_length : (k : ℕ) (z : ℤ) (j : ℕ) → mag z < 64 * 128 ^ j → length (signed_within k z) ≤ suc j
unfolding signed_within
signed_length zero z j below = omega arith
signed_length (suc k) z zero below = one_byte k z 0 (omega arith)
signed_length (suc k) z (suc j) below = elim (cases_lt (mag z) 64) [
  | inl last ↦ one_byte k z (suc j) last
  | inr more ↦
      let power : 128 ^ suc j ≡ 128 ^ j * 128 = pow-suc 128 j in
      let fewer : mag (int_shr z 7) < 64 * 128 ^ j = rw (mag-shr z)
      (div_below (mag z) 128 (64 * 128 ^ j) (omega arith) (omega (arith, power, below))) in
      let tail = signed_length k (int_shr z 7) j fewer in
      rw (signed_within-more k z (large z more)) (omega (arith, tail))
]

-- the digits of a string whose last byte has bit 6 clear, and set
digits_low : (i b : ℕ) (bs : List ℕ) → is_negative (b ∷ bs) ≡ false
    → digits_from i (b ∷ bs) + 128 ^ i ≤ 64 * 128 ^ (i + length bs)
digits_low i b [] sign =
    let low : b % 128 < 64 = leb-false 64 (b % 128) sign in
    let digit : b % 128 * 128 ^ i ≤ 63 * 128 ^ i = mul-le-mul_right (128 ^ i) (omega arith) in
    let place : i + 0 ≡ i = omega arith in
    rw place (omega (arith, digit))
digits_low i b (c ∷ bs) sign =
    let rest = digits_low (i + 1) c bs sign in
    let place : i + 1 + length bs ≡ i + length (c ∷ bs) = omega arith in
    let whole : digits_from (i + 1) (c ∷ bs) + 128 ^ (i + 1) ≤ 64 * 128 ^ (i + length (c ∷ bs)) = rw (← place) rest in
    let digit : b % 128 * 128 ^ i ≤ 127 * 128 ^ i = mul-le-mul_right (128 ^ i) (omega arith) in
    omega (arith, whole, digit, next_power i)

digits_high : (i b : ℕ) (bs : List ℕ) → is_negative (b ∷ bs) ≡ true
    → 64 * 128 ^ (i + length bs) ≤ digits_from i (b ∷ bs)
digits_high i b [] sign =
    let high : 64 ≤ b % 128 = leb-true 64 (b % 128) sign in
    let digit : 64 * 128 ^ i ≤ b % 128 * 128 ^ i = mul-le-mul_right (128 ^ i) high in
    let place : i + 0 ≡ i = omega arith in
    rw place (omega (arith, digit))
digits_high i b (c ∷ bs) sign =
    let rest = digits_high (i + 1) c bs sign in
    let place : i + 1 + length bs ≡ i + length (c ∷ bs) = omega arith in
    let whole : 64 * 128 ^ (i + length (c ∷ bs)) ≤ digits_from (i + 1) (c ∷ bs) = rw (← place) rest in
    omega (arith, whole)

-- the number of a signed string of n + 1 bytes
signed_below : (b : ℕ) (bs : List ℕ) → mag (signed_number (b ∷ bs)) < 64 * 128 ^ length bs
signed_below b bs = cases (is_negative (b ∷ bs)) refl
  where
    place : 0 + length bs ≡ length bs
    place = omega arith

    less : (sum top part : ℕ) → sum < top → part ≤ sum → top ≡ 2 * part → mag (pos sum -ℤ pos top) < part
    less sum zero part below high twice = absurd (omega arith)
    less sum (suc t) part below high twice = rw (lt-ltb sum (suc t) below) (omega arith)

    cases : (sign : Bool) → is_negative (b ∷ bs) ≡ sign → mag (signed_number (b ∷ bs)) < 64 * 128 ^ length bs
    cases false e =
        let low : digits_from 0 (b ∷ bs) + 1 ≤ 64 * 128 ^ length bs = rw (← place) (digits_low 0 b bs e) in
        rw e (omega (arith, ints, low))
    cases true e =
        let high : 64 * 128 ^ length bs ≤ digits_from 0 (b ∷ bs) = rw (← place) (digits_high 0 b bs e) in
        rw e (less (digits_from 0 (b ∷ bs)) (128 ^ length (b ∷ bs)) (64 * 128 ^ length bs)
        (unsigned_number-below (b ∷ bs)) high (pow-suc 128 (length bs) ∙ omega arith))

pub signed_shortest : (z : ℤ) (string : List ℕ) → leb_string string ≡ Some string → signed_number string ≡ z
    → length (signed_string z) ≤ length string
signed_shortest z [] is_string number = absurd cc
signed_shortest z (b ∷ bs) is_string number = signed_length 10 z (length bs) (rw (← number) (signed_below b bs))
