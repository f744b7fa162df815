-- The string at the front, as a loop over the bytes finds it.
use Rattle.std.proofs.Common.{◌≡◌, ℕ, zero, suc, ◌+◌, ◌-◌, ◌*◌, ◌^◌, ◌<◌, ◌≤◌, ◌%◌, true, cond, ltb, List, [], ◌∷◌, ◌++◌, length, get_or, take, drop, Option, Some, None, option_map, Result, Ok, Err, refl, sym, ap, subst, ◌∙◌, append_assoc, arith, inl, inr}
use Rattle.std.specs.Prelude.{bit_and}
use Rattle.std.specs.Option.{ok_or}
use Rattle.std.proofs.lemmas.Bool.{cases_lt, le-ltb, lt-ltb}
use Rattle.std.proofs.lemmas.List.{take_more, drop_more, length-take-le}
use Rattle.std.proofs.lemmas.Nat.{pow-add, shl_whole, and_mask}
use Rattle.std.proofs.Math.Nat.{pow-suc, pow-le-pow_right, mul-le-mul_right}
use Rattle.gimli_core_base.specs.declared.leb128.Fault.{Fault}
use Rattle.gimli_core_base.specs.declared.leb128.Fault.TheVariants.{Cut, Bad}
use Rattle.gimli_core_base.specs.Leb128.{leb_string, digits_from, unsigned_number, bounded_string, unsigned_at}

-- ---- the string at the front

pub string_at-last : (b : ℕ) (bs : List ℕ) → b < 128 → leb_string (b ∷ bs) ≡ Some (b ∷ [])
string_at-last b bs h = rw (lt-ltb b 128 h) refl

pub string_at-goes_on : (b : ℕ) (bs : List ℕ) → 128 ≤ b
    → leb_string (b ∷ bs) ≡ option_map (λ (s : List ℕ). b ∷ s) (leb_string bs)
string_at-goes_on b bs h = rw (le-ltb b 128 h) refl

-- ---- its length

-- the length of the string that begins i bytes before these
abbrev pub length_from : ℕ → List ℕ → Option ℕ
length_from i bytes = option_map (λ (s : List ℕ). i + length s) (leb_string bytes)

-- a string with one more byte before it, by its parts
pub map_some : (b : ℕ) (o : Option (List ℕ)) (s : List ℕ) → option_map (λ (t : List ℕ). b ∷ t) o ≡ Some s
    → (t : List ℕ) × (o ≡ Some t) × (b ∷ t ≡ s)
map_some b None s e = absurd cc
map_some b (Some t) s e = (t, refl, cc)

-- ---- the string at the start, with more bytes after it

-- the string that the bytes in front begin, judged by limit bytes of the rest
abbrev pub judged_from : ℕ → List ℕ → List ℕ → Result (List ℕ) Fault
judged_from limit front rest =
    ok_or (option_map (λ (s : List ℕ). front ++ s) (leb_string (take limit rest)))
    (cond (ltb (length rest) limit) Cut Bad)

map_front : (front : List ℕ) (b : ℕ) (o : Option (List ℕ))
    → option_map (λ (s : List ℕ). front ++ s) (option_map (λ (s : List ℕ). b ∷ s) o)
    ≡ option_map (λ (s : List ℕ). (front ++ b ∷ []) ++ s) o
map_front front b None = refl
map_front front b (Some s) = ap Some (sym (append_assoc front (b ∷ []) s))

more_test : (a b : ℕ) → ltb (suc a) (suc b) ≡ ltb a b
more_test a b =
    elim (cases_lt a b) [
      | inl lt ↦ lt-ltb (suc a) (suc b) (omega arith) ∙ sym (lt-ltb a b lt)
      | inr le ↦ le-ltb (suc a)
          (suc b) (omega arith) ∙ sym (le-ltb a b le)
    ]

pub judged_from-goes_on : (limit : ℕ) (front : List ℕ) (b : ℕ) (rest : List ℕ) → 128 ≤ b
    → judged_from (suc limit) front (b ∷ rest) ≡ judged_from limit (front ++ b ∷ []) rest
judged_from-goes_on limit front b rest h =
    rw (
      string_at-goes_on b (take limit rest) h,
      map_front front b (leb_string (take limit rest)),
      more_test
          (length rest) limit,
    ) refl

pub judged_from-last : (limit : ℕ) (front : List ℕ) (b : ℕ) (rest : List ℕ) → b < 128
    → judged_from (suc limit) front (b ∷ rest) ≡ Ok (front ++ b ∷ [])
judged_from-last limit front b rest h = rw (string_at-last b (take limit rest) h) refl

pub judged_from-long : (front : List ℕ) (b : ℕ) (rest : List ℕ) → 128 ≤ b → judged_from 1 front (b ∷ rest) ≡ Err Bad
judged_from-long front b rest h =
    rw (string_at-goes_on b (take 0 rest) h, le-ltb (length (b ∷ rest)) 1 (omega arith)) refl

-- ---- the sum of the digits

digits_from-append : (i : ℕ) (front back : List ℕ) → digits_from i (front ++ back) ≡ digits_from i front
    + digits_from (i + length front) back
digits_from-append i [] back =
    let place : i + 0 ≡ i = omega arith in
    rw place (omega arith)
digits_from-append i (b ∷ front) back =
    let rest = digits_from-append (i + 1) front back in
    let place : i + 1 + length front ≡ i + length (b ∷ front) = omega arith in
    rw (rest, place) (omega arith)

-- one byte more
pub unsigned_number-push : (front : List ℕ) (b : ℕ) → unsigned_number (front ++ b ∷ []) ≡ unsigned_number front
    + b % 128 * 128 ^ length front
unsigned_number-push front b =
    let place : 0 + length front ≡ length front = omega arith in
    digits_from-append 0 front (b ∷ []) ∙ rw place (omega arith)

pub pow128 : (n : ℕ) → 128 ^ n ≡ 2 ^ (7 * n)
pow128 zero = refl
pow128 (suc n) =
    let e : 7 * suc n ≡ 7 * n + 7 = omega arith in
    rw (pow-suc 128 n, pow128 n, e, pow-add 2 (7 * n) 7) refl

pub next_power : (i : ℕ) → 128 ^ (i + 1) ≡ 128 ^ i * 128
next_power i = let e : i + 1 ≡ suc i = omega arith in rw e (pow-suc 128 i)

digits_from-below : (i : ℕ) (bs : List ℕ) → digits_from i bs + 128 ^ i ≤ 128 ^ (i + length bs)
digits_from-below i [] =
    let place : i + 0 ≡ i = omega arith in
    rw place (omega arith)
digits_from-below i (b ∷ bs) =
    let rest = digits_from-below (i + 1) bs in
    let place : i + 1 + length bs ≡ i + length (b ∷ bs) = omega arith in
    let digit : b % 128 * 128 ^ i ≤ 127 * 128 ^ i = mul-le-mul_right (128 ^ i) (omega arith) in
    let next = next_power i in
    let whole : digits_from (i + 1) bs + 128 ^ (i + 1) ≤ 128 ^ (i + length (b ∷ bs)) = rw (← place) rest in
    omega (arith, whole, digit, next)

-- n digits make a number below 128 ^ n
pub unsigned_number-below : (bs : List ℕ) → unsigned_number bs < 128 ^ length bs
unsigned_number-below bs =
    let place : 0 + length bs ≡ length bs = omega arith in
    let h : digits_from 0 bs + 1 ≤ 128 ^ length bs = rw (← place) (digits_from-below 0 bs) in
    omega (arith, h)

-- ---- at place i of the bytes

pub drop_at_place : (bytes : List ℕ) (i : ℕ) → i < length bytes → drop i bytes ≡ get_or bytes i 0 ∷ drop (i + 1) bytes
drop_at_place bytes i h = drop_more bytes i 0 h

pub take_at_place : (bytes : List ℕ) (i : ℕ) → i < length bytes
    → take (i + 1) bytes ≡ take i bytes ++ get_or bytes i 0 ∷ []
take_at_place bytes i h = take_more bytes i 0 h

-- the byte goes on
pub judged_from-more : (limit : ℕ) (bytes : List ℕ) (i : ℕ) (all : Result (List ℕ) Fault) → i < length bytes → i < limit
    → 128 ≤ get_or bytes i 0
    → judged_from (limit - i) (take i bytes) (drop i bytes) ≡ all
    → judged_from (limit - (i + 1)) (take (i + 1) bytes) (drop (i + 1) bytes) ≡ all
judged_from-more limit bytes i all inside short goes so_far =
    let left : limit - i ≡ suc (limit - (i + 1)) = omega arith in
    let one : judged_from (limit - i) (take i bytes) (drop i bytes)
    ≡ judged_from (limit - (i + 1)) (take (i + 1) bytes) (drop (i + 1) bytes) =
    rw (left, drop_at_place bytes i inside, take_at_place bytes i inside)
    (judged_from-goes_on (limit - (i + 1)) (take i bytes) (get_or bytes i 0) (drop (i + 1) bytes) goes) in
    sym one ∙ so_far

-- the byte is the last
pub judged_from-end : (limit : ℕ) (bytes : List ℕ) (i : ℕ) (all : Result (List ℕ) Fault) → i < length bytes → i < limit
    → get_or bytes i 0 < 128
    → judged_from (limit - i) (take i bytes) (drop i bytes) ≡ all → all ≡ Ok (take (i + 1) bytes)
judged_from-end limit bytes i all inside short last so_far =
    let left : limit - i ≡ suc (limit - (i + 1)) = omega arith in
    let one : judged_from (limit - i) (take i bytes) (drop i bytes) ≡ Ok (take (i + 1) bytes) =
    rw (left, drop_at_place bytes i inside, take_at_place bytes i inside)
    (judged_from-last (limit - (i + 1)) (take i bytes) (get_or bytes i 0) (drop (i + 1) bytes) last) in
    sym so_far ∙ one

-- a number with one more digit, short of the tenth
pub record NextDigit (bytes : List ℕ) (i next : ℕ) : Type 0 where
  pub number : next ≡ unsigned_number (take (i + 1) bytes)
  pub below : next < 128 ^ (i + 1)
  pub fits : next < 2 ^ 63

pub next_digit : (bytes : List ℕ) (i n low : ℕ) → i < length bytes → i ≤ 8 → low ≡ bit_and (get_or bytes i 0) 127
    → n ≡ unsigned_number (take i bytes) → NextDigit bytes i (n + low * 2 ^ (7 * i) % 2 ^ 64)
next_digit bytes i n low inside short is_low so_far =
    let b = get_or bytes i 0 in
    let digit : low ≡ b % 128 = is_low ∙ and_mask b 7 in
    let small : low < 128 = omega (arith, digit) in
    let len : length (take i bytes) ≡ i = length-take-le i bytes (omega arith) in
    let placed : low * 2 ^ (7 * i) % 2 ^ 64
    ≡ low * 128 ^ i = rw pow128 (shl_whole low 7 (7 * i) 64 (omega arith) (omega arith)) in
    let sum : n + low * 2 ^ (7 * i) % 2 ^ 64 ≡ unsigned_number (take (i + 1) bytes) =
    rw (placed, take_at_place bytes i inside, unsigned_number-push (take i bytes) b, len, digit, so_far) refl in
    let len' : length (take (i + 1) bytes) ≡ i + 1 = length-take-le (i + 1) bytes (omega arith) in
    let bound : unsigned_number (take (i + 1) bytes) < 128 ^ (i + 1) = subst
    (λ (k : ℕ). unsigned_number (take (i + 1) bytes) < 128 ^ k) len' (unsigned_number-below (take (i + 1) bytes)) in
    let below : n + low * 2 ^ (7 * i) % 2 ^ 64 < 128 ^ (i + 1) = rw sum bound in
    let top : 128 ^ (i + 1) ≤ 128 ^ 9 = pow-le-pow_right {n = 128} (omega arith) {i = i + 1} {j = 9} (omega arith) in
    record { number = sum; below = below; fits = omega (arith, below, top) }

-- an unsigned string that ends short of the tenth byte
pub unsigned_ends : (bytes : List ℕ) (i next : ℕ) → i < length bytes → NextDigit bytes i next
    → bounded_string 10 bytes ≡ Ok (take (i + 1) bytes) → Ok (next, i + 1) ≡ unsigned_at 10 (2 ^ 64) bytes
unsigned_ends bytes i next inside digit found =
    let len : length (take (i + 1) bytes) ≡ i + 1 = length-take-le (i + 1) bytes (omega arith) in
    let fits : ltb (unsigned_number (take (i + 1) bytes)) (2 ^ 64)
    ≡ true = lt-ltb _ _ (omega (arith, digit.number, digit.fits)) in
    rw (found, fits, len, digit.number) refl
