-- A view that begins with what is spelled of a number gives the number, and leaves what follows.
use Rattle.std.proofs.Common.{◌≡◌, ℕ, zero, suc, ◌+◌, ◌*◌, ◌^◌, ◌/◌, ◌<◌, ◌≤◌, ◌%◌, Bool, true, false, List, ◌++◌, length, take, Ok, refl, sym, ap, ◌∙◌, arith}
use Rattle.std.specs.Prelude.{ℤ, FitsSigned}
use Rattle.std.specs.Int.{w64, byte_at, bytes_low_first, bytes_high_first}
use Rattle.std.proofs.lemmas.Bool.{le-ltb}
use Rattle.std.proofs.lemmas.List.{take_at, length-append}
use Rattle.std.proofs.Math.Nat.{add-mul, add_assoc, mul-add-mod_self_right, mul-le-mul_right, mul_assoc, div-add-mod', div-div-eq-div-mul, div-one, mod-eq_of_lt, mod-lt, one-le-pow, pow-suc, pow-succ'}
use Rattle.std.proofs.lemmas.Nat.{div_below}
use Rattle.gimli_core_base.specs.declared.error.Error.TheVariants.{BadUnsignedLeb128, BadSignedLeb128}
use Rattle.gimli_core_base.specs.View.{View}
use Rattle.gimli_core_base.specs.Fixed.{little, big, number, number_bytes}
use Rattle.gimli_core_base.specs.Leb128.{unsigned_at, signed_at}
use Rattle.gimli_core_base.specs.NumberParsers.{number_and_rest, fixed, unsigned, signed}
use Rattle.gimli_core_base.specs.Spelling.{unsigned_string, signed_string}
use Rattle.gimli_core_base.proofs.LebRoundTrip.{unsigned_string_reads_back, signed_string_reads_back}
use Rattle.gimli_core_base.proofs.PrefixReads.{rest_after, after_is}

pub unsigned_reads_back : (n : ℕ) (rest : List ℕ) (v : View) → n < 2 ^ 64 → v.bytes ≡ unsigned_string n ++ rest
    → unsigned v ≡ Ok (n, rest_after v (length (unsigned_string n)) rest)
unfolding unsigned
unsigned_reads_back n rest v h whole =
    ap (number_and_rest BadUnsignedLeb128 v) (ap (unsigned_at 10 (2 ^ 64)) whole ∙ unsigned_string_reads_back n rest h)
    ∙ ap (λ (w : View). Ok (n, w)) (after_is v (unsigned_string n) rest (length (unsigned_string n)) whole refl)

pub signed_reads_back : (z : ℤ) (rest : List ℕ) (v : View) → FitsSigned w64 z → v.bytes ≡ signed_string z ++ rest
    → signed v ≡ Ok (z, rest_after v (length (signed_string z)) rest)
unfolding signed
signed_reads_back z rest v h whole =
    ap (number_and_rest BadSignedLeb128 v) (ap signed_at whole ∙ signed_string_reads_back z rest h)
    ∙ ap (λ (w : View). Ok (z, w)) (after_is v (signed_string z) rest (length (signed_string z)) whole refl)

-- ---- fixed numbers

length-low : (i n x : ℕ) → length (bytes_low_first i n x) ≡ n
length-low i zero x = refl
length-low i (suc n) x = let e = length-low (suc i) n x in omega (arith, e)

length-high : (n x : ℕ) → length (bytes_high_first n x) ≡ n
length-high zero x = refl
length-high (suc n) x = let e = length-high n x in omega (arith, e)

pub length-spelled : (is_big : Bool) (n x : ℕ) → length (number_bytes is_big n x) ≡ n
length-spelled true n x = length-high n x
length-spelled false n x = length-low 0 n x

pub byte_at-pow : (k x : ℕ) → byte_at k x ≡ x / 256 ^ k % 256
byte_at-pow zero x = ap (λ (y : ℕ). y % 256) (sym (div-one x))
byte_at-pow (suc k) x = refl

pub pow_pos256 : (n : ℕ) → zero < 256 ^ n
pow_pos256 n = let h = one-le-pow n 256 (omega arith) in omega arith

-- the two low digits of n, to the bases c and then m
pub mod-split : (n : ℕ) {m c : ℕ} → zero < m → zero < c → n % (m * c) ≡ (n / c % m) * c + n % c
mod-split n {m} {c} hm hc =
    let a = mod-lt (n / c) hm in
    let b = mod-lt n hc in
    let top : (n / c % m + 1) * c ≤ m * c = mul-le-mul_right c (omega arith) in
    let expand : (n / c % m + 1) * c ≡ n / c % m * c + 1 * c = add-mul (n / c % m) 1 c in
    let split : n ≡ n / c / m * (m * c) + (n / c % m * c + n % c) =
    sym (div-add-mod' n c)
    ∙ ap (λ (x : ℕ). x * c + n % c) (sym (div-add-mod' (n / c) m))
    ∙ ap (λ (x : ℕ). x + n % c) (add-mul (n / c / m * m) (n / c % m) c ∙ ap (λ (x : ℕ). x + n / c % m * c)
    (mul_assoc (n / c / m) m c))
    ∙ add_assoc (n / c / m * (m * c)) (n / c % m * c) (n % c) in
    ap (λ (x : ℕ). x % (m * c)) split ∙ mul-add-mod_self_right (n / c / m) (m * c) (n / c % m * c + n % c)
    ∙ mod-eq_of_lt (omega arith)

-- the digits of x to the base 256 from the one at j on make x / 256 ^ j
low_again : (k j x : ℕ) → x / 256 ^ j < 256 ^ k → little (bytes_low_first j k x) ≡ x / 256 ^ j
low_again zero j x h = omega arith
low_again (suc k) j x h =
    let y = x / 256 ^ j in
    let shift : x / 256 ^ suc j ≡ y / 256 = ap (λ (p : ℕ). x / p) (pow-suc 256 j)
    ∙ sym (div-div-eq-div-mul x (256 ^ j) 256) in
    let fewer : y / 256 < 256 ^ k = div_below y 256 (256 ^ k) (omega arith) (rw (← pow-suc 256 k) h) in
    let rest = low_again k (suc j) x (rw shift fewer) in
    rw (rest, shift, byte_at-pow j x) (omega arith)

high_again : (n x : ℕ) → big (bytes_high_first n x) ≡ x % 256 ^ n
high_again zero x = omega arith
high_again (suc n) x =
    let split = mod-split x {m = 256} {c = 256 ^ n} (omega arith) (pow_pos256 n) in
    rw (high_again n x, length-high n x, byte_at-pow n x, pow-succ' 256 n, split) refl

pub number_again : (is_big : Bool) (n x : ℕ) → x < 256 ^ n → number is_big (number_bytes is_big n x) ≡ x
number_again true n x h = high_again n x ∙ mod-eq_of_lt h
number_again false n x h = low_again n 0 x (rw (div-one x) h) ∙ div-one x

pub fixed_reads_back : (n x : ℕ) (rest : List ℕ) (v : View) → x < 256 ^ n
    → v.bytes ≡ number_bytes v.is_big n x ++ rest → fixed n v ≡ Ok (x, rest_after v n rest)
unfolding fixed
fixed_reads_back n x rest v h whole =
    let len = length-spelled v.is_big n x in
    let enough = le-ltb (length v.bytes) n
    (omega (arith, ap length whole, length-append (number_bytes v.is_big n x) rest, len)) in
    let value : number v.is_big (take n v.bytes)
    ≡ x = rw (whole, take_at (number_bytes v.is_big n x) rest n len) (number_again v.is_big n x h) in
    rw (enough, value) (ap (λ (w : View). Ok (x, w)) (after_is v (number_bytes v.is_big n x) rest n whole len))
