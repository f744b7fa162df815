-- The bytes of a number that bytes spell are those bytes.
use Rattle.std.proofs.Common.{◌≡◌, ℕ, suc, ◌+◌, ◌*◌, ◌^◌, ◌/◌, ◌<◌, ◌≤◌, ◌%◌, Bool, true, false, List, [], ◌∷◌, length, refl, sym, ap, ◌∙◌, arith}
use Rattle.std.specs.Prelude.{All}
use Rattle.std.specs.Int.{byte_at, bytes_low_first, bytes_high_first}
use Rattle.std.proofs.lemmas.List.Elements.{All-head, All-tail}
use Rattle.std.proofs.Math.Nat.{add-mul, mul-add-mod_self_right, mul-le-mul_right, div-div-eq-div-mul, div-one, mod-eq_of_lt, mod-lt, pow-suc, pow-succ'}
use Rattle.std.proofs.lemmas.Nat.{div-mul-add}
use Rattle.gimli_lines_write_rows.specs.Fixed.{little, big, number, number_bytes}
use Rattle.gimli_lines_write_rows.proofs.NumberRoundTrip.{byte_at-pow, pow_pos256, mod-split}
use Rattle.gimli_lines_write_spec.specs.EntryFields.{IsDigest}

abbrev IsByte : ℕ → Type 0
IsByte b = b < 256

-- ---- the lowest byte first

low_is : (j : ℕ) (bs : List ℕ) (x : ℕ) → All IsByte bs → x / 256 ^ j ≡ little bs → bytes_low_first j (length bs) x ≡ bs
low_is j [] x good is = refl
low_is j (b ∷ bs) x good is =
    let small : b < 256 = All-head IsByte b bs good in
    let digit : byte_at j x ≡ b = byte_at-pow j x ∙ ap (λ (y : ℕ). y % 256) is ∙ low b (little bs) small in
    let rest : x / 256 ^ suc j ≡ little bs = ap (λ (p : ℕ). x / p) (pow-suc 256 j)
    ∙ sym (div-div-eq-div-mul x (256 ^ j) 256) ∙ ap (λ (y : ℕ). y / 256) is ∙ high b (little bs) small in
    ap (λ (c : ℕ). c ∷ bytes_low_first (suc j) (length bs) x) digit
    ∙ ap (λ cs. b ∷ cs) (low_is (suc j) bs x (All-tail IsByte b bs good) rest)
  where
    low : (b n : ℕ) → b < 256 → (b + 256 * n) % 256 ≡ b
    low b n h = omega arith

    high : (b n : ℕ) → b < 256 → (b + 256 * n) / 256 ≡ n
    high b n h = omega arith

-- ---- the highest byte first

-- digits to a base are those of one number alone
same_digits : (c d b r s : ℕ) → r < c → s < c → d * c + r ≡ b * c + s → (d ≡ b) × (r ≡ s)
same_digits c d b r s below small same = (
  sym (div-mul-add d c r below) ∙ ap (λ (n : ℕ). n / c) same ∙ div-mul-add b c s small,
  sym (mod-eq_of_lt below) ∙ sym (mul-add-mod_self_right d c r) ∙ ap (λ (n : ℕ). n % c) same
      ∙ mul-add-mod_self_right b c s ∙ mod-eq_of_lt small,
)

big_below : (bs : List ℕ) → All IsByte bs → big bs < 256 ^ length bs
big_below [] good = omega arith
big_below (b ∷ bs) good =
    let small : b < 256 = All-head IsByte b bs good in
    let rest = big_below bs (All-tail IsByte b bs good) in
    let top : (b + 1) * 256 ^ length bs ≤ 256 * 256 ^ length bs = mul-le-mul_right (256 ^ length bs) (omega arith) in
    let split = add-mul b 1 (256 ^ length bs) in
    rw (pow-succ' 256 (length bs)) (omega arith)

high_is : (bs : List ℕ) (x : ℕ) → All IsByte bs → x % 256 ^ length bs ≡ big bs → bytes_high_first (length bs) x ≡ bs
high_is [] x good is = refl
high_is (b ∷ bs) x good is =
    let c = 256 ^ length bs in
    let split : x % 256 ^ suc (length bs) ≡ (x / c % 256) * c + x % c =
    ap (λ (p : ℕ). x % p) (pow-succ' 256 (length bs))
    ∙ mod-split x {m = 256} {c = c} (omega arith) (pow_pos256 (length bs)) in
    let digits = same_digits c (x / c % 256) b (x % c) (big bs) (mod-lt x (pow_pos256 (length bs)))
    (big_below bs (All-tail IsByte b bs good)) (sym split ∙ is) in
    ap (λ (d : ℕ). d ∷ bytes_high_first (length bs) x) (byte_at-pow (length bs) x ∙ digits.0)
    ∙ ap (λ ds. b ∷ ds) (high_is bs x (All-tail IsByte b bs good) digits.1)

-- ---- sixteen bytes

pub digest_again : (is_big : Bool) (md5 : List ℕ) → IsDigest md5 → number_bytes is_big 16 (number is_big md5) ≡ md5
digest_again true md5 is = ap (λ (n : ℕ). bytes_high_first n (big md5)) (sym is.0)
    ∙ high_is md5 (big md5) is.1 (mod-eq_of_lt (big_below md5 is.1))
digest_again false md5 is =
    ap (λ (n : ℕ). bytes_low_first 0 n (little md5)) (sym is.0) ∙ low_is 0 md5 (little md5) is.1 (div-one (little md5))
