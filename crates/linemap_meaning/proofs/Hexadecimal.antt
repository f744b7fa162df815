-- The standard library's parse of an unsigned number, at radix 16 and 64 bits, is `hexadecimal_number` after the plus.
use Rattle.std.proofs.Common.{◌≡◌, ℕ, ◌^◌, ◌<◌, Bool, true, false, ◌&&◌, List, [], ◌∷◌, length, Option, Some, None, Result, Ok, Err, if◌then◌else◌, refl, ap, nat_lt}
use Rattle.std.specs.Char.{is_digit, digit_value}
use Rattle.std.specs.List.{list_all}
use Rattle.std.specs.Result.{result_ok, OkIff}
use Rattle.std.specs.Str.Parse.{AllDigits, IsNumeral, ParsesUnsigned, without_leading_plus, digits_value}
use Rattle.std.proofs.lemmas.Bool.{ltb-true, lt-ltb, and_parts, and_from}
use Rattle.linemap_meaning.specs.AnswerTexts.{is_hexadecimal, hexadecimal_number}

test_of_digits : (ds : List ℕ) → AllDigits 16 ds → list_all (λ c. is_digit c 16) ds ≡ true
test_of_digits [] h = refl
test_of_digits (c ∷ cs) h = and_from _ _ (lt-ltb (digit_value c) 16 h.0) (test_of_digits cs h.1)

digits_of_test : (ds : List ℕ) → list_all (λ c. is_digit c 16) ds ≡ true → AllDigits 16 ds
digits_of_test [] h = tt
digits_of_test (c ∷ cs) h =
    let parts = and_parts (is_digit c 16) (list_all (λ d. is_digit d 16) cs) h in
    (ltb-true (digit_value c) 16 parts.0, digits_of_test cs parts.1)

-- digits write a number of 64 bits
abbrev has_64_bits : List ℕ → Bool
has_64_bits ds = is_hexadecimal ds && nat_lt (digits_value 16 ds) (2 ^ 64)

abbrev Fits64 : List ℕ → Type 0
Fits64 ds = IsNumeral 16 ds × (digits_value 16 ds < 2 ^ 64)

fits_of : (ds : List ℕ) → Fits64 ds → has_64_bits ds ≡ true
fits_of ds h =
    and_from _ _ (and_from _ _ (lt-ltb 0 (length ds) h.0.0) (test_of_digits ds h.0.1))
    (lt-ltb (digits_value 16 ds) (2 ^ 64) h.1)

of_fits : (ds : List ℕ) → has_64_bits ds ≡ true → Fits64 ds
of_fits ds h =
    let outer = and_parts (is_hexadecimal ds) (nat_lt (digits_value 16 ds) (2 ^ 64)) h in
    let inner = and_parts (nat_lt 0 (length ds)) (list_all (λ c. is_digit c 16) ds) outer.0 in
    ((ltb-true 0 (length ds) inner.0, digits_of_test ds inner.1), ltb-true (digits_value 16 ds) (2 ^ 64) outer.1)

if_decides : {A : Type 0} (b : Bool) (P : Type 0) (r : Option A) (v : A) → (b ≡ true → P) → (P → b ≡ true)
    → (P → r ≡ Some v) → (¬ P → r ≡ None) → r ≡ (if b then Some v else None)
if_decides true P r v of to at_yes at_no = at_yes (of refl)
if_decides false P r v of to at_yes at_no = at_no (λ p. let e : false ≡ true = to p in cc)

parsed-at : {E : Type 0} (ds : List ℕ) (r : Result ℕ E) → OkIff r (Fits64 ds) (digits_value 16 ds)
    → result_ok r ≡ hexadecimal_number ds
parsed-at ds (Ok x) h =
    if_decides (has_64_bits ds) (Fits64 ds) (Some x) (digits_value 16 ds) (of_fits ds) (fits_of ds) (λ _. ap Some h.1)
    (λ no. absurd (no h.0))
parsed-at ds (Err e) h =
    if_decides (has_64_bits ds) (Fits64 ds) None (digits_value 16 ds) (of_fits ds) (fits_of ds) (λ p. absurd (h p))
    (λ _. refl)

pub parse_is_number : {E : Type 0} (bs : List ℕ) (r : Result ℕ E) → ParsesUnsigned 64 16 bs r
    → result_ok r ≡ hexadecimal_number (without_leading_plus bs)
parse_is_number bs r h = parsed-at (without_leading_plus bs) r h
