-- The standard library's parse of unsigned numbers, on texts that hold digits only.
use Rattle.std.proofs.Common.{◌≡◌, ℕ, zero, suc, ◌+◌, ◌-◌, ◌^◌, ◌<◌, ◌≤◌, ◌≢◌, Bool, true, false, ◌&&◌, ◌||◌, cond, nat_lt, nat_le, List, [], ◌∷◌, length, take, drop, Option, Some, None, refl, sym, ap, subst, ◌∙◌, ⊎_elim, arith}
use Rattle.std.specs.Char.{digit_value, is_ascii_digit}
use Rattle.std.specs.Int.{is_in_range, IsInRange}
use Rattle.std.specs.List.{prefix_len}
use Rattle.std.specs.Str.Parse.{AllDigits, IsNumeral, without_leading_plus, digits_value}
use Rattle.std.proofs.lemmas.Bool.{and_parts, and_from, and_left, and_right, or_cases, lt-ltb, le-ltb, lt-leb, leb-true, cond-true, cond-false, ne_eqb}
use Rattle.std.proofs.lemmas.Str.{digit_value_digit}
use Rattle.std.proofs.lemmas.List.Folds.{length-prefix_len}
use Rattle.addr2line_demangle.specs.LegacyElements.{is_lower_hexadecimal, is_character, visible_character, character_by_number}
use Rattle.addr2line_demangle.specs.LegacyNames.{Element, first_element, length_digits, after_digits, stated_length}

in_range : (low high c : ℕ) → is_in_range low high c ≡ true → IsInRange low high c
in_range low high c h =
    let p = and_parts (nat_le low c) (nat_le c high) h in (leb-true low c p.0, leb-true c high p.1)

-- ---- lists of digits

decimal_value : (b : ℕ) → IsInRange 48 57 b → digit_value b < 10
decimal_value b h = omega (arith, digit_value_digit b h, h.0, h.1)

letter_value : (b : ℕ) → IsInRange 97 102 b → digit_value b ≡ b - 87
letter_value b h =
    cond-false (nat_lt b 48) 36 _ (le-ltb b 48 (omega (arith, h.0)))
    ∙ cond-false (nat_lt b 58) (b - 48) _ (le-ltb b 58 (omega (arith, h.0)))
    ∙ cond-false (nat_lt b 65) 36 _ (le-ltb b 65 (omega (arith, h.0)))
    ∙ cond-false (nat_lt b 91) (b - 55) _ (le-ltb b 91 (omega (arith, h.0)))
    ∙ cond-false (nat_lt b 97) 36 _ (le-ltb b 97 h.0)
    ∙ cond-true (nat_lt b 123) (b - 87) 36 (lt-ltb b 123 (omega (arith, h.1)))

abbrev is_lower_digit : ℕ → Bool
is_lower_digit b = is_in_range 48 57 b || is_in_range 97 102 b

lower_value : (b : ℕ) → is_lower_digit b ≡ true → (digit_value b < 16) × (b ≢ 43)
lower_value b h =
    ⊎_elim {C = (digit_value b < 16) × (b ≢ 43)}
    (λ d. let r = in_range 48 57 b d in (omega (arith, decimal_value b r), omega (arith, r.0)))
    (λ d. let r =
    in_range 97 102 b d in (omega (arith, letter_value b r, r.0, r.1), omega (arith, r.0)))
    (or_cases (is_in_range 48 57 b) (is_in_range 97 102 b) h)

no_plus_at : (d : ℕ) (ds : List ℕ) → d ≢ 43 → without_leading_plus (d ∷ ds) ≡ (d ∷ ds)
no_plus_at d ds ne = ap (λ (b : Bool). drop (cond b 1 0) (d ∷ ds)) (ne_eqb d 43 ne)

lower_digits : (ds : List ℕ) → is_lower_hexadecimal ds ≡ true → AllDigits 16 ds
lower_digits [] h = tt
lower_digits (d ∷ ds) h =
    let p = and_parts (is_lower_digit d) (is_lower_hexadecimal ds) h in
    ((lower_value d p.0).0, lower_digits ds p.1)

lower_no_plus : (ds : List ℕ) → is_lower_hexadecimal ds ≡ true → without_leading_plus ds ≡ ds
lower_no_plus [] h = refl
lower_no_plus (d ∷ ds) h =
    no_plus_at d ds (lower_value d (and_parts (is_lower_digit d) (is_lower_hexadecimal ds) h).0).1

-- ---- characters by their numbers

large_no_character : (n : ℕ) → 2 ^ 32 ≤ n → is_character n ≡ false
large_no_character n le =
    let big : 0x11_0000 ≤ n = omega (arith, le) in
    ap (λ (b : Bool). b || is_in_range 0xe000 0x10_ffff n) (le-ltb n 0xd800 (omega (arith, big)))
    ∙ and_right (nat_le 0xe000 n) (nat_le n 0x10_ffff) (lt-leb n 0x10_ffff (omega (arith, big)))

large_not_visible : (n : ℕ) → 2 ^ 32 ≤ n → visible_character n ≡ None
large_not_visible n le =
    cond-false _ (Some n) None (and_left (is_character n) _ (large_no_character n le))

character_by_digits : (d : ℕ) (ds : List ℕ) → is_lower_hexadecimal (d ∷ ds) ≡ true
    → character_by_number (d ∷ ds) ≡ visible_character (digits_value 16 (d ∷ ds))
character_by_digits d ds h =
    cond-true _ (visible_character (digits_value 16 (d ∷ ds))) None
    (and_from (nat_lt 0 (length (d ∷ ds))) _ (lt-ltb 0 (length (d ∷ ds)) (omega arith)) h)

at_least : (n m : ℕ) → ¬ (n < m) → m ≤ n
at_least n m less = omega (arith, less)

abbrev Parses : List ℕ → Type 0
Parses ds = IsNumeral 16 ds × (digits_value 16 ds < 2 ^ 32)

none_of : (ds : List ℕ) → is_lower_hexadecimal ds ≡ true → ¬ (Parses ds)
    → None ≡ character_by_number ds
none_of [] h fails = refl
none_of (d ∷ ds) h fails =
    let ge =
    at_least (digits_value 16 (d ∷ ds)) (2 ^ 32)
    (λ lt. fails ((omega arith, lower_digits (d ∷ ds) h), lt)) in
    sym (character_by_digits d ds h ∙ large_not_visible (digits_value 16 (d ∷ ds)) ge)

pub no_character_by_number : (ds : List ℕ) → is_lower_hexadecimal ds ≡ true
    → ¬ (Parses (without_leading_plus ds)) → None ≡ character_by_number ds
no_character_by_number ds h fails =
    none_of ds h
    (let F : List ℕ → Type 0 = λ xs. ¬ (Parses xs) in subst F (lower_no_plus ds h) fails)

-- ---- lengths

length_digits_are_digits : (text : List ℕ) → AllDigits 10 (length_digits text)
length_digits_are_digits [] = tt
length_digits_are_digits (b ∷ text) =
    elim (is_ascii_digit b) as
    (λ t. is_ascii_digit b ≡ t
    → AllDigits 10 (take (cond t (1 + prefix_len is_ascii_digit text) 0) (b ∷ text))) [
      | true ↦ λ e.
          let next : suc (prefix_len is_ascii_digit text) ≡ 1 + prefix_len is_ascii_digit text =
          omega arith in
          let F : ℕ → Type 0 = λ n. AllDigits 10 (take n (b ∷ text)) in
          subst F next (decimal_value b (in_range 48 57 b e), length_digits_are_digits text)
      | false ↦ λ e. tt
    ] refl

length_digits_have_no_plus : (text : List ℕ)
    → without_leading_plus (length_digits text) ≡ length_digits text
length_digits_have_no_plus [] = refl
length_digits_have_no_plus (b ∷ text) =
    elim (is_ascii_digit b) as (λ t. is_ascii_digit b ≡ t
    → without_leading_plus (take (cond t (1 + prefix_len is_ascii_digit text) 0) (b ∷ text))
    ≡ take (cond t (1 + prefix_len is_ascii_digit text) 0) (b ∷ text)) [
      | true ↦ λ e.
          let next : suc (prefix_len is_ascii_digit text) ≡ 1 + prefix_len is_ascii_digit text =
          omega arith in
          let F : ℕ → Type 0 = λ n. without_leading_plus (take n (b ∷ text)) ≡ take n (b ∷ text) in
          subst F next
          (no_plus_at b (length_digits text) (let r = in_range 48 57 b e in omega (arith, r.0)))
      | false ↦ λ e. refl
    ] refl

abbrev element_at : List ℕ → ℕ → Option Element
element_at text n =
    Some (record { text = take n (after_digits text); rest = drop n (after_digits text) })

abbrev has_element : List ℕ → Bool
has_element text =
    nat_lt 0 (prefix_len is_ascii_digit text)
    && nat_le (stated_length text) (length (after_digits text))

abbrev Fits64 : List ℕ → Type 0
Fits64 ds = IsNumeral 10 ds × (digits_value 10 ds < 2 ^ 64)

no_element : (text : List ℕ) (k : ℕ) → k ≡ prefix_len is_ascii_digit text
    → ¬ (Fits64 (length_digits text)) → length (after_digits text) < 2 ^ 64
    → has_element text ≡ false
no_element text zero e fails small =
    and_left _ _ (le-ltb 0 (prefix_len is_ascii_digit text) (omega (arith, e)))
no_element text (suc k) e fails small =
    let l = length-prefix_len is_ascii_digit text in
    let ge =
    at_least (stated_length text) (2 ^ 64)
    (λ lt. fails ((omega (arith, e, l), length_digits_are_digits text), lt)) in
    and_right (nat_lt 0 (prefix_len is_ascii_digit text)) _
    (lt-leb (stated_length text) _ (omega (arith, ge, small)))

pub element_none : (text : List ℕ) → ¬ (Fits64 (without_leading_plus (length_digits text)))
    → length (after_digits text) < 2 ^ 64 → None ≡ first_element text
element_none text fails small =
    let F : List ℕ → Type 0 = λ xs. ¬ (Fits64 xs) in
    sym (cond-false (has_element text) (element_at text (stated_length text)) None
    (no_element text (prefix_len is_ascii_digit text) refl
    (subst F (length_digits_have_no_plus text) fails) small))
