-- Names in bytes of which the first are UTF-8.
use Rattle.std.proofs.Common.{◌≡◌, ◌≢◌, ℕ, zero, suc, ◌+◌, ◌-◌, ◌<◌, ◌≤◌, Bool, true, false, cond, not, ◌&&◌, ◌||◌, List, [], ◌∷◌, ◌++◌, length, take, drop, get_or, eqb, ltb, leb, Option, Some, None, option_map, refl, ap, sym, ◌∙◌, subst, inl, inr, arith}
use Rattle.std.specs.List.{position, position_or_len}
use Rattle.std.specs.Option.{is_some, option_and_then}
use Rattle.std.specs.Str.{IsUtf8, is_utf8, IsCharBoundary}
use Rattle.std.proofs.lemmas.Bool.{cases_lt, lt-ltb, le-ltb, le-leb, lt-leb, eqb-true, ne_eqb}
use Rattle.std.proofs.lemmas.List.{get_or-take, get_or-drop, length-take-le, length-drop, drop-take, take-take, take_more}
use Rattle.std.proofs.lemmas.List.Quantifiers.{position-Some}
use Rattle.std.proofs.lemmas.List.Sums.{fails_before_first}
use Rattle.std.proofs.lemmas.Str.{IsUtf8-from_is_utf8, is_utf8-from_IsUtf8, IsUtf8-append, IsUtf8-from_ascii, IsUtf8-take, IsUtf8-between, IsCharBoundary-start, IsCharBoundary-before_ascii}
use Rattle.std.proofs.Math.Seq.{take-add}
use Rattle.addr2line_elf.specs.ElfSymbols.{as_name, is_name}
use Rattle.addr2line_elf.specs.NameParts.{begins_name, begins_text, IsLongestText, IsLastZero}

abbrev is_zero : ℕ → Bool
is_zero b = eqb b 0

abbrev byte : List ℕ → ℕ → ℕ
byte bs i = get_or bs i 0

-- ---- booleans

is_some-choice : {A : Type 0} (b : Bool) (x : A) → is_some (cond b (Some x) None) ≡ b
is_some-choice true x = refl
is_some-choice false x = refl

and-false : (b : Bool) → (b && false) ≡ false
and-false true = refl
and-false false = refl

-- ---- bytes

zero_is_ascii : (j : ℕ) → get_or (0 ∷ []) j 0 < 128
zero_is_ascii zero = omega arith
zero_is_ascii (suc j) = omega arith

-- ---- the zero byte after a name

-- there is none
none_there : (bs : List ℕ) (k : ℕ) → position is_zero bs ≡ None → k < length bs → byte bs k ≢ 0
none_there bs k none within is =
    elim (cases_lt (position_or_len is_zero bs) (length bs)) [
      | inl below ↦
          let some : position is_zero bs ≡ Some (position_or_len is_zero bs) =
          ap (λ t. cond t (Some (position_or_len is_zero bs)) None)
          (lt-ltb (position_or_len is_zero bs) (length bs) below) in
          let wrong : None ≡ Some (position_or_len is_zero bs) = sym none ∙ some in
          cc
      | inr over ↦
          let not_zero : is_zero (byte bs k) ≡ false = fails_before_first is_zero bs k 0 (omega arith) in
          let zero_there : is_zero (byte bs k) ≡ true = ap is_zero is in
          let wrong : true ≡ false = sym zero_there ∙ not_zero in
          cc
    ]

name_if : (bs : List ℕ) (i : ℕ) (o : Option ℕ) → position is_zero (drop i bs) ≡ o
    → begins_name bs i ≡ is_some (option_and_then as_name (option_map (λ n. take n (drop i bs)) o))
name_if bs i o is = ap (λ p. is_some (option_and_then as_name (option_map (λ n. take n (drop i bs)) p))) is

-- ---- the text

module _ (bs : List ℕ) (n t i k : ℕ) (longest : IsLongestText bs n) (last : IsLastZero (take n bs) t) (upto : i ≤ n)
    (found : position is_zero (drop i bs) ≡ Some k) where
  abbrev text : List ℕ
  text = take k (drop i bs)

  place : (k < length (drop i bs)) × (is_zero (byte (drop i bs) k) ≡ true)
      × ((j : ℕ) → j < k → is_zero (byte (drop i bs) j) ≡ false)
  place = position-Some is_zero (drop i bs) k 0 found

  fits : i + k < length bs
  fits = let left = length-drop i bs in let within = place.0 in omega arith

  length_is : length text ≡ k
  length_is = length-take-le k (drop i bs) (let within = place.0 in omega arith)

  at_end : byte bs (i + k) ≡ 0
  at_end = sym (get_or-drop i bs k 0) ∙ eqb-true (byte (drop i bs) k) 0 place.1

  not_before : (j : ℕ) → i ≤ j → j < i + k → byte bs j ≢ 0
  not_before j from to is =
      let same : i + (j - i) ≡ j = omega arith in
      let here : byte (drop i bs) (j - i) ≡ 0 = get_or-drop i bs (j - i) 0 ∙ ap (byte bs) same ∙ is in
      let wrong : true ≡ false = sym (ap is_zero here) ∙ place.2 (j - i) (omega arith) in
      cc

  -- an earlier zero byte than the last one
  before_last : i < t → t ≤ i + k → ⊥
  before_last lt le =
      let within = last.within in
      let most = longest.within in
      let size = length-take-le n bs most in
      not_before (t - 1) (omega arith) (omega arith)
      (sym (get_or-take n bs (t - 1) 0 (omega arith)) ∙ last.zero_at (omega arith))

  after_last : t ≤ i → i + k < n → ⊥
  after_last le lt =
      let most = longest.within in
      let size = length-take-le n bs most in
      last.none_after (i + k) (omega arith) (omega arith) (get_or-take n bs (i + k) 0 lt ∙ at_end)

  first_byte : 0 < k → byte text 0 ≡ byte bs i
  first_byte some =
      let start : i + 0 ≡ i = omega arith in
      get_or-take k (drop i bs) 0 0 some ∙ get_or-drop i bs 0 0 ∙ ap (byte bs) start

  front_size : length (take n bs) ≡ n
  front_size = length-take-le n bs longest.within

  -- it begins with the first byte of a character
  starts_from_text : 0 < k → IsUtf8 text → 128 ≤ byte bs i → 192 ≤ byte bs i
  starts_from_text some valid high =
      let first = first_byte some in
      let size = length_is in
      let start = IsCharBoundary-start text valid in
      let more : 192 ≤ byte text 0 = start.1 (omega arith) (omega arith) in
      omega arith

  -- a text that ends past the bytes that are UTF-8 isn't
  not_past : n ≤ i + k → 0 < k → IsUtf8 text → ⊥
  not_past over some valid =
      let size = front_size in
      let room = fits in
      let starts : IsCharBoundary (take n bs) i = (
        omega arith,
        λ short high.
            let here : byte (take n bs) i ≡ byte bs i = get_or-take n bs i 0 (omega arith) in
            let lead : 192 ≤ byte bs i = starts_from_text some valid (omega arith) in
            omega arith,
      ) in
      let head : IsUtf8 (take i bs) =
      subst IsUtf8 (take-take i n bs upto) (IsUtf8-take (take n bs) i longest.valid starts) in
      let joined : take (i + k) bs ≡ take i bs ++ text = take-add i k bs in
      let more : take (i + k + 1) bs ≡ take (i + k) bs ++ byte bs (i + k) ∷ [] = take_more bs (i + k) 0 fits in
      longest.longest (i + k + 1) (omega arith) (omega arith)
      (subst IsUtf8
      (sym (more ∙ ap (λ b. take (i + k) bs ++ b ∷ []) at_end ∙ ap (λ xs. xs ++ 0 ∷ []) joined))
      (IsUtf8-append (take i bs ++ text) (0 ∷ []) (IsUtf8-append (take i bs) text head valid)
      (IsUtf8-from_ascii (0 ∷ []) zero_is_ascii)))

  -- one that ends among them is, if it begins with the first byte of a character
  is_within : i + k < n → (128 ≤ byte bs i → 192 ≤ byte bs i) → IsUtf8 text
  is_within inside lead =
      let size = front_size in
      let first : IsCharBoundary (take n bs) i = (
        omega arith,
        λ short high.
            let here : byte (take n bs) i ≡ byte bs i = get_or-take n bs i 0 (omega arith) in
            let more : 192 ≤ byte bs i = lead (omega arith) in
            omega arith,
      ) in
      let ending : byte (take n bs) (i + k) ≡ 0 = get_or-take n bs (i + k) 0 inside ∙ at_end in
      let end : IsCharBoundary (take n bs) (i + k) =
      IsCharBoundary-before_ascii (take n bs) (i + k) (omega arith) (omega arith) in
      let whole : i + (n - i) ≡ n = omega arith in
      let count : i + k - i ≡ k = omega arith in
      let rest : drop i (take n bs) ≡ take (n - i) (drop i bs) =
      ap (λ m. drop i (take m bs)) (sym whole) ∙ drop-take i (n - i) bs in
      subst IsUtf8
      (ap (λ m. take m (drop i (take n bs))) count ∙ ap (take k) rest ∙ take-take k (n - i) (drop i bs) (omega arith))
      (IsUtf8-between (take n bs) i (i + k) longest.valid (omega arith) first end)

  no_text : (IsUtf8 text → ⊥) → is_utf8 text ≡ false
  no_text not_so = at (is_utf8 text) refl
    where
      at : (b : Bool) → is_utf8 text ≡ b → b ≡ false
      at true e = absurd (not_so (IsUtf8-from_is_utf8 text e))
      at false e = refl

  abbrev leads : ℕ → Bool
  leads b = ltb b 128 || leb 192 b

  -- by its first byte
  by_first : 0 < k → i + k < n → is_utf8 text ≡ leads (byte bs i)
  by_first some inside =
      elim (cases_lt (byte bs i) 128) [
        | inl low ↦
            is_utf8-from_IsUtf8 text (is_within inside (λ high. absurd (omega arith)))
            ∙ sym (ap (λ b. b || leb 192 (byte bs i)) (lt-ltb (byte bs i) 128 low))
        | inr high ↦
            elim (cases_lt (byte bs i) 192) [
              | inl follows ↦
                  no_text (λ valid. let lead = starts_from_text some valid high in omega arith)
                  ∙ sym (ap (λ b. b || leb 192 (byte bs i)) (le-ltb (byte bs i) 128 high)
                  ∙ lt-leb 192 (byte bs i) follows)
              | inr lead ↦
                  is_utf8-from_IsUtf8 text (is_within inside (λ _. lead))
                  ∙ sym (ap (λ b. b || leb 192 (byte bs i)) (le-ltb (byte bs i) 128 high)
                  ∙ le-leb 192 (byte bs i) lead)
            ]
      ]

  some_text : 0 < k → is_utf8 text ≡ (ltb i t && leads (byte bs i))
  some_text some =
      elim (cases_lt (i + k) n) [
        | inl inside ↦
            elim (cases_lt i t) [
              | inl before ↦ by_first some inside ∙ sym (ap (λ b. b && leads (byte bs i)) (lt-ltb i t before))
              | inr after ↦ absurd (after_last after inside)
            ]
        | inr over ↦
            elim (cases_lt i t) [
              | inl before ↦
                  let size = front_size in
                  let most = last.within in
                  absurd (before_last before (omega arith))
              | inr after ↦
                  no_text (not_past over some) ∙ sym (ap (λ b. b && leads (byte bs i)) (le-ltb i t after))
            ]
      ]

  -- the text is a name
  named : is_name text ≡ (ltb i t && begins_text (byte bs i))
  named =
      elim (cases_lt 0 k) [
        | inl some ↦
            let size : eqb (length text) 0 ≡ false =
            ne_eqb (length text) 0 (λ e. let is = length_is in absurd (omega arith)) in
            let not_zero : eqb (byte bs i) 0 ≡ false =
            ne_eqb (byte bs i) 0 (λ e. not_before i (omega arith) (omega arith) e) in
            ap (λ b. not b && is_utf8 text) size
            ∙ some_text some
            ∙ sym (ap (λ b. ltb i t && (not b && leads (byte bs i))) not_zero)
        | inr none ↦
            let empty : length text ≡ 0 = let is = length_is in omega arith in
            let place_is : i + k ≡ i = omega arith in
            let zero_there : byte bs i ≡ 0 = ap (byte bs) (sym place_is) ∙ at_end in
            ap (λ m. not (eqb m 0) && is_utf8 text) empty
            ∙ sym (ap (λ b. ltb i t && begins_text b) zero_there ∙ and-false (ltb i t))
      ]

-- ---- where names begin, in bytes of which the first are UTF-8

pub names_are : (bs : List ℕ) (n t i : ℕ) → IsLongestText bs n → IsLastZero (take n bs) t → i ≤ n
    → begins_name bs i ≡ (ltb i t && begins_text (byte bs i))
names_are bs n t i longest last upto = at (position is_zero (drop i bs)) refl
  where
    none_yet : position is_zero (drop i bs) ≡ None → i < t → ⊥
    none_yet none before =
        let most = last.within in
        let size = length-take-le n bs longest.within in
        let left = length-drop i bs in
        let whole = longest.within in
        let place : i + (t - 1 - i) ≡ t - 1 = omega arith in
        none_there (drop i bs) (t - 1 - i) none (omega arith)
        (get_or-drop i bs (t - 1 - i) 0 ∙ ap (byte bs) place
        ∙ sym (get_or-take n bs (t - 1) 0 (omega arith)) ∙ last.zero_at (omega arith))

    at : (o : Option ℕ) → position is_zero (drop i bs) ≡ o
        → begins_name bs i ≡ (ltb i t && begins_text (byte bs i))
    at None none =
        name_if bs i None none
        ∙ elim (cases_lt i t) [
          | inl before ↦ absurd (none_yet none before)
          | inr after ↦ sym (ap (λ b. b && begins_text (byte bs i)) (le-ltb i t after))
        ]
    at (Some k) found =
        name_if bs i (Some k) found
        ∙ is_some-choice (is_name (take k (drop i bs))) (take k (drop i bs))
        ∙ named bs n t i k longest last upto found
