-- A view that begins with what is looked for gives it, and leaves what follows.
use Rattle.std.proofs.Common.{◌≡◌, ℕ, suc, ◌+◌, ◌≤◌, ◌<◌, Bool, false, cond, eqb, ltb, List, [], ◌∷◌, ◌++◌, length, take, drop, Some, None, Result, Ok, Err, not, append_assoc, refl, sym, ap, ◌∙◌, arith}
use Rattle.std.specs.List.{position, prefix_len, list_any}
use Rattle.std.proofs.lemmas.List.{take_at, drop_at, length-append}
use Rattle.std.proofs.lemmas.Bool.{le-ltb, lt-ltb, or_parts}
use Rattle.gimli_core_base.specs.declared.error.Error.{Error}
use Rattle.gimli_core_base.specs.View.{View, after, prefix, unexpected_end}
use Rattle.gimli_core_base.specs.Parsers.{part, null_terminated, find_byte, text_to, index_or_end}

-- the bytes of a view with others in their place, and what follows the first k of them
abbrev pub spelled_by : View → List ℕ → View
spelled_by v bytes = record { bytes = bytes; is_big = v.is_big; first = v.first }

abbrev pub rest_after : View → ℕ → List ℕ → View
rest_after v k rest = record { bytes = rest; is_big = v.is_big; first = v.first + k }

pub after_is : (v : View) (xs rest : List ℕ) (k : ℕ) → v.bytes ≡ xs ++ rest → length xs ≡ k
    → after k v ≡ rest_after v k rest
after_is v xs rest k whole len = ap (λ (bs : List ℕ). rest_after v k bs) (ap (drop k) whole ∙ drop_at xs rest k len)

pub prefix_is : (v : View) (xs rest : List ℕ) (k : ℕ) → v.bytes ≡ xs ++ rest → length xs ≡ k
    → prefix k v ≡ spelled_by v xs
prefix_is v xs rest k whole len = ap (spelled_by v) (ap (take k) whole ∙ take_at xs rest k len)

pub part_again : (v : View) (xs rest : List ℕ) (k : ℕ) → v.bytes ≡ xs ++ rest → length xs ≡ k
    → part k v ≡ Ok (spelled_by v xs, rest_after v k rest)
part_again v xs rest k whole len =
    let enough : k ≤ length v.bytes = omega (arith, ap length whole, length-append xs rest) in
    ap (λ (b : Bool). cond {A = Result (View × View) Error} b (Err (unexpected_end v)) (Ok (prefix k v, after k v)))
    (le-ltb _ _ enough)
    ∙ ap (λ (w : View). both w (after k v)) (prefix_is v xs rest k whole len)
    ∙ ap (both (spelled_by v xs)) (after_is v xs rest k whole len)
  where
    both : View → View → Result (View × View) Error
    both w u = Ok (w, u)

-- ---- texts: bytes without a zero byte, and then one

-- the first zero byte is the one after the text
text_long : (xs rest : List ℕ) → list_any (λ x. eqb x 0) xs ≡ false
    → prefix_len (λ x. not (eqb x 0)) (xs ++ 0 ∷ rest) ≡ length xs
text_long [] rest none = refl
text_long (x ∷ xs) rest none =
    let parts = or_parts (eqb x 0) (list_any (λ y. eqb y 0) xs) none in
    ap (λ (b : Bool). cond (not b) (1 + prefix_len (λ y. not (eqb y 0)) (xs ++ 0 ∷ rest)) 0) parts.0
    ∙ ap (λ n. 1 + n) (text_long xs rest parts.1) ∙ one_more (length xs)
  where
    one_more : (n : ℕ) → 1 + n ≡ suc n
    one_more n = omega arith

pub zero_found : (v : View) (xs rest : List ℕ) → list_any (λ x. eqb x 0) xs ≡ false → v.bytes ≡ xs ++ 0 ∷ rest
    → find_byte 0 v ≡ Ok (length xs)
zero_found v xs rest none whole =
    let long = text_long xs rest none in
    let inside : length xs < length (xs ++ 0 ∷ rest) = omega (arith, length-append xs (0 ∷ rest)) in
    ap (λ (bs : List ℕ). index_or_end (position (λ x. eqb x 0) bs) v) whole
    ∙ ap (λ (n : ℕ). index_or_end (cond (ltb n (length (xs ++ 0 ∷ rest))) (Some n) None) v) long
    ∙ ap (λ (b : Bool). index_or_end (cond b (Some (length xs)) None) v) (lt-ltb _ _ inside)

pub text_again : (v : View) (xs rest : List ℕ) → list_any (λ x. eqb x 0) xs ≡ false → v.bytes ≡ xs ++ 0 ∷ rest
    → null_terminated v ≡ Ok (spelled_by v xs, rest_after v (length xs + 1) rest)
text_again v xs rest none whole =
    let both : View → View → Result (View × View) Error = λ w u. Ok (w, u) in
    let regrouped : v.bytes ≡ (xs ++ 0 ∷ []) ++ rest = whole ∙ sym (append_assoc xs (0 ∷ []) rest) in
    ap (λ (r : Result ℕ Error). text_to r v) (zero_found v xs rest none whole)
    ∙ ap (λ (w : View). both w (after (length xs + 1) v)) (prefix_is v xs (0 ∷ rest) (length xs) whole refl)
    ∙ ap (both (spelled_by v xs)) (after_is v (xs ++ 0 ∷ []) rest (length xs + 1) regrouped (length-append xs (0 ∷ [])))
