-- A path's elements one after the other.
use Rattle.std.proofs.Common.{◌≡◌, ℕ, zero, suc, ◌<◌, ◌≤◌, ◌≢◌, Bool, true, false, ◌&&◌, ◌==◌, cond, nat_lt, nat_le, List, [], ◌∷◌, ◌++◌, length, take, drop, Option, Some, None, option_map, IsAscii, refl, sym, ap, subst, ◌∙◌, arith}
use Rattle.std.specs.Char.{is_ascii_digit}
use Rattle.std.specs.List.{prefix_len}
use Rattle.std.proofs.lemmas.Bool.{and_parts, ltb-true, cond-false, ne_eqb}
use Rattle.std.proofs.lemmas.List.{append_assoc, append-nil, length-drop}
use Rattle.std.proofs.lemmas.List.Sums.{prefix_len-le-length}
use Rattle.std.proofs.lemmas.Str.{IsAscii-drop}
use Rattle.addr2line_demangle.specs.LegacyNames.{Element, first_element, after_digits, stated_length, MangledPath, add_first, path_end, element_or_end, path_within, path_of}

abbrev has_element : List ℕ → Bool
has_element text =
    nat_lt 0 (prefix_len is_ascii_digit text)
    && nat_le (stated_length text) (length (after_digits text))

abbrev IsShorter : List ℕ → Option Element → Type 0
IsShorter text None = Unit {0}
IsShorter text (Some e) = length e.rest < length text

-- an element takes a byte or more
pub shorter : (text : List ℕ) → IsShorter text (first_element text)
shorter text =
    elim (has_element text) as (λ b. has_element text ≡ b
    → IsShorter text
    (cond b (Some
    (record {
      text =
          take (stated_length text) (after_digits text);
      rest =
          drop (stated_length text) (after_digits text);
    })) None)) [
      | true ↦ λ e.
          let some =
          ltb-true 0 (prefix_len is_ascii_digit text)
          (and_parts (nat_lt 0 (prefix_len is_ascii_digit text)) _ e).0 in
          let le = prefix_len-le-length is_ascii_digit text in
          let l = length-drop (prefix_len is_ascii_digit text) text in
          let k = length-drop (stated_length text) (after_digits text) in
          omega (arith, some, le, l, k)
      | false ↦ λ e. tt
    ] refl

abbrev IsAsciiRest : Option Element → Type 0
IsAsciiRest None = Unit {0}
IsAsciiRest (Some e) = IsAscii e.rest

ascii_rest : (text : List ℕ) → IsAscii text → IsAsciiRest (first_element text)
ascii_rest text h =
    elim (has_element text) as (λ b.
    IsAsciiRest
    (cond b (Some
    (record {
      text =
          take (stated_length text) (after_digits text);
      rest =
          drop (stated_length text) (after_digits text);
    })) None)) [
      | true ↦
          IsAscii-drop (after_digits text) (stated_length text)
          (IsAscii-drop text (prefix_len is_ascii_digit text) h)
      | false ↦ tt
    ]

pub ascii_some : (text : List ℕ) (e : Element) → Some e ≡ first_element text → IsAscii text
    → IsAscii e.rest
ascii_some text e h ascii = subst IsAsciiRest (sym h) (ascii_rest text ascii)

-- a step for each byte is enough
enough : (n m : ℕ) (text : List ℕ) → length text ≤ n → length text ≤ m
    → path_within n text ≡ path_within m text
unfolding path_within
enough zero zero text le ge = refl
enough zero (suc m) [] le ge = refl
enough zero (suc m) (b ∷ text) le ge = absurd (let none : ⊥ = omega (arith, le) in none)
enough (suc n) zero [] le ge = refl
enough (suc n) zero (b ∷ text) le ge = absurd (let none : ⊥ = omega (arith, ge) in none)
enough (suc n) (suc m) text le ge =
    elim (first_element text) as
    (λ o. IsShorter text o
    → element_or_end o (path_end text) (path_within n)
    ≡ element_or_end o (path_end text) (path_within m)) [
      | None ↦ λ _. refl
      | Some e ↦
          λ less. ap (option_map (add_first e.text))
          (enough n m e.rest (omega (arith, less, le)) (omega (arith, less, ge)))
    ] (shorter text)

-- the first element, and the path after it
pub step : (text : List ℕ)
    → path_of text ≡ element_or_end (first_element text) (path_end text) path_of
unfolding path_within
step [] = refl
step (b ∷ text) =
    elim (first_element (b ∷ text)) as (λ o. IsShorter (b ∷ text) o
    → element_or_end o (path_end (b ∷ text)) (path_within (length text))
    ≡ element_or_end o (path_end (b ∷ text)) path_of) [
      | None ↦ λ _. refl
      | Some e ↦
          λ less. ap (option_map (add_first e.text))
          (enough (length text) (length e.rest) e.rest (omega (arith, less)) (omega arith))
    ] (shorter (b ∷ text))

-- ---- elements already read

-- further elements before those of a path
abbrev pub with_elements_before : List (List ℕ) → MangledPath → MangledPath
with_elements_before es path = record { elements = es ++ path.elements; suffix = path.suffix }

abbrev pub path_after : List (List ℕ) → Option MangledPath → Option MangledPath
path_after es path = option_map (with_elements_before es) path

one_more : (es : List (List ℕ)) (e : List ℕ) (path : Option MangledPath)
    → path_after es (option_map (add_first e) path) ≡ path_after (es ++ e ∷ []) path
one_more es e None = refl
one_more es e (Some path) =
    ap (λ (l : List (List ℕ)). Some (record { elements = l; suffix = path.suffix }))
    (sym (append_assoc es (e ∷ []) path.elements))

pub path_after_one : (es : List (List ℕ)) (e : Element) (text : List ℕ)
    → Some e ≡ first_element text
    → path_after es (path_of text) ≡ path_after (es ++ e.text ∷ []) (path_of e.rest)
path_after_one es e text h =
    ap (path_after es)
    (step text ∙ ap (λ (o : Option Element). element_or_end o (path_end text) path_of) (sym h))
    ∙ one_more es e.text (path_of e.rest)

path_after_all_but_end : (es : List (List ℕ)) (text : List ℕ) → None ≡ first_element text
    → path_after es (path_of text) ≡ path_after es (path_end text)
path_after_all_but_end es text h =
    ap (path_after es)
    (step text ∙ ap (λ (o : Option Element). element_or_end o (path_end text) path_of) (sym h))

pub path_after_all : (es : List (List ℕ)) (text suffix : List ℕ) → None ≡ first_element text
    → text ≡ (69 ∷ suffix)
    → path_after es (path_of text) ≡ Some (record { elements = es; suffix = suffix })
path_after_all es text suffix h e =
    path_after_all_but_end es text h ∙ ap (λ (t : List ℕ). path_after es (path_end t)) e
    ∙ ap (λ (l : List (List ℕ)). Some (record { elements = l; suffix = suffix })) (append-nil es)

no_end : (text : List ℕ) → ((rest : List ℕ) → text ≢ (69 ∷ rest)) → path_end text ≡ None
no_end [] h = refl
no_end (b ∷ text) h =
    cond-false (b == 69) _ None (ne_eqb b 69 (λ e. h text (ap (λ (x : ℕ). x ∷ text) e)))

pub no_path_without_end : (es : List (List ℕ)) (text : List ℕ) → None ≡ first_element text
    → ((rest : List ℕ) → text ≢ (69 ∷ rest)) → path_after es (path_of text) ≡ None
no_path_without_end es text h k =
    path_after_all_but_end es text h ∙ ap (path_after es) (no_end text k)
