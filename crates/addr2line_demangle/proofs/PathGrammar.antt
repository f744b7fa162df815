-- Paths as they are written, and as they are read.
use Rattle.std.proofs.Common.{◌≡◌, ℕ, zero, suc, ◌+◌, ◌<◌, ◌≤◌, Bool, true, false, ◌&&◌, ◌==◌, cond, nat_lt, nat_le, List, [], ◌∷◌, ◌++◌, length, take, drop, slice_index, Option, Some, None, option_map, refl, sym, ap, subst, ◌∙◌, arith}
use Rattle.std.specs.Char.{is_ascii_digit}
use Rattle.std.specs.List.{list_all, prefix_len}
use Rattle.std.specs.Str.Parse.{digits_value}
use Rattle.std.proofs.Math.Seq.{take-append_seam, drop-append_seam}
use Rattle.std.proofs.lemmas.Bool.{and_parts, and_from, ltb-true, leb-true, lt-ltb, le-leb, cond-true, cond-false, eqb-true}
use Rattle.std.proofs.lemmas.List.{take-append-drop, length-append, length-take}
use Rattle.std.proofs.lemmas.List.Folds.{length-prefix_len}
use Rattle.addr2line_demangle.specs.LegacyNames.{Element, first_element, length_digits, after_digits, stated_length, MangledPath, add_first, path_end, element_or_end, path_within, path_of}
use Rattle.addr2line_demangle.specs.LegacyNameLaws.{IsElementAndRest, IsPath}
use Rattle.addr2line_demangle.proofs.PathSteps.{step}

abbrev element_at : List ℕ → ℕ → Element
element_at text n = record { text = take n (after_digits text); rest = drop n (after_digits text) }

abbrev has_element : List ℕ → Bool
has_element text =
    nat_lt 0 (prefix_len is_ascii_digit text)
    && nat_le (stated_length text) (length (after_digits text))

-- ---- as written

prefix_len_of_digits : (xs ys : List ℕ) → list_all is_ascii_digit xs ≡ true
    → is_ascii_digit (slice_index ys 0) ≡ false → prefix_len is_ascii_digit (xs ++ ys) ≡ length xs
prefix_len_of_digits [] [] all stops = refl
prefix_len_of_digits [] (y ∷ ys) all stops =
    cond-false (is_ascii_digit y) (1 + prefix_len is_ascii_digit ys) 0 stops
prefix_len_of_digits (x ∷ xs) ys all stops =
    let p = and_parts (is_ascii_digit x) (list_all is_ascii_digit xs) all in
    cond-true (is_ascii_digit x) (1 + prefix_len is_ascii_digit (xs ++ ys)) 0 p.0
    ∙ (let rec = prefix_len_of_digits xs ys p.1 stops in omega (arith, rec))

element_of_digits : (digits e rest : List ℕ) → 0 < length digits
    → list_all is_ascii_digit digits ≡ true → digits_value 10 digits ≡ length e
    → is_ascii_digit (slice_index (e ++ rest) 0) ≡ false
    → first_element (digits ++ (e ++ rest)) ≡ Some (record { text = e; rest = rest })
element_of_digits digits e rest some decimal states all =
    let text = digits ++ (e ++ rest) in
    let n : prefix_len is_ascii_digit text ≡ length digits =
    prefix_len_of_digits digits (e ++ rest) decimal all in
    let d : length_digits text ≡ digits =
    ap (λ (k : ℕ). take k text) n ∙ take-append_seam digits (e ++ rest) in
    let b : after_digits text ≡ e ++ rest =
    ap (λ (k : ℕ). drop k text) n ∙ drop-append_seam digits (e ++ rest) in
    let v : stated_length text ≡ length e = ap (digits_value 10) d ∙ states in
    let l = ap length b ∙ length-append e rest in
    let has =
    and_from _ _ (lt-ltb 0 (prefix_len is_ascii_digit text) (omega (arith, n, some)))
    (le-leb (stated_length text) (length (after_digits text)) (omega (arith, v, l))) in
    cond-true (has_element text) (Some (element_at text (stated_length text))) None has
    ∙ ap (λ (k : ℕ). Some (element_at text k)) v
    ∙ ap (λ (t : List ℕ). Some (record { text = take (length e) t; rest = drop (length e) t })) b
    ∙ ap (λ (t : List ℕ). Some (record { text = t; rest = drop (length e) (e ++ rest) }))
    (take-append_seam e rest)
    ∙ ap (λ (t : List ℕ). Some (record { text = e; rest = t })) (drop-append_seam e rest)

first_of_path : (text e rest : List ℕ) → IsElementAndRest text e rest
    → first_element text ≡ Some (record { text = e; rest = rest })
first_of_path text e rest is =
    ap first_element is.split
    ∙ element_of_digits is.digits e rest is.some is.decimal is.states is.all

end_of_suffix : (suffix : List ℕ)
    → path_of (69 ∷ suffix) ≡ Some (record { elements = []; suffix = suffix })
unfolding path_within
end_of_suffix suffix = refl

pub paths_are_read : (text : List ℕ) (es : List (List ℕ)) (suffix : List ℕ) → IsPath text es suffix
    → path_of text ≡ Some (record { elements = es; suffix = suffix })
paths_are_read text [] suffix is = ap path_of is ∙ end_of_suffix suffix
paths_are_read text (e ∷ es) suffix is =
    step text
    ∙ ap (λ (o : Option Element). element_or_end o (path_end text) path_of)
    (first_of_path text e is.0 is.1)
    ∙ ap (option_map (add_first e)) (paths_are_read is.0 es suffix is.2)

-- ---- as read

next : (n : ℕ) → suc n ≡ 1 + n
next n = omega arith

all_digits : (text : List ℕ) → list_all is_ascii_digit (length_digits text) ≡ true
all_digits [] = refl
all_digits (b ∷ text) =
    elim (is_ascii_digit b) as
    (λ t. is_ascii_digit b ≡ t
    → list_all is_ascii_digit (take (cond t (1 + prefix_len is_ascii_digit text) 0) (b ∷ text))
    ≡ true) [
      | true ↦ λ e.
          let F : ℕ → Type 0 = λ n. list_all is_ascii_digit (take n (b ∷ text)) ≡ true in
          subst F (next (prefix_len is_ascii_digit text))
          (and_from (is_ascii_digit b) _ e (all_digits text))
      | false ↦ λ e. refl
    ] refl

stops : (text : List ℕ) → is_ascii_digit (slice_index (after_digits text) 0) ≡ false
stops [] = refl
stops (b ∷ text) =
    elim (is_ascii_digit b) as
    (λ t. is_ascii_digit b ≡ t
    → is_ascii_digit
    (slice_index (drop (cond t (1 + prefix_len is_ascii_digit text) 0) (b ∷ text)) 0) ≡ false) [
      | true ↦ λ e.
          let F : ℕ → Type 0 = λ n. is_ascii_digit (slice_index (drop n (b ∷ text)) 0) ≡ false in
          subst F (next (prefix_len is_ascii_digit text)) (stops text)
      | false ↦ λ e. e
    ] refl

element_is_read : (text : List ℕ) → has_element text ≡ true
    → IsElementAndRest text (element_at text (stated_length text)).text
    (element_at text (stated_length text)).rest
element_is_read text has =
    let n = prefix_len is_ascii_digit text in
    let k = stated_length text in
    let p = and_parts (nat_lt 0 n) (nat_le k (length (after_digits text))) has in
    let some : 0 < n = ltb-true 0 n p.0 in
    let fits : k ≤ length (after_digits text) = leb-true k (length (after_digits text)) p.1 in
    let l = length-take k (after_digits text) in
    let m = length-prefix_len is_ascii_digit text in
    let whole = take-append-drop k (after_digits text) in
    record {
      digits = length_digits text;
      split = sym (take-append-drop n text) ∙ ap (λ (t : List ℕ). take n text ++ t) (sym whole);
      some = omega (arith, some, m);
      decimal = all_digits text;
      states = omega (arith, fits, l);
      all = ap (λ (t : List ℕ). is_ascii_digit (slice_index t 0)) whole ∙ stops text;
    }

abbrev IsFirst : List ℕ → Option Element → Type 0
IsFirst text None = Unit {0}
IsFirst text (Some e) = IsElementAndRest text e.text e.rest

first_is_read : (text : List ℕ) → IsFirst text (first_element text)
first_is_read text =
    elim (has_element text) as
    (λ b. has_element text ≡ b
    → IsFirst text (cond b (Some (element_at text (stated_length text))) None)) [
      | true ↦ λ e. element_is_read text e
      | false ↦ λ e. tt
    ] refl

end_is_read : (text : List ℕ) (path : MangledPath) → path_end text ≡ Some path
    → IsPath text path.elements path.suffix
end_is_read [] path h = cc
end_is_read (b ∷ text) path h =
    let F : MangledPath → Type 0 = λ p. IsPath (b ∷ text) p.elements p.suffix in
    elim (b == 69) as
    (λ t. (b == 69) ≡ t
    → cond t (Some (record { elements = []; suffix = text })) None ≡ Some path → F path) [
      | true ↦ λ e h. let same : record { elements = []; suffix = text } ≡ path =
          cc in subst F same (ap (λ (x : ℕ). x ∷ text) (eqb-true b 69 e))
      | false ↦ λ e h. cc
    ] refl h

more_is_read : (o : Option MangledPath) (e : Element) (text : List ℕ) (path : MangledPath)
    → ((q : MangledPath) → o ≡ Some q → IsPath e.rest q.elements q.suffix)
    → IsElementAndRest text e.text e.rest → option_map (add_first e.text) o ≡ Some path
    → IsPath text path.elements path.suffix
more_is_read None e text path rest first h = cc
more_is_read (Some q) e text path rest first h =
    let F : MangledPath → Type 0 = λ p. IsPath text p.elements p.suffix in
    let same : add_first e.text q ≡ path = cc in
    subst F same (e.rest, first, rest q refl)

read_within : (n : ℕ) (text : List ℕ) (path : MangledPath) → path_within n text ≡ Some path
    → IsPath text path.elements path.suffix
unfolding path_within
read_within zero text path h = cc
read_within (suc n) text path h =
    elim (first_element text) as
    (λ o. IsFirst text o → element_or_end o (path_end text) (path_within n) ≡ Some path
    → IsPath text path.elements path.suffix) [
      | None ↦ λ _ h. end_is_read text path h
      | Some e ↦
          λ first h. more_is_read (path_within n e.rest) e text path
          (λ q k. read_within n e.rest q k) first h
    ] (first_is_read text) h

pub only_paths_are_read : (text : List ℕ) (path : MangledPath) → path_of text ≡ Some path
    → IsPath text path.elements path.suffix
only_paths_are_read text path h = read_within (length text) text path h
