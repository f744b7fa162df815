-- An element's text, from one dollar sign to the next.
use Rattle.std.proofs.Common.{◌≡◌, ℕ, ◌+◌, ◌<◌, Bool, true, false, not, cond, ◌==◌, List, [], ◌∷◌, ◌++◌, length, Option, Some, None, option_map, refl, sym, ap, subst, ◌∙◌, arith, encode_utf8, Result, Ok, Err, OnOk, is_ok, if◌then◌else◌, append_assoc, Bor, lit<}
use Rattle.std.specs.List.{slice_split, join_with_byte, onto_first, position_or_len, before_first, after_first}
use Rattle.std.proofs.lemmas.Bool.{eqb-true, eqb-false}
use Rattle.std.proofs.lemmas.List.Splits.{slice_split_first, join_with_byte-slice_split}
use Rattle.std.proofs.lemmas.List.Sums.{prefix_len-le-length}
use Rattle.std.proofs.lemmas.List.{length-drop}
use Rattle.std.proofs.lemmas.Str.Pattern.{IsSplitOnceResult, split_once_first}
use Rattle.addr2line_demangle.specs.LegacyElements.{dots_as_colons, character_of, character_then, parts_text, Replacement, first_replacement}

abbrev is_dollar : ℕ → Bool
is_dollar b = b == 36

-- the text of an element from a place after a word on
abbrev pub rest_text : List ℕ → List ℕ
rest_text rest = parts_text (slice_split (λ b. b == 36) rest)

-- the text of an element from a dollar sign on
abbrev pub after_dollar : List ℕ → Option Replacement → List ℕ
after_dollar tail None = 36 ∷ tail
after_dollar tail (Some r) = encode_utf8 r.character ++ rest_text r.rest

-- a list that isn't empty
abbrev HasFirst : List (List ℕ) → Type 0
HasFirst parts = (x : List ℕ) × (xs : List (List ℕ)) × (parts ≡ (x ∷ xs))

onto_has_first : (b : ℕ) (parts : List (List ℕ)) → HasFirst (onto_first b parts)
onto_has_first b [] = (b ∷ [], [], refl)
onto_has_first b (x ∷ xs) = (b ∷ x, xs, refl)

split_has_first : (text : List ℕ) → HasFirst (slice_split is_dollar text)
split_has_first [] = ([], [], refl)
split_has_first (b ∷ text) =
    elim (is_dollar b) as
    (λ t. HasFirst
    (cond t ([] ∷ slice_split is_dollar text) (onto_first b (slice_split is_dollar text)))) [
      | true ↦ ([], slice_split is_dollar text, refl)
      | false ↦ onto_has_first b (slice_split is_dollar text)
    ]

-- a text without a dollar sign is one part
split_none : (text : List ℕ) → position_or_len is_dollar text ≡ length text
    → slice_split is_dollar text ≡ (text ∷ [])
split_none [] h = refl
split_none (b ∷ text) h =
    elim (is_dollar b) as
    (λ t. cond (not t) (1 + position_or_len is_dollar text) 0 ≡ length (b ∷ text)
    → cond t ([] ∷ slice_split is_dollar text) (onto_first b (slice_split is_dollar text))
    ≡ ((b ∷ text) ∷ [])) [
      | true ↦ λ e. absurd (let no : ⊥ = omega (arith, e) in no)
      | false ↦ λ e. ap (onto_first b) (split_none text (omega (arith, e)))
    ] h

pub rest_plain : (rest : List ℕ) → position_or_len (λ b. b == 36) rest ≡ length rest
    → rest_text rest ≡ dots_as_colons rest
rest_plain rest h = ap parts_text (split_none rest h)

then_parts : (plain word : List ℕ) (parts : List (List ℕ)) → HasFirst parts
    → parts_text (plain ∷ word ∷ parts)
    ≡ dots_as_colons plain
    ++ character_then (character_of word) (parts_text parts)
    (36 ∷ join_with_byte 36 (word ∷ parts))
then_parts plain word parts (x, xs, e) =
    let F : List (List ℕ) → Type 0 =
    λ ps. parts_text (plain ∷ word ∷ ps)
    ≡ dots_as_colons plain
    ++ character_then (character_of word) (parts_text ps)
    (36 ∷ join_with_byte 36 (word ∷ ps)) in
    subst F (sym e) refl

then_replacement : (o : Option ℕ) (tail rest : List ℕ)
    → character_then o (rest_text rest) (36 ∷ tail)
    ≡ after_dollar tail (option_map (λ c. record { character = c; rest = rest }) o)
then_replacement None tail rest = refl
then_replacement (Some c) tail rest = refl

-- where there is a dollar sign
dollar_at : (plain tail : List ℕ) → position_or_len is_dollar tail < length tail
    → parts_text (plain ∷ slice_split is_dollar tail) ≡ dots_as_colons plain
    ++ after_dollar tail
    (option_map (λ c. record { character = c; rest = after_first is_dollar tail })
    (character_of (before_first is_dollar tail)))
dollar_at plain tail lt =
    let word = before_first is_dollar tail in
    let rest = after_first is_dollar tail in
    let first : slice_split is_dollar tail ≡ (word ∷ slice_split is_dollar rest) =
    slice_split_first is_dollar tail 0 lt in
    let back : join_with_byte 36 (word ∷ slice_split is_dollar rest) ≡ tail =
    ap (join_with_byte 36) (sym first) ∙ join_with_byte-slice_split 36 tail in
    ap (λ (ps : List (List ℕ)). parts_text (plain ∷ ps)) first
    ∙ then_parts plain word (slice_split is_dollar rest) (split_has_first rest)
    ∙ ap (λ (t : List ℕ).
    dots_as_colons plain ++ character_then (character_of word) (rest_text rest) (36 ∷ t)) back
    ∙ ap (λ (t : List ℕ). dots_as_colons plain ++ t)
    (then_replacement (character_of word) tail rest)

after_plain : (plain tail : List ℕ)
    → parts_text (plain ∷ slice_split is_dollar tail)
    ≡ dots_as_colons plain ++ after_dollar tail (first_replacement tail)
after_plain plain tail =
    elim (position_or_len is_dollar tail == length tail) as
    (λ b. (position_or_len is_dollar tail == length tail) ≡ b
    → parts_text (plain ∷ slice_split is_dollar tail) ≡ dots_as_colons plain
    ++ after_dollar tail
    (cond b None
    (option_map (λ c. record { character = c; rest = after_first is_dollar tail })
    (character_of (before_first is_dollar tail))))) [
      | true ↦
          λ e. ap (λ (ps : List (List ℕ)). parts_text (plain ∷ ps))
          (split_none tail (eqb-true _ _ e))
      | false ↦ λ e.
          let ne = eqb-false (position_or_len is_dollar tail) (length tail) e in
          let le = prefix_len-le-length (λ b. not (is_dollar b)) tail in
          dollar_at plain tail (omega (arith, ne, le))
    ] refl

pub rest_step : (rest plain tail : List ℕ) → position_or_len (λ b. b == 36) rest < length rest
    → plain ≡ before_first (λ b. b == 36) rest → tail ≡ after_first (λ b. b == 36) rest
    → rest_text rest ≡ dots_as_colons plain ++ after_dollar tail (first_replacement tail)
rest_step rest plain tail lt p q =
    ap parts_text (slice_split_first is_dollar rest 0 lt)
    ∙ after_plain (before_first is_dollar rest) (after_first is_dollar rest)
    ∙ ap (λ (t : List ℕ).
    dots_as_colons t
    ++ after_dollar (after_first is_dollar rest)
    (first_replacement (after_first is_dollar rest))) (sym p)
    ∙ ap (λ (t : List ℕ). dots_as_colons plain ++ after_dollar t (first_replacement t)) (sym q)

-- the same of a text that was split, with what its second part begins with
pub rest_split : (rest : List ℕ) (plain tail : Bor (List ℕ)) (o : Option Replacement)
    → IsSplitOnceResult 36 rest (Some (plain, tail)) → o ≡ first_replacement tail.now
    → rest_text rest ≡ dots_as_colons plain.now ++ after_dollar tail.now o
rest_split rest plain tail o split is =
    let cut = split_once_first 36 rest (Some (plain, tail)) split (lit< tt) in
    rest_step rest plain.now tail.now cut.0 cut.1 cut.2
    ∙ ap (λ (r : Option Replacement). dots_as_colons plain.now ++ after_dollar tail.now r) (sym is)

-- ---- the rest is shorter

pub after_shorter : (rest : List ℕ) → position_or_len (λ b. b == 36) rest < length rest
    → length (after_first (λ b. b == 36) rest) < length rest
after_shorter rest lt =
    let l = length-drop (position_or_len is_dollar rest + 1) rest in omega (arith, lt, l)

abbrev IsShorter : List ℕ → Option Replacement → Type 0
IsShorter text None = Unit {0}
IsShorter text (Some r) = length r.rest < length text

some_shorter : (text rest : List ℕ) (o : Option ℕ) → length rest < length text
    → IsShorter text (option_map (λ c. record { character = c; rest = rest }) o)
some_shorter text rest None lt = tt
some_shorter text rest (Some c) lt = lt

replacement_shorter : (tail : List ℕ) → IsShorter tail (first_replacement tail)
replacement_shorter tail =
    elim (position_or_len is_dollar tail == length tail) as
    (λ b. (position_or_len is_dollar tail == length tail) ≡ b
    → IsShorter tail
    (cond b None
    (option_map (λ c. record { character = c; rest = after_first is_dollar tail })
    (character_of (before_first is_dollar tail))))) [
      | true ↦ λ e. tt
      | false ↦ λ e.
          let ne = eqb-false (position_or_len is_dollar tail) (length tail) e in
          let le = prefix_len-le-length (λ b. not (is_dollar b)) tail in
          some_shorter tail (after_first is_dollar tail)
          (character_of (before_first is_dollar tail))
          (after_shorter tail (omega (arith, ne, le)))
    ] refl

pub shorter_some : (tail : List ℕ) (r : Replacement) → Some r ≡ first_replacement tail
    → length r.rest < length tail
shorter_some tail r e =
    let F : Option Replacement → Type 0 =
    IsShorter tail in subst F (sym e) (replacement_shorter tail)

-- ---- texts appended one after the other

pub push_two : (old first both plain more rest whole : List ℕ)
    → first ≡ old ++ plain → both ≡ first ++ more → whole ≡ plain ++ (more ++ rest)
    → both ++ rest ≡ old ++ whole
push_two old first both plain more rest whole p q e =
    ap (λ (t : List ℕ). t ++ rest) (q ∙ ap (λ (t : List ℕ). t ++ more) p)
    ∙ append_assoc (old ++ plain) more rest ∙ append_assoc old plain (more ++ rest)
    ∙ ap (λ (t : List ℕ). old ++ t) (sym e)

pub push_last : {T E : Type 0} (r : Result T E) (new old text whole : List ℕ)
    → new ≡ (if is_ok r then old ++ text else old) → old ++ text ≡ whole → OnOk r (new ≡ whole)
push_last (Ok x) new old text whole h e = h ∙ e
push_last (Err x) new old text whole h e = tt

pub then_on_ok : {T E : Type 0} (r : Result T E) (new text whole : List ℕ) → OnOk r (new ≡ text)
    → text ≡ whole → OnOk r (new ≡ whole)
then_on_ok (Ok x) new text whole h e = h ∙ e
then_on_ok (Err x) new text whole h e = tt
