-- Elements whose text is the element.
use Rattle.std.proofs.Common.{◌≡◌, ℕ, ◌+◌, Bool, true, false, not, ◌&&◌, ◌==◌, List, [], ◌∷◌, length, refl, ap, ◌∙◌, arith}
use Rattle.std.specs.List.{list_all, position_or_len}
use Rattle.std.proofs.lemmas.Bool.{and_parts, and_left, and_right, not-true, cond-true, cond-false}
use Rattle.addr2line_demangle.specs.LegacyElements.{dots_as_colons, without_underscore, element_text}
use Rattle.addr2line_demangle.proofs.ElementParts.{rest_text, rest_plain}

abbrev is_plain : ℕ → Bool
is_plain b = not (b == 36) && not (b == 46)

plain_parts : (b : ℕ) (text : List ℕ) → list_all is_plain (b ∷ text) ≡ true
    → ((b == 36) ≡ false) × ((b == 46) ≡ false) × (list_all is_plain text ≡ true)
plain_parts b text h =
    let p = and_parts (is_plain b) (list_all is_plain text) h in
    let q = and_parts (not (b == 36)) (not (b == 46)) p.0 in
    (not-true (b == 36) q.0, not-true (b == 46) q.1, p.1)

no_dollar : (text : List ℕ) → list_all is_plain text ≡ true
    → position_or_len (λ b. b == 36) text ≡ length text
no_dollar [] h = refl
no_dollar (b ∷ text) h =
    let p = plain_parts b text h in
    cond-true (not (b == 36)) (1 + position_or_len (λ b. b == 36) text) 0 (ap not p.0)
    ∙ (let rec = no_dollar text p.2 in omega (arith, rec))

no_dots : (text : List ℕ) → list_all is_plain text ≡ true → dots_as_colons text ≡ text
no_dots [] h = refl
no_dots (a ∷ []) h = refl
no_dots (a ∷ b ∷ text) h =
    let p = plain_parts a (b ∷ text) h in
    cond-false _ _ (a ∷ dots_as_colons (b ∷ text)) (and_left (a == 46) (b == 46) p.1)
    ∙ ap (λ (t : List ℕ). a ∷ t) (no_dots (b ∷ text) p.2)

no_underscore : (text : List ℕ) → list_all is_plain text ≡ true → without_underscore text ≡ text
no_underscore [] h = refl
no_underscore (a ∷ []) h = cond-false _ [] (a ∷ []) (and_right (a == 95) false refl)
no_underscore (a ∷ b ∷ text) h =
    let p = plain_parts a (b ∷ text) h in
    cond-false _ (b ∷ text) (a ∷ b ∷ text)
    (and_right (a == 95) (b == 36) (plain_parts b text p.2).0)

pub plain_elements_are_unchanged : (element : List ℕ)
    → list_all (λ b. not (b == 36) && not (b == 46)) element ≡ true → element_text element ≡ element
plain_elements_are_unchanged element h =
    ap rest_text (no_underscore element h) ∙ rest_plain element (no_dollar element h)
    ∙ no_dots element h
