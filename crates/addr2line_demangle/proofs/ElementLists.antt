-- Lists of elements.
use Rattle.std.proofs.Common.{◌≡◌, ℕ, suc, ◌-◌, ◌≤◌, true, false, List, [], ◌∷◌, ◌++◌, length, take, drop, get_or, map, flat_map, refl, sym, ap, ◌∙◌, arith, Bor}
use Rattle.std.proofs.lemmas.Bool.{cond-true, cond-false}
use Rattle.std.proofs.lemmas.List.{take-map, length-map}
use Rattle.std.proofs.lemmas.List.Folds.{flat_map-map}
use Rattle.addr2line_demangle.specs.LegacyElements.{element_text}
use Rattle.addr2line_demangle.specs.LegacyNames.{is_hash, without_hash, elements_text}

-- the last of one element or more
abbrev last_of : List ℕ → List (List ℕ) → List ℕ
last_of e [] = e
last_of e (f ∷ es) = last_of f es

without_last_hash : (e : List ℕ) (es : List (List ℕ)) → is_hash (last_of e es) ≡ true
    → take (length es) (e ∷ es) ≡ without_hash (e ∷ es)
without_last_hash e [] h = sym (cond-true (is_hash e) [] (e ∷ []) h)
without_last_hash e (f ∷ es) h = ap (λ (l : List (List ℕ)). e ∷ l) (without_last_hash f es h)

without_other_last : (e : List ℕ) (es : List (List ℕ)) → is_hash (last_of e es) ≡ false
    → (e ∷ es) ≡ without_hash (e ∷ es)
without_other_last e [] h = sym (cond-false (is_hash e) [] (e ∷ []) h)
without_other_last e (f ∷ es) h = ap (λ (l : List (List ℕ)). e ∷ l) (without_other_last f es h)

abbrev texts : List (Bor (List ℕ)) → List (List ℕ)
texts xs = map (λ e. e.now) xs

last_text : (x : Bor (List ℕ)) (xs : List (Bor (List ℕ))) (d : Bor (List ℕ))
    → (get_or (x ∷ xs) (length xs) d).now ≡ last_of x.now (texts xs)
last_text x [] d = refl
last_text x (y ∷ xs) d = last_text y xs d

one_less : (n : ℕ) → suc n - 1 ≡ n
one_less n = omega arith

pub hash_at_end : (xs : List (Bor (List ℕ))) (d : Bor (List ℕ)) → 1 ≤ length xs
    → is_hash (get_or xs (length xs - 1) d).now ≡ true
    → map (λ e. e.now) (take (length xs - 1) xs) ≡ without_hash (map (λ e. e.now) xs)
hash_at_end [] d le h = absurd (let none : ⊥ = omega (arith, le) in none)
hash_at_end (x ∷ xs) d le h =
    let is : is_hash (last_of x.now (texts xs)) ≡ true =
    ap is_hash
    (sym (last_text x xs d)
    ∙ ap (λ (n : ℕ). (get_or (x ∷ xs) n d).now) (sym (one_less (length xs)))) ∙ h in
    ap (λ (n : ℕ). texts (take n (x ∷ xs))) (one_less (length xs))
    ∙ sym (take-map (λ (e : Bor (List ℕ)). e.now) (length xs) (x ∷ xs))
    ∙ ap (λ (n : ℕ). take n (texts (x ∷ xs))) (sym (length-map xs (λ (e : Bor (List ℕ)). e.now)))
    ∙ without_last_hash x.now (texts xs) is

pub no_hash_at_end : (xs : List (Bor (List ℕ))) (d : Bor (List ℕ)) → 1 ≤ length xs
    → is_hash (get_or xs (length xs - 1) d).now ≡ false
    → map (λ e. e.now) xs ≡ without_hash (map (λ e. e.now) xs)
no_hash_at_end [] d le h = refl
no_hash_at_end (x ∷ xs) d le h =
    let is : is_hash (last_of x.now (texts xs)) ≡ false =
    ap is_hash
    (sym (last_text x xs d)
    ∙ ap (λ (n : ℕ). (get_or (x ∷ xs) n d).now) (sym (one_less (length xs)))) ∙ h in
    without_other_last x.now (texts xs) is

pub elements_text_parts : (xs : List (Bor (List ℕ))) (d : Bor (List ℕ)) → 1 ≤ length xs
    → elements_text (map (λ e. e.now) xs)
    ≡ element_text (get_or xs 0 d).now
    ++ flat_map (λ e. 58 ∷ 58 ∷ element_text e.now) (drop 1 xs)
elements_text_parts [] d le = absurd (let none : ⊥ = omega (arith, le) in none)
elements_text_parts (x ∷ xs) d le =
    ap (λ (t : List ℕ). element_text x.now ++ t)
    (flat_map-map (λ (f : List ℕ). 58 ∷ 58 ∷ element_text f) (λ (e : Bor (List ℕ)). e.now) xs)
