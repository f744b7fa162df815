-- Two dots in a text, found and replaced.
use Rattle.std.proofs.Common.{◌≡◌, ℕ, zero, suc, ◌<◌, ◌≤◌, false, ◌&&◌, ◌==◌, List, [], ◌∷◌, ◌++◌, length, take, drop, None, refl, sym, ap, ◌∙◌, arith}
use Rattle.std.proofs.lemmas.Bool.{eqb-true, and_parts, false_from_ne_true, cond-false}
use Rattle.std.specs.Str.Pattern.{FindsText, SplitsAroundMatch}
use Rattle.addr2line_demangle.specs.LegacyElements.{dots_as_colons}

-- no two dots at the start
not_here : (a b : ℕ) (text : List ℕ) → ((rest : List ℕ) → (a ∷ b ∷ text) ≡ (46 ∷ 46 ∷ rest) → ⊥)
    → ((a == 46) && (b == 46)) ≡ false
not_here a b text lacks = false_from_ne_true _ (λ h.
    let p = and_parts (a == 46) (b == 46) h in
    lacks text
    (ap (λ (x : ℕ). x ∷ b ∷ text) (eqb-true a 46 p.0)
    ∙ ap (λ (x : ℕ). 46 ∷ x ∷ text) (eqb-true b 46 p.1)))

-- where there are none
pub dots_none : (text : List ℕ)
    → ((i : ℕ) → i ≤ length text → (rest : List ℕ) → drop i text ≡ (46 ∷ 46 ∷ rest) → ⊥)
    → dots_as_colons text ≡ text
dots_none [] lacks = refl
dots_none (a ∷ []) lacks = refl
dots_none (a ∷ b ∷ text) lacks =
    cond-false _ _ (a ∷ dots_as_colons (b ∷ text)) (not_here a b text (lacks 0 (omega arith)))
    ∙ ap (λ (t : List ℕ). a ∷ t) (dots_none (b ∷ text) (λ i le. lacks (suc i) (omega arith)))

-- where the first are at i
pub dots_at : (i : ℕ) (text back : List ℕ)
    → ((k : ℕ) → k < i → (rest : List ℕ) → drop k text ≡ (46 ∷ 46 ∷ rest) → ⊥)
    → drop i text ≡ (46 ∷ 46 ∷ back)
    → dots_as_colons text ≡ take i text ++ (58 ∷ 58 ∷ dots_as_colons back)
dots_at zero text back lacks here = ap dots_as_colons here
dots_at (suc i) [] back lacks here = cc
dots_at (suc zero) (a ∷ []) back lacks here = cc
dots_at (suc (suc i)) (a ∷ []) back lacks here = cc
dots_at (suc i) (a ∷ b ∷ text) back lacks here =
    cond-false _ _ (a ∷ dots_as_colons (b ∷ text)) (not_here a b text (lacks 0 (omega arith)))
    ∙ ap (λ (t : List ℕ). a ∷ t)
    (dots_at i (b ∷ text) back (λ k lt. lacks (suc k) (omega arith)) here)

-- what the standard library states of a text cut at two dots, and of one without
pub dots_whole : (text : List ℕ) → FindsText (46 ∷ 46 ∷ []) text None → text ≡ dots_as_colons text
dots_whole text none = sym (dots_none text none)

pub dots_cut : (text front back : List ℕ)
    → SplitsAroundMatch (FindsText (46 ∷ 46 ∷ [])) text front back
    → dots_as_colons text ≡ front ++ (58 ∷ 58 ∷ dots_as_colons back)
dots_cut text front back s =
    dots_at s.0 text (drop s.1 text) s.2.0 s.2.1.split
    ∙ ap (λ (t : List ℕ). t ++ (58 ∷ 58 ∷ dots_as_colons (drop s.1 text))) (sym s.3)
    ∙ ap (λ (t : List ℕ). front ++ (58 ∷ 58 ∷ dots_as_colons t)) (sym s.4)
