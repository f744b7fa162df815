-- A suffix `.llvm.` with its mark is at one place only: after one there is no other.
use Rattle.std.proofs.Common.{◌≡◌, ℕ, zero, suc, ◌+◌, ◌≤◌, Bool, true, false, ◌||◌, ◌==◌, List, [], ◌∷◌, ◌++◌, length, take, drop, get_or, None, codes, bytes_eq, refl, sym, ap, ⊎_elim, ◌∙◌, arith}
use Rattle.std.specs.Int.{is_in_range}
use Rattle.std.specs.Str.Pattern.{RFindsText, SplitsAroundMatch}
use Rattle.std.proofs.lemmas.Bool.{and_parts, cond-true, cond-false, false_from_ne_true, cases_lt}
use Rattle.std.proofs.lemmas.List.{take-append-drop, drop-drop}
use Rattle.std.proofs.lemmas.Slice.Eq.{bytes_eq-Decides}
use Rattle.addr2line_demangle.specs.LegacyNames.{is_mark, is_llvm_suffix, without_llvm}

-- a text that begins with ".llvm."
abbrev llvm_and : List ℕ → List ℕ
llvm_and rest = 46 ∷ 108 ∷ 108 ∷ 118 ∷ 109 ∷ 46 ∷ rest

suffix_parts : (text : List ℕ) → is_llvm_suffix text ≡ true
    → (text ≡ llvm_and (drop 6 text)) × (is_mark (drop 6 text) ≡ true)
suffix_parts text h =
    let p = and_parts (bytes_eq (take 6 text) (codes ".llvm.")) (is_mark (drop 6 text)) h in (
      sym (take-append-drop 6 text)
          ∙ ap (λ (t : List ℕ). t ++ drop 6 text)
          ((bytes_eq-Decides (take 6 text) (codes ".llvm.")).0 p.0),
      p.1,
    )

-- no 'm' is in a mark, nor anywhere after the first dot of a suffix but one
no_m : (j : ℕ) (mark rest : List ℕ) → is_mark mark ≡ true → drop j mark ≡ (109 ∷ rest) → ⊥
no_m zero [] rest h e = cc
no_m zero (b ∷ mark) rest h e =
    let p = and_parts (is_in_range 65 70 b || is_in_range 48 57 b || (b == 64)) (is_mark mark) h in
    let is : b ≡ 109 = cc in
    let F : ℕ → Bool = λ n. is_in_range 65 70 n || is_in_range 48 57 n || (n == 64) in
    let m : F 109 ≡ true = sym (ap F is) ∙ p.0 in
    cc
no_m (suc j) [] rest h e = cc
no_m (suc j) (b ∷ mark) rest h e =
    no_m j mark rest
    (and_parts (is_in_range 65 70 b || is_in_range 48 57 b || (b == 64)) (is_mark mark) h).1 e

no_m_after_dot : (j : ℕ) (mark rest : List ℕ) → is_mark mark ≡ true
    → drop j (46 ∷ mark) ≡ (109 ∷ rest) → ⊥
no_m_after_dot zero mark rest h e =
    let is : 46 ≡ 109 = ap (λ (t : List ℕ). get_or t 0 0) e in
    omega (arith, is)
no_m_after_dot (suc j) mark rest h e = no_m j mark rest h e

-- four bytes dropped before or after others
drop_swap : (j : ℕ) (text : List ℕ) → drop j (drop 4 text) ≡ drop 4 (drop j text)
drop_swap j text =
    let sum : 4 + j ≡ j + 4 = omega arith in
    drop-drop j 4 text ∙ ap (λ (n : ℕ). drop n text) sum ∙ sym (drop-drop 4 j text)

-- where ".llvm." is at the fifth byte of a suffix or after it, so is its 'm'
llvm_at_fifth_byte : (j : ℕ) (text rest : List ℕ) → drop j text ≡ llvm_and rest
    → drop j (drop 4 text) ≡ (109 ∷ 46 ∷ rest)
llvm_at_fifth_byte j text rest e = drop_swap j text ∙ ap (drop 4) e

no_later_suffix : (i : ℕ) (text rest : List ℕ) → drop (suc i) text ≡ llvm_and rest
    → is_llvm_suffix text ≡ false
no_later_suffix i text rest e = false_from_ne_true (is_llvm_suffix text) (λ h.
    let p = suffix_parts text h in
    no_m_after_dot i (drop 6 text) (46 ∷ rest) p.1
    (ap (λ (t : List ℕ). drop (suc i) (drop 4 t)) (sym p.0) ∙ llvm_at_fifth_byte (suc i) text rest e))

never_in_nothing : (i : ℕ) (rest : List ℕ) → drop i [] ≡ llvm_and rest → ⊥
never_in_nothing zero rest e = cc
never_in_nothing (suc i) rest e = cc

suffix_at : (i : ℕ) (text rest : List ℕ) → drop i text ≡ llvm_and rest → is_mark rest ≡ true
    → without_llvm text ≡ take i text
suffix_at i [] rest e m = absurd (never_in_nothing i rest e)
suffix_at zero (b ∷ text) rest e m =
    cond-true _ [] (b ∷ without_llvm text) (ap is_llvm_suffix e ∙ m)
suffix_at (suc i) (b ∷ text) rest e m =
    cond-false _ [] (b ∷ without_llvm text) (no_later_suffix i (b ∷ text) rest e)
    ∙ ap (λ (t : List ℕ). b ∷ t) (suffix_at i text rest e m)

-- no suffix at any place
no_suffix : (text : List ℕ) → ((i : ℕ) → i ≤ length text → is_llvm_suffix (drop i text) ≡ false)
    → without_llvm text ≡ text
no_suffix [] h = refl
no_suffix (b ∷ text) h =
    cond-false _ [] (b ∷ without_llvm text) (h 0 (omega arith))
    ∙ ap (λ (t : List ℕ). b ∷ t) (no_suffix text (λ i le. h (suc i) (omega arith)))

pub llvm_cut : (text front mark : List ℕ)
    → SplitsAroundMatch (RFindsText (codes ".llvm.")) text front mark → is_mark mark ≡ true
    → front ≡ without_llvm text
llvm_cut text front mark s m =
    s.3 ∙ sym (suffix_at s.0 text (drop s.1 text) s.2.1.split (ap is_mark (sym s.4) ∙ m))

-- the last ".llvm." has no mark after it
none_at : (i k : ℕ) (text rest : List ℕ) → drop i text ≡ llvm_and rest → is_mark rest ≡ false
    → k ≤ i → is_llvm_suffix (drop k text) ≡ false
none_at zero zero text rest e m le = ap is_llvm_suffix e ∙ m
none_at zero (suc k) text rest e m le = absurd (let none : ⊥ = omega (arith, le) in none)
none_at (suc i) zero text rest e m le = no_later_suffix i text rest e
none_at (suc i) (suc k) [] rest e m le = absurd (never_in_nothing (suc i) rest e)
none_at (suc i) (suc k) (b ∷ text) rest e m le = none_at i k text rest e m (omega (arith, le))

suffix_text : (k : ℕ) (text : List ℕ) → ((rest : List ℕ) → drop k text ≡ llvm_and rest → ⊥)
    → is_llvm_suffix (drop k text) ≡ false
suffix_text k text lacks =
    false_from_ne_true _ (λ h. lacks (drop 6 (drop k text)) (suffix_parts (drop k text) h).0)

pub llvm_other : (text front mark : List ℕ)
    → SplitsAroundMatch (RFindsText (codes ".llvm.")) text front mark → is_mark mark ≡ false
    → text ≡ without_llvm text
llvm_other text front mark s m =
    sym (no_suffix text (λ k le. ⊎_elim {C = is_llvm_suffix (drop k text) ≡ false}
    (λ lt. suffix_text k text (s.2.0 k lt le))
    (λ le. none_at s.0 k text (drop s.1 text) s.2.1.split (ap is_mark (sym s.4) ∙ m) le)
    (cases_lt s.0 k)))

pub llvm_none : (text : List ℕ) → RFindsText (codes ".llvm.") text None → text ≡ without_llvm text
llvm_none text lacks = sym (no_suffix text (λ k le. suffix_text k text (lacks k le)))
