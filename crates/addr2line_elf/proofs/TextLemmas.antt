-- A text that ends at a zero byte, compared with another.
use Rattle.std.proofs.Common.{◌≡◌, ℕ, zero, suc, ◌+◌, Bool, true, false, cond, not, ◌&&◌, List, [], ◌∷◌, length, take, min, eqb, ltb, Option, Some, None, option_map, refl, ap, sym, ◌∙◌, inl, inr, arith}
use Rattle.std.specs.List.{position_or_len}
use Rattle.std.proofs.lemmas.Bool.{cases_lt, lt-ltb, le-ltb}
use Rattle.std.proofs.lemmas.List.{take_min}
use Rattle.addr2line_elf.specs.ElfTexts.{text_before_zero, is_text}

-- the bytes before the first zero byte, from the first on
abbrev pub before : List ℕ → Option (List ℕ)
before [] = None
before (b ∷ bs) = cond (eqb b 0) (Some []) (option_map (λ t. b ∷ t) (before bs))

abbrev is_zero : ℕ → Bool
is_zero b = eqb b 0

abbrev up_to : ℕ → List ℕ → Option (List ℕ)
up_to n bs = option_map (λ k. take k bs) (cond (ltb n (length bs)) (Some n) None)

up_to-more : (n b : ℕ) (bs : List ℕ) → up_to (1 + n) (b ∷ bs) ≡ option_map (λ t. b ∷ t) (up_to n bs)
up_to-more n b bs =
    let one : 1 + n ≡ suc n = omega arith in
    elim (cases_lt n (length bs)) [
      | inl below ↦
          ap (λ t. option_map (λ k. take k (b ∷ bs)) (cond t (Some (1 + n)) None))
          (lt-ltb (1 + n) (length (b ∷ bs)) (omega arith))
          ∙ ap (λ k. Some (take k (b ∷ bs))) one
          ∙ sym (ap (λ t. option_map (λ u. b ∷ u) (option_map (λ k. take k bs) (cond t (Some n) None)))
          (lt-ltb n (length bs) below))
      | inr over ↦
          ap (λ t. option_map (λ k. take k (b ∷ bs)) (cond t (Some (1 + n)) None))
          (le-ltb (1 + n) (length (b ∷ bs)) (omega arith))
          ∙ sym (ap (λ t. option_map (λ u. b ∷ u) (option_map (λ k. take k bs) (cond t (Some n) None)))
          (le-ltb n (length bs) over))
    ]

before_is-step : (b : ℕ) (bs : List ℕ) (t : Bool) → up_to (position_or_len is_zero bs) bs ≡ before bs
    → up_to (cond (not t) (1 + position_or_len is_zero bs) 0) (b ∷ bs)
    ≡ cond t (Some []) (option_map (λ u. b ∷ u) (before bs))
before_is-step b bs true rest =
    ap (λ t. option_map (λ k. take k (b ∷ bs)) (cond t (Some 0) None)) (lt-ltb 0 (length (b ∷ bs)) (omega arith))
before_is-step b bs false rest =
    up_to-more (position_or_len is_zero bs) b bs ∙ ap (option_map (λ u. b ∷ u)) rest

pub before_is : (bs : List ℕ) → text_before_zero bs ≡ before bs
before_is [] = refl
before_is (b ∷ bs) = before_is-step b bs (eqb b 0) (before_is bs)

-- ---- the first bytes, one more than the text has, decide

starts : (t : Bool) (b a : ℕ) (o : Option (List ℕ)) (rest : List ℕ)
    → is_text (cond t (Some []) (option_map (λ u. b ∷ u) o)) (a ∷ rest) ≡ cond t false (eqb b a && is_text o rest)
starts true b a o rest = refl
starts false b a None rest = elim (eqb b a) as (λ t. false ≡ t && false) [ true ↦ refl | false ↦ refl ]
starts false b a (Some u) rest = refl

ended : (t : Bool) (b : ℕ) (o : Option (List ℕ))
    → is_text (cond t (Some []) (option_map (λ u. b ∷ u) o)) [] ≡ cond t true false
ended true b o = refl
ended false b None = refl
ended false b (Some u) = refl

within : (m : ℕ) (text bs : List ℕ) → m ≡ length text
    → is_text (before (take (suc m) bs)) text ≡ is_text (before bs) text
within m text [] e = refl
within m [] (b ∷ bs) e = ended (eqb b 0) b (before (take m bs)) ∙ sym (ended (eqb b 0) b (before bs))
within zero (a ∷ rest) (b ∷ bs) e = absurd (omega arith)
within (suc m) (a ∷ rest) (b ∷ bs) e =
    starts (eqb b 0) b a (before (take (suc m) bs)) rest
    ∙ ap (λ t. cond (eqb b 0) false (eqb b a && t)) (within m rest bs (omega arith))
    ∙ sym (starts (eqb b 0) b a (before bs) rest)

-- the bytes up to one more than the text has, of as many as there are
pub text_within : (bs text : List ℕ) → is_text (text_before_zero (take (min (length bs) (length text + 1)) bs)) text
    ≡ is_text (text_before_zero bs) text
text_within bs text =
    let n : ℕ = length text in
    let most : min (length bs) (n + 1) ≡ min (suc n) (length bs) = omega arith in
    ap (λ k. is_text (text_before_zero (take k bs)) text) most
    ∙ ap (λ xs. is_text (text_before_zero xs) text) (take_min (suc n) bs)
    ∙ ap (λ o. is_text o text) (before_is (take (suc n) bs))
    ∙ within n text bs refl
    ∙ sym (ap (λ o. is_text o text) (before_is bs))
