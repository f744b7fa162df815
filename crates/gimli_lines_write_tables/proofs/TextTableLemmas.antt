-- Lemmas on texts, where they begin, and the section that holds them.
use Rattle.std.proofs.Common.{◌≡◌, ℕ, suc, ◌+◌, ◌<◌, ◌≤◌, nat_lt, nat_eq, not, ◌||◌, Bool, true, false, cond, List, [], ◌∷◌, ◌++◌, length, take, map, sum_by, slice_index, Some, None, refl, sym, ap, ◌∙◌, true≢false, arith, rules, append_assoc, inl, inr}
use Rattle.std.specs.List.{list_any, prefix_len, position_or_len, position}
use Rattle.std.specs.Cmp.Lexicographic.{pointwise}
use Rattle.std.proofs.lemmas.List.{take-append-le, map-append, length-append}
use Rattle.std.proofs.lemmas.List.Elements.{All-push}
use Rattle.std.proofs.Math.ListN.{get_or-append}
use Rattle.std.proofs.Math.Seq.{get_or-append_seam}
use Rattle.std.proofs.Math.Nat.{eq-or-lt_of_le}
use Rattle.std.proofs.lemmas.List.Sums.{sum_by-cons}
use Rattle.std.specs.Global.{Vec}
use Rattle.indexmap.specs.IndexSet.{insert_key}
use Rattle.gimli_lines_write_tables.specs.StringSections.{same_bytes, IsText, with_text, text_index, section_of, offset_of}
use Rattle.gimli_lines_write_tables.specs.TextTables.{IsTextTable}

-- ---- tests over a mapped list

pub list_any-map : {A B : Type 0} (f : A → B) (p : B → Bool) (xs : List A) → list_any p (map f xs)
    ≡ list_any (λ x. p (f x)) xs
list_any-map f p [] = refl
list_any-map f p (x ∷ xs) = ap (λ b. p (f x) || b) (list_any-map f p xs)

pub prefix_len-map : {A B : Type 0} (f : A → B) (p : B → Bool) (xs : List A) → prefix_len p (map f xs)
    ≡ prefix_len (λ x. p (f x)) xs
prefix_len-map f p [] = refl
prefix_len-map f p (x ∷ xs) = ap (λ n. cond (p (f x)) (1 + n) 0) (prefix_len-map f p xs)

pub length-map' : {A B : Type 0} (f : A → B) (xs : List A) → length (map f xs) ≡ length xs
length-map' f [] = refl
length-map' f (x ∷ xs) = ap suc (length-map' f xs)

-- the place that `position` gives is the first that passes
pub position-index : {A : Type 0} (p : A → Bool) (xs : List A) (i : ℕ) → position p xs ≡ Some i
    → i ≡ position_or_len p xs
position-index p xs i = by (nat_lt (position_or_len p xs) (length xs))
  where
    by : (b : Bool) → cond b (Some (position_or_len p xs)) None ≡ Some i → i ≡ position_or_len p xs
    by true h = cc
    by false h = cc

-- where none passes, it is the end
pub index-none : {A : Type 0} (p : A → Bool) (xs : List A) → list_any p xs ≡ false → position_or_len p xs ≡ length xs
index-none p [] h = refl
index-none p (x ∷ xs) h = by (p x) h (index-none p xs)
  where
    by : (b : Bool) → (b || list_any p xs) ≡ false → (list_any p xs ≡ false → position_or_len p xs ≡ length xs)
        → cond (not b) (1 + position_or_len p xs) 0 ≡ suc (length xs)
    by true g rest = absurd (true≢false g)
    by false g rest = let t = rest g in omega arith

-- ---- the section

pub section_of-push : (texts : List (List ℕ)) (t : List ℕ) → section_of (texts ++ t ∷ []) ≡ section_of texts
    ++ (t ++ 0 ∷ [])
unfolding section_of
section_of-push [] t = refl
section_of-push (s ∷ texts) t = simp (section_of-push texts t, append_assoc)

pub length-section_of : (texts : List (List ℕ)) → length (section_of texts) ≡ sum_by (λ t. length t + 1) texts
unfolding section_of
length-section_of [] = refl
length-section_of (s ∷ texts) =
    let l : length (s ++ 0 ∷ section_of texts) ≡ length s + suc (length (section_of texts)) =
    length-append s (0 ∷ section_of texts) in
    let r = length-section_of texts in
    let t : sum_by (λ t. length t + 1) (s ∷ texts) ≡ (length s + 1) + sum_by (λ t. length t + 1) texts =
    sum_by-cons (λ t. length t + 1) s texts in
    l ∙ omega (arith, r, t)

pub offset_of-before : (texts : List (List ℕ)) (t : List ℕ) (i : ℕ) → i ≤ length texts → offset_of (texts ++ t ∷ []) i
    ≡ offset_of texts i
offset_of-before texts t i h = ap (sum_by (λ s. length s + 1)) (take-append-le i texts (t ∷ []) h)

pub take-all : {A : Type 0} (xs : List A) → take (length xs) xs ≡ xs
take-all [] = refl
take-all (x ∷ xs) = ap (λ l. x ∷ l) (take-all xs)

pub offset_of-end : (texts : List (List ℕ)) → offset_of texts (length texts) ≡ length (section_of texts)
offset_of-end texts = ap (sum_by (λ s. length s + 1)) (take-all texts) ∙ sym (length-section_of texts)

-- ---- what a table keeps

pub with_text-again : (texts : List (List ℕ)) (t : List ℕ) → list_any (same_bytes t) texts ≡ true → with_text texts t
    ≡ texts
with_text-again texts t h = ap (λ b. cond b texts (texts ++ t ∷ [])) h

pub with_text-new : (texts : List (List ℕ)) (t : List ℕ) → list_any (same_bytes t) texts ≡ false → with_text texts t
    ≡ texts ++ t ∷ []
with_text-new texts t h = ap (λ b. cond b texts (texts ++ t ∷ [])) h

pub text_table-none : IsTextTable [] [] 0
unfolding section_of
text_table-none =
    record { same_length = refl; begins = λ i h. absurd (omega arith); ends = refl; no_zeros = search rules }

-- the section with one more text
length-push : (texts : List (List ℕ)) (t : List ℕ) → length (section_of (texts ++ t ∷ []))
    ≡ length (section_of texts) + (length t + 1)
length-push texts t = ap length (section_of-push texts t) ∙ length-append (section_of texts) (t ++ 0 ∷ [])
    ∙ ap (λ n. length (section_of texts) + n) (length-append t (0 ∷ []))

pub text_table-push : (texts : List (List ℕ)) (offsets : List ℕ) (size : ℕ) (t : List ℕ)
    → IsTextTable texts offsets size
    → IsText t
    → IsTextTable (texts ++ t ∷ []) (offsets ++ size ∷ []) (size + (length t + 1))
text_table-push texts offsets size t sound is_text = record {
  same_length = omega (arith, length-append offsets (size ∷ []), length-append texts (t ∷ []), sound.same_length);
  begins = begins;
  ends = ap (λ n. n + (length t + 1)) sound.ends ∙ sym (length-push texts t);
  no_zeros = All-push IsText texts t sound.no_zeros is_text;
}
  where
    begins : (i : ℕ) → i < length (texts ++ t ∷ []) → slice_index (offsets ++ size ∷ []) i
        ≡ offset_of (texts ++ t ∷ []) i
    begins i h = elim (eq-or-lt_of_le (at_most i h)) [
      | inr below ↦ get_or-append offsets (size ∷ []) 0 i (omega (arith, sound.same_length))
          ∙ sound.begins i below
          ∙ sym (offset_of-before texts t i (omega arith))
      | inl at ↦ at_end i at
    ]
      where
        at_most : (j : ℕ) → j < length (texts ++ t ∷ []) → j ≤ length texts
        at_most j g = omega (arith, length-append texts (t ∷ []))

        at_end : (j : ℕ) → j ≡ length texts → slice_index (offsets ++ size ∷ []) j
            ≡ offset_of (texts ++ t ∷ []) j
        at_end j e = ap (λ k. slice_index (offsets ++ size ∷ []) k) (e ∙ sym sound.same_length)
            ∙ get_or-append_seam offsets size [] 0 ∙ sound.ends ∙ sym (offset_of-end texts)
            ∙ ap (offset_of texts) (sym e) ∙ sym (offset_of-before texts t j (omega arith))

-- ---- texts as the keys of a set

module _ (keys : List (Vec ℕ)) (t : List ℕ) where
  pub same_any : list_any (same_bytes t) (map (λ (k : Vec ℕ). k.items) keys)
      ≡ list_any (λ (k : Vec ℕ). pointwise nat_eq t k.items) keys
  same_any = list_any-map (λ (k : Vec ℕ). k.items) (same_bytes t) keys

  same_place : text_index (map (λ (k : Vec ℕ). k.items) keys) t
      ≡ position_or_len (λ (k : Vec ℕ). pointwise nat_eq t k.items) keys
  same_place = prefix_len-map (λ (k : Vec ℕ). k.items) (λ s. not (same_bytes t s)) keys

  pub there-place : (i : ℕ) → position (λ (k : Vec ℕ). pointwise nat_eq t k.items) keys ≡ Some i
      → i ≡ text_index (map (λ (k : Vec ℕ). k.items) keys) t
  there-place i h = position-index (λ (k : Vec ℕ). pointwise nat_eq t k.items) keys i h ∙ sym same_place

  pub there : list_any (λ (k : Vec ℕ). pointwise nat_eq t k.items) keys ≡ true
      → with_text (map (λ (k : Vec ℕ). k.items) keys) t ≡ map (λ (k : Vec ℕ). k.items) keys
  there h = with_text-again (map (λ (k : Vec ℕ). k.items) keys) t (same_any ∙ h)

  pub absent : list_any (λ (k : Vec ℕ). pointwise nat_eq t k.items) keys ≡ false
      → with_text (map (λ (k : Vec ℕ). k.items) keys) t ≡ map (λ (k : Vec ℕ). k.items) keys ++ t ∷ []
  absent h = with_text-new (map (λ (k : Vec ℕ). k.items) keys) t (same_any ∙ h)

  pub absent-place : list_any (λ (k : Vec ℕ). pointwise nat_eq t k.items) keys ≡ false
      → length keys ≡ text_index (map (λ (k : Vec ℕ). k.items) keys) t
  absent-place h = sym (index-none (λ (k : Vec ℕ). pointwise nat_eq t k.items) keys h) ∙ sym same_place

-- a new key goes last
pub insertion : (keys : List (Vec ℕ)) (k : Vec ℕ) (t : List ℕ) → k.items ≡ t
    → list_any (same_bytes t) (map (λ (x : Vec ℕ). x.items) keys) ≡ false
    → map (λ (x : Vec ℕ). x.items) (insert_key (λ (x y : Vec ℕ). pointwise nat_eq x.items y.items) keys k)
    ≡ map (λ (x : Vec ℕ). x.items) keys ++ t ∷ []
insertion keys k t e h =
    let none : list_any (λ (x : Vec ℕ). pointwise nat_eq k.items x.items) keys ≡ false =
    ap (λ q. list_any (λ (x : Vec ℕ). pointwise nat_eq q x.items) keys) e
    ∙ sym (list_any-map (λ (x : Vec ℕ). x.items) (same_bytes t) keys) ∙ h in
    ap (λ b. map (λ (x : Vec ℕ). x.items) (cond b keys (keys ++ k ∷ []))) none
    ∙ map-append (λ (x : Vec ℕ). x.items) keys (k ∷ []) ∙ ap (λ q. map (λ (x : Vec ℕ). x.items) keys ++ q ∷ []) e
