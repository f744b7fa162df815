-- A text that was added is in the section at its offset.
use Rattle.std.proofs.Common.{◌≡◌, ℕ, zero, suc, ◌+◌, ◌-◌, ◌<◌, ◌≤◌, nat_lt, ◌==◌, not, ◌||◌, Bool, true, false, cond, List, [], ◌∷◌, ◌++◌, All, length, take, drop, slice_get, Some, None, Ok, Err, refl, sym, ap, subst, ◌∙◌, true≢false, arith, append_assoc, get_or}
use Rattle.std.specs.List.{list_any, position_or_len, position}
use Rattle.std.specs.Cmp.Lexicographic.{bytes_decides}
use Rattle.std.proofs.lemmas.Bool.{ne_eqb, lt-ltb, le-ltb}
use Rattle.std.proofs.lemmas.List.{length-append, length-drop}
use Rattle.std.proofs.lemmas.List.Sums.{sum_by-cons, position_or_len_is}
use Rattle.std.proofs.lemmas.Option.{slice_get_within, get_or_from_slice_get, slice_get-get_or}
use Rattle.std.proofs.Math.ListN.{get_or-append}
use Rattle.std.proofs.Math.Seq.{get_or-append_seam, take-append_seam, drop-append-add}
use Rattle.gimli_lines_write_rows.specs.View.{View, after, unexpected_end}
use Rattle.gimli_lines_write_rows.specs.Parsers.{text_to, index_or_end, null_terminated, value_of, proceed}
use Rattle.gimli_lines_write_rows.specs.SectionReads.{string_at}
use Rattle.gimli_lines_write_tables.specs.StringSections.{same_bytes, IsText, with_text, text_index, section_of, offset_of}
use Rattle.gimli_lines_write_tables.proofs.TextTableLemmas.{index-none, with_text-again, with_text-new, offset_of-before}

-- ---- places

pub added_text-index : (texts : List (List ℕ)) (t : List ℕ) → list_any (same_bytes t) texts ≡ true
    → slice_get texts (text_index texts t) ≡ Some t
added_text-index [] t h = absurd (true≢false (sym h))
added_text-index (s ∷ texts) t h = by (same_bytes t s) refl h (added_text-index texts t)
  where
    by : (b : Bool) → same_bytes t s ≡ b → (b || list_any (same_bytes t) texts) ≡ true
        → (list_any (same_bytes t) texts ≡ true → slice_get texts (text_index texts t) ≡ Some t)
        → slice_get (s ∷ texts) (cond (not b) (1 + text_index texts t) 0) ≡ Some t
    by true e g rest = ap Some (sym ((bytes_decides t s).0 e))
    by false e g rest = ap (slice_get (s ∷ texts)) (next (text_index texts t)) ∙ rest g
      where
        next : (n : ℕ) → 1 + n ≡ suc n
        next n = omega arith

pub get-left : (xs ys : List (List ℕ)) (i : ℕ) (x : List ℕ) → slice_get xs i ≡ Some x → slice_get (xs ++ ys) i ≡ Some x
get-left xs ys i x h =
    let below = slice_get_within xs i x h in
    slice_get-get_or (xs ++ ys) i x (omega (arith, length-append xs ys, below))
    ∙ ap Some (get_or-append xs ys x i below ∙ get_or_from_slice_get xs i x x h)

pub get-end : (xs : List (List ℕ)) (x : List ℕ) → slice_get (xs ++ x ∷ []) (length xs) ≡ Some x
get-end xs x = slice_get-get_or (xs ++ x ∷ []) (length xs) x
    (more (length xs) (length (xs ++ x ∷ [])) (length-append xs (x ∷ []))) ∙ ap Some (get_or-append_seam xs x [] x)
  where
    more : (n m : ℕ) → m ≡ n + 1 → n < m
    more n m e = omega arith

lt_le : {n m : ℕ} → n < m → n ≤ m
lt_le g = omega arith

module _ (texts : List (List ℕ)) (t : List ℕ) where
  pub text_at_index : slice_get (with_text texts t) (text_index texts t) ≡ Some t
  text_at_index = by (list_any (same_bytes t) texts) refl
    where
      by : (b : Bool) → list_any (same_bytes t) texts ≡ b → slice_get (with_text texts t) (text_index texts t) ≡ Some t
      by true e = ap (λ l. slice_get l (text_index texts t)) (with_text-again texts t e) ∙ added_text-index texts t e
      by false e = ap (λ l. slice_get l (text_index texts t)) (with_text-new texts t e)
          ∙ ap (slice_get (texts ++ t ∷ [])) (index-none (same_bytes t) texts e) ∙ get-end texts t

  pub stays : (s : List ℕ) (i : ℕ) → slice_get texts i ≡ Some s → (slice_get (with_text texts t) i ≡ Some s)
      × (offset_of (with_text texts t) i ≡ offset_of texts i)
  stays s i h = by (list_any (same_bytes t) texts) refl
    where
      by : (b : Bool) → list_any (same_bytes t) texts ≡ b → (slice_get (with_text texts t) i ≡ Some s)
          × (offset_of (with_text texts t) i ≡ offset_of texts i)
      by true e =
          (ap (λ l. slice_get l i) (with_text-again texts t e) ∙ h, ap (λ l. offset_of l i) (with_text-again texts t e))
      by false e = (
        ap (λ l. slice_get l i) (with_text-new texts t e) ∙ get-left texts (t ∷ []) i s h,
        ap (λ l. offset_of l i) (with_text-new texts t e)
            ∙ offset_of-before texts t i (lt_le (slice_get_within texts i s h)),
      )

-- ---- the section after a text's offset

-- past a text and its zero byte
drop_past : (s sec rest : List ℕ) (n : ℕ) → drop ((length s + 1) + n) ((s ++ 0 ∷ sec) ++ rest) ≡ drop n (sec ++ rest)
drop_past s sec rest n =
    ap (drop ((length s + 1) + n)) (append_assoc s (0 ∷ sec) rest ∙ sym regroup)
    ∙ ap (λ m. drop (m + n) ((s ++ 0 ∷ []) ++ (sec ++ rest))) (sym (length-append s (0 ∷ [])))
    ∙ drop-append-add (s ++ 0 ∷ []) (sec ++ rest) n
  where
    regroup : (s ++ 0 ∷ []) ++ (sec ++ rest) ≡ s ++ 0 ∷ (sec ++ rest)
    regroup = append_assoc s (0 ∷ []) (sec ++ rest)

-- what the section holds from a text on
pub from_text : (texts : List (List ℕ)) (i : ℕ) (t rest : List ℕ) → slice_get texts i ≡ Some t
    → (more : List ℕ) × (drop (offset_of texts i) (section_of texts ++ rest) ≡ t ++ 0 ∷ more)
unfolding section_of
from_text [] i t rest h = absurd (cc)
from_text (s ∷ texts) zero t rest h =
    let e : s ≡ t = cc in (
      section_of texts ++ rest,
      append_assoc s (0 ∷ section_of texts) rest
          ∙ ap (λ l. l ++ 0 ∷ (section_of texts ++ rest)) e,
    )
from_text (s ∷ texts) (suc i) t rest h =
    let r = from_text texts i t rest h in (
      r.0,
      ap (λ n. drop n ((s ++ 0 ∷ section_of texts) ++ rest)) (sum_by-cons (λ x. length x + 1) s (take i texts))
          ∙ drop_past s (section_of texts) rest (offset_of texts i) ∙ r.1,
    )

-- a text is read up to its zero byte
position-at : (t more : List ℕ) → IsText t → position (λ x. x == 0) (t ++ 0 ∷ more) ≡ Some (length t)
position-at t more is_text =
    ap (λ n. cond (nat_lt n (length (t ++ 0 ∷ more))) (Some n) None) place
    ∙ ap (λ b. cond b (Some (length t)) None) (lt-ltb (length t) (length (t ++ 0 ∷ more)) long)
  where
    long : length t < length (t ++ 0 ∷ more)
    long = omega (arith, length-append t (0 ∷ more))

    place : position_or_len (λ x. x == 0) (t ++ 0 ∷ more) ≡ length t
    place = position_or_len_is (λ x. x == 0) (t ++ 0 ∷ more) (length t) 0 (omega (arith, length-append t (0 ∷ more)))
        (λ k h. ap (λ x. x == 0) (get_or-append t (0 ∷ more) 0 k h) ∙ ne_eqb (get_or t k 0) 0 (is_text k 0 h))
        (λ _. ap (λ x. x == 0) (get_or-append_seam t 0 more 0))

text_reads_back : (w : View) (t more : List ℕ) → IsText t → w.bytes ≡ t ++ 0 ∷ more
    → value_of (null_terminated w) ≡ Ok (record { bytes = t; is_big = w.is_big; first = w.first })
text_reads_back w t more is_text e =
    ap (λ o. value_of (text_to (index_or_end o w) w)) (ap (position (λ x. x == 0)) e ∙ position-at t more is_text)
    ∙ ap (λ l. Ok (record { bytes = l; is_big = w.is_big; first = w.first })) (ap (take (length t)) e
    ∙ take-append_seam t (0 ∷ more))

-- ---- the law

pub read_again : (texts : List (List ℕ)) (i : ℕ) (t rest : List ℕ) (v : View) → All IsText texts → slice_get texts i
    ≡ Some t
    → v.bytes ≡ section_of texts ++ rest
    → string_at (offset_of texts i) v ≡ Ok
    (record { bytes = t; is_big = v.is_big; first = v.first + offset_of texts i })
read_again texts i t rest v all h e =
    let off = offset_of texts i in
    let r = from_text texts i t rest h in
    let d : drop (offset_of texts i) v.bytes ≡ t ++ 0 ∷ r.0 = ap (drop (offset_of texts i)) e ∙ r.1 in
    let is_text : IsText t = subst IsText (get_or_from_slice_get texts i t t h)
    (all i t (slice_get_within texts i t h)) in
    let within : offset_of texts i ≤ length v.bytes = fits (offset_of texts i) (length v.bytes) (length t) (length r.0)
    (sym (length-drop (offset_of texts i) v.bytes) ∙ ap length d ∙ length-append t (0 ∷ r.0)) in
    ap (λ b. value_of (proceed (cond b (Err (unexpected_end v)) (Ok (tt, after (offset_of texts i) v)))
    (λ _. null_terminated))) (le-ltb (length v.bytes) (offset_of texts i) within)
    ∙ text_reads_back (after (offset_of texts i) v) t r.0 is_text d
  where
    fits : (off len a b : ℕ) → len - off ≡ a + suc b → off ≤ len
    fits off len a b e = omega arith
