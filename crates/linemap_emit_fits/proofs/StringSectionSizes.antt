-- How the string section grows.
use Rattle.std.proofs.Common.{◌≡◌, ℕ, ◌+◌, ◌≤◌, Bool, true, false, List, [], ◌∷◌, ◌++◌, length, refl, sym, ap, subst, ◌∙◌, arith}
use Rattle.std.specs.List.{list_any}
use Rattle.std.proofs.lemmas.List.{length-append}
use Rattle.std.proofs.lemmas.List.Sums.{sum_by-take-le}
use Rattle.linemap_emit_units.specs.StringSections.{same_bytes, with_text, section_of, offset_of}
use Rattle.linemap_emit_units.proofs.TextTableLemmas.{with_text-again, with_text-new, section_of-push, length-section_of}

-- by a text and its zero byte at most
pub section_grows : (texts : List (List ℕ)) (t : List ℕ)
    → length (section_of (with_text texts t)) ≤ length (section_of texts) + (length t + 1)
section_grows texts t = by (list_any (same_bytes t) texts) refl
  where
    by : (b : Bool) → list_any (same_bytes t) texts ≡ b
        → length (section_of (with_text texts t)) ≤ length (section_of texts) + (length t + 1)
    by true e = subst (λ l. length (section_of l) ≤ length (section_of texts) + (length t + 1))
        (sym (with_text-again texts t e)) (omega arith)
    by false e =
        sum (length (section_of texts)) (length t) (length (t ++ 0 ∷ [])) _ (length-append t (0 ∷ []))
        (ap (λ l. length (section_of l)) (with_text-new texts t e) ∙ ap length (section_of-push texts t)
        ∙ length-append (section_of texts) (t ++ 0 ∷ []))
      where
        sum : (s n k x : ℕ) → k ≡ n + 1 → x ≡ s + k → x ≤ s + (n + 1)
        sum s n k x g h = omega arith

-- no text begins after its end
pub offset_within : (texts : List (List ℕ)) (i : ℕ) → offset_of texts i ≤ length (section_of texts)
offset_within texts i =
    subst (λ n. offset_of texts i ≤ n) (sym (length-section_of texts)) (sum_by-take-le (λ t. length t + 1) texts i)
