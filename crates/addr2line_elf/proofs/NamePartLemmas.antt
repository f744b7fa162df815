-- Steps of dividing a string table into the parts in which names begin.
use Rattle.std.proofs.Common.{◌≡◌, ℕ, zero, suc, ◌+◌, ◌-◌, ◌<◌, ◌≤◌, Bool, true, false, cond, ◌&&◌, List, [], ◌∷◌, ◌++◌, length, take, drop, get_or, slice_get, eqb, ltb, leb, Option, Some, None, refl, ap, sym, ◌∙◌, subst, inl, inr, arith}
use Rattle.std.specs.List.{prefix_len}
use Rattle.std.specs.List.Sorted.{IsPartitionPoint}
use Rattle.std.specs.Option.{is_some, option_and_then}
use Rattle.std.proofs.lemmas.Bool.{cases_lt, lt-ltb, le-ltb, le-leb, lt-leb, ne_eqb}
use Rattle.std.proofs.lemmas.List.{get_or-drop, append-nil, drop-drop, drop_all, length-take-le}
use Rattle.std.proofs.lemmas.List.Sorted.{IsNonDecreasingBy-push, IsNonDecreasingBy-short}
use Rattle.std.proofs.lemmas.List.Sums.{prefix_len_is}
use Rattle.addr2line_elf.specs.declared.names.NamePart.{NamePart}
use Rattle.addr2line_elf.specs.ElfTexts.{text_before_zero}
use Rattle.addr2line_elf.specs.ElfSymbols.{as_name}
use Rattle.addr2line_elf.specs.NameParts.{begins_name, begins_text, end_of, ends_by, is_in_part, with_part, AreNameParts, AreNamePartsTo, EndBy, IsLongestText, IsLastZero}
use Rattle.addr2line_elf.proofs.NameLemmas.{names_are}

abbrev byte : List ℕ → ℕ → ℕ
byte bs i = get_or bs i 0

-- ---- the part of an offset

-- parts that end before it are skipped
past_all : (o : ℕ) (ps : List NamePart) (rest : List NamePart) → EndBy o ps
    → is_in_part o (ps ++ rest) ≡ is_in_part o rest
past_all o [] rest h = refl
past_all o (p ∷ ps) rest h =
    ap (λ b. cond b (is_in_part o (ps ++ rest)) (leb p.begin o)) (le-leb p.end o h.0) ∙ past_all o ps rest h.1

-- a part that begins after it
before_part : (o : ℕ) (p : NamePart) → o < p.begin → is_in_part o (p ∷ []) ≡ false
before_part o p below =
    ap (cond (leb p.end o) false) (lt-leb p.begin o below)
    ∙ elim (leb p.end o) as (λ b. cond b false false ≡ false) [ true ↦ refl | false ↦ refl ]

before_last : (o : ℕ) (ps : List NamePart) (p : NamePart) → o < p.begin
    → is_in_part o (ps ++ p ∷ []) ≡ is_in_part o ps
before_last o [] p below = before_part o p below
before_last o (q ∷ qs) p below = ap (λ b. cond (leb q.end o) b (leb q.begin o)) (before_last o qs p below)

-- the part of an offset from its begin on
in_last : (o b t : ℕ) → b ≤ o → (p : NamePart) → p.begin ≡ b → p.end ≡ b + t
    → is_in_part o (p ∷ []) ≡ ltb (o - b) t
in_last o b t from p begins ends =
    ap (λ e. cond (leb e o) false (leb p.begin o)) ends
    ∙ ap (cond (leb (b + t) o) false) (ap (λ e. leb e o) begins ∙ le-leb b o from)
    ∙ elim (cases_lt o (b + t)) [
      | inl inside ↦
          ap (λ c. cond c false true) (lt-leb (b + t) o inside) ∙ sym (lt-ltb (o - b) t (omega arith))
      | inr after ↦
          ap (λ c. cond c false true) (le-leb (b + t) o after) ∙ sym (le-ltb (o - b) t (omega arith))
    ]

EndBy-later : (low high : ℕ) (ps : List NamePart) → low ≤ high → EndBy low ps → EndBy high ps
EndBy-later low high [] le h = tt
EndBy-later low high (p ∷ ps) le h = let first = h.0 in (omega arith, EndBy-later low high ps le h.1)

EndBy-push : (low : ℕ) (ps : List NamePart) (p : NamePart) → EndBy low ps → p.end ≤ low → EndBy low (ps ++ p ∷ [])
EndBy-push low [] p h le = (le, tt)
EndBy-push low (q ∷ qs) p h le = (h.0, EndBy-push low qs p h.1 le)

EndBy-at : (low : ℕ) (ps : List NamePart) (k : ℕ) (d : NamePart) → EndBy low ps → k < length ps
    → end_of (get_or ps k d) ≤ low
EndBy-at low [] k d h below = absurd (omega arith)
EndBy-at low (p ∷ ps) zero d h below = h.0
EndBy-at low (p ∷ ps) (suc k) d h below = EndBy-at low ps k d h.1 (omega arith)

-- ---- the steps

pub parts_start : (texts : List ℕ) → AreNamePartsTo 0 texts []
parts_start texts = record {
  order = IsNonDecreasingBy-short end_of [] (omega arith);
  ended = tt;
  begins = λ o below. absurd (omega arith);
}

module _ (texts : List ℕ) (b n t : ℕ) (parts : List NamePart) (longest : IsLongestText (drop b texts) n)
    (last : IsLastZero (take n (drop b texts)) t) (so_far : AreNamePartsTo b texts parts) where
  -- a name from the begin of what is left on
  names_left : (o : ℕ) → b ≤ o → o < b + n + 1
      → begins_name texts o ≡ (ltb (o - b) t && begins_text (byte texts o))
  names_left o from below =
      let place : b + (o - b) ≡ o = omega arith in
      let rest : drop (o - b) (drop b texts) ≡ drop o texts =
      drop-drop (o - b) b texts ∙ ap (λ k. drop k texts) place in
      let here : byte (drop b texts) (o - b) ≡ byte texts o = get_or-drop b texts (o - b) 0 ∙ ap (byte texts) place in
      ap (λ bs. is_some (option_and_then as_name (text_before_zero bs))) (sym rest)
      ∙ names_are (drop b texts) n t (o - b) longest last (omega arith)
      ∙ ap (λ c. ltb (o - b) t && begins_text c) here

  no_part : t ≡ 0 → AreNamePartsTo (b + n + 1) texts parts
  no_part none = record {
    order = so_far.order;
    ended = EndBy-later b (b + n + 1) parts (omega arith) so_far.ended;
    begins = λ o below. elim (cases_lt o b) [
      | inl before ↦ so_far.begins o before
      | inr from ↦
          let past : is_in_part o (parts ++ []) ≡ false =
          past_all o parts [] (EndBy-later b o parts from so_far.ended) in
          let outside : is_in_part o parts ≡ false = ap (is_in_part o) (sym (append-nil parts)) ∙ past in
          names_left o from below
          ∙ ap (λ c. c && begins_text (byte texts o)) (le-ltb (o - b) t (omega arith))
          ∙ sym (ap (λ c. c && begins_text (byte texts o)) outside)
    ];
  }

  one_more : (p : NamePart) → p.begin ≡ b → p.end ≡ b + t → AreNamePartsTo (b + n + 1) texts (parts ++ p ∷ [])
  one_more p begin_is end_is =
      let within = last.within in
      let size = length-take-le n (drop b texts) longest.within in
      record {
        order = IsNonDecreasingBy-push end_of parts p so_far.order
            (λ d some. let at_most = EndBy-at b parts (length parts - 1) d so_far.ended (omega arith) in omega arith);
        ended =
            EndBy-push (b + n + 1) parts p (EndBy-later b (b + n + 1) parts (omega arith) so_far.ended)
            (omega arith);
        begins = λ o below. elim (cases_lt o b) [
          | inl before ↦
              so_far.begins o before
              ∙ sym (ap (λ c. c && begins_text (byte texts o)) (before_last o parts p (omega arith)))
          | inr from ↦
              names_left o from below
              ∙ sym (ap (λ c. c && begins_text (byte texts o))
              (past_all o parts (p ∷ []) (EndBy-later b o parts from so_far.ended)
              ∙ in_last o b t from p begin_is end_is))
        ];
      }

  pub parts_step : AreNamePartsTo (b + n + 1) texts (with_part b t parts)
  parts_step =
      elim (cases_lt 0 t) [
        | inl some ↦
            subst (AreNamePartsTo (b + n + 1) texts)
            (sym (ap (λ c. cond c parts (parts ++ record { begin = b; end = b + t } ∷ []))
            (ne_eqb t 0 (λ e. absurd (omega arith)))))
            (one_more (record { begin = b; end = b + t }) refl refl)
        | inr none ↦
            let zero_is : t ≡ 0 = omega arith in
            subst (AreNamePartsTo (b + n + 1) texts)
            (sym (ap (λ k. cond (eqb k 0) parts (parts ++ record { begin = b; end = b + t } ∷ [])) zero_is))
            (no_part zero_is)
      ]

pub parts_end : (texts : List ℕ) (b : ℕ) (parts : List NamePart) → length texts ≤ b → AreNamePartsTo b texts parts
    → AreNameParts texts parts
parts_end texts b parts whole so_far = record {
  order = so_far.order;
  begins = λ o. elim (cases_lt o b) [
    | inl before ↦ so_far.begins o before
    | inr from ↦
        let past : is_in_part o (parts ++ []) ≡ false =
        past_all o parts [] (EndBy-later b o parts from so_far.ended) in
        let outside : is_in_part o parts ≡ false = ap (is_in_part o) (sym (append-nil parts)) ∙ past in
        ap (λ bs. is_some (option_and_then as_name (text_before_zero bs))) (drop_all o texts (omega arith))
        ∙ sym (ap (λ c. c && begins_text (byte texts o)) outside)
  ];
}

-- ---- the part of an offset, by a bisection

pub count_from_point : (o : ℕ) (ps : List NamePart) (n : ℕ) → n ≤ length ps
    → IsPartitionPoint (λ p. ends_by o p ≡ true) (λ p. ends_by o p ≡ false) ps n → n ≡ prefix_len (ends_by o) ps
count_from_point o [] n le point = omega arith
count_from_point o (p ∷ ps) n le point =
    sym (prefix_len_is (ends_by o) (p ∷ ps) n p le (λ k below. point.0 k p (omega arith) below)
    (λ below. point.1 n p (omega arith) below))

abbrev pub begins_by : ℕ → Option NamePart → Bool
begins_by o None = false
begins_by o (Some p) = leb p.begin o

pub part_after : (o : ℕ) (ps : List NamePart)
    → is_in_part o ps ≡ begins_by o (slice_get ps (prefix_len (ends_by o) ps))
part_after o [] = refl
part_after o (p ∷ ps) =
    let n = prefix_len (ends_by o) ps in
    let one : suc n ≡ 1 + n = omega arith in
    elim (cases_lt o p.end) [
      | inl inside ↦
          ap (λ b. cond b (is_in_part o ps) (leb p.begin o)) (lt-leb p.end o inside)
          ∙ sym (ap (λ b. begins_by o (slice_get (p ∷ ps) (cond b (1 + n) 0))) (lt-leb p.end o inside))
      | inr after ↦
          ap (λ b. cond b (is_in_part o ps) (leb p.begin o)) (le-leb p.end o after)
          ∙ part_after o ps
          ∙ ap (λ k. begins_by o (slice_get (p ∷ ps) k)) one
          ∙ sym (ap (λ b. begins_by o (slice_get (p ∷ ps) (cond b (1 + n) 0))) (le-leb p.end o after))
    ]
