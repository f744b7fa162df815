-- Texts that are written one after the other, each with its zero byte.
use Rattle.std.proofs.Common.{◌≡◌, ℕ, ◌+◌, ◌<◌, ◌≤◌, List, [], ◌∷◌, ◌++◌, length, map, drop, get_or, add-one, Ok, sym, ap, ◌∙◌, append_assoc}
use Rattle.std.proofs.lemmas.List.{append-nil, drop_all}
use Rattle.std.proofs.Math.Seq.{drop-cons}
use Rattle.std.specs.Global.{Vec}
use Rattle.gimli_lines_write_rows.specs.OutputBytes.{WriterContents, append, append_result}
use Rattle.gimli_lines_write_rows.specs.EntryBytes.{Extends}
use Rattle.gimli_lines_write_tables.specs.StringSections.{section_of}

-- What is left of texts that are being written after other bytes.
pub record TextsLeft (start now : WriterContents) (texts rest : List (List ℕ)) : Type 0 where
  pub bytes : now.bytes ++ section_of rest ≡ start.bytes ++ section_of texts
  pub begins : Extends start now

-- the next text, before those after it
pub next_bytes : (texts : List (Vec ℕ)) (i : ℕ) (t : Vec ℕ) (bytes : List ℕ) → i < length texts → t ≡ get_or texts i t
    → bytes ≡ t.items
    → map (λ (x : Vec ℕ). x.items) (drop i texts) ≡ bytes ∷ map (λ (x : Vec ℕ). x.items) (drop (i + 1) texts)
next_bytes texts i t bytes h is same =
    ap (map (λ (x : Vec ℕ). x.items)) next
    ∙ ap (λ (x : Vec ℕ). x.items ∷ map (λ (y : Vec ℕ). y.items) (drop (i + 1) texts)) (sym is)
    ∙ ap (λ l. l ∷ map (λ (y : Vec ℕ). y.items) (drop (i + 1) texts)) (sym same)
  where
    next : drop i texts ≡ get_or texts i t ∷ drop (i + 1) texts
    next = rw add-one (drop-cons texts i t h)

-- past the last there is none
pub none_left : (texts : List (Vec ℕ)) (i : ℕ) → length texts ≤ i → map (λ (x : Vec ℕ). x.items) (drop i texts) ≡ []
none_left texts i h = ap (map (λ (x : Vec ℕ). x.items)) (drop_all i texts h)

-- a text and its zero byte, before those after it
section_of-cons : (t : List ℕ) (rest : List (List ℕ)) → (t ++ 0 ∷ []) ++ section_of rest ≡ section_of (t ∷ rest)
unfolding section_of
section_of-cons t rest = append_assoc t (0 ∷ []) (section_of rest)

module _ (start now : WriterContents) (texts : List (List ℕ)) (t : List ℕ) (rest tail : List (List ℕ))
    (left : TextsLeft start now texts tail) (is : tail ≡ t ∷ rest) where
  -- after one more
  pub one_done : (next : WriterContents) → append_result (Ok (t ++ 0 ∷ [])) now ≡ Ok next
      → TextsLeft start next texts rest
  one_done next wrote =
      let there : append (t ++ 0 ∷ []) now ≡ next = cc in
      record {
        bytes = ap (λ (w : WriterContents). w.bytes ++ section_of rest) (sym there)
            ∙ append_assoc now.bytes (t ++ 0 ∷ []) (section_of rest)
            ∙ ap (λ l. now.bytes ++ l) (section_of-cons t rest ∙ ap section_of (sym is)) ∙ left.bytes;
        begins = record {
          more = left.begins.more ++ (t ++ 0 ∷ []);
          bytes = ap (λ (w : WriterContents). w.bytes) (sym there) ∙ ap (λ l. l ++ (t ++ 0 ∷ [])) left.begins.bytes
              ∙ append_assoc start.bytes left.begins.more (t ++ 0 ∷ []);
          order = ap (λ (w : WriterContents). w.is_big) (sym there) ∙ left.begins.order;
        };
      }

-- after the last
pub all_done : (start now : WriterContents) (texts : List (List ℕ)) → TextsLeft start now texts []
    → append_result (Ok (section_of texts)) start ≡ Ok now
unfolding section_of
all_done start now texts left =
    let b : start.bytes ++ section_of texts ≡ now.bytes = sym left.bytes ∙ append-nil now.bytes in
    ap (λ l. Ok (record { bytes = l; is_big = start.is_big })) b
    ∙ ap (λ b. Ok (record { bytes = now.bytes; is_big = b })) (sym left.begins.order)
