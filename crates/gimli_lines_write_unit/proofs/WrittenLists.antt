-- Things that are written one after the other.
use Rattle.std.proofs.Common.{◌≡◌, ◌≢◌, ℕ, ◌+◌, ◌<◌, Bool, List, [], ◌∷◌, ◌++◌, drop, map, Result, Ok, Err, sym, ap, subst, ◌∙◌, append_assoc, length, get_or}
use Rattle.std.specs.Prelude.{flat_map}
use Rattle.std.specs.Result.{IsErrAnd}
use Rattle.std.proofs.lemmas.List.{append-nil}
use Rattle.gimli_lines_write_tables.specs.WriteError.{Error}
use Rattle.gimli_lines_write_tables.specs.WriteError.TheVariants.{Memory}
use Rattle.gimli_lines_write_tables.specs.OutputBytes.{WriterContents, append, append_result}
use Rattle.gimli_lines_write_tables.specs.EntryBytes.{join_bytes, Extends, Continues}
use Rattle.gimli_lines_write_tables.proofs.JoinedWrites.{next_drop}
use Rattle.gimli_lines_write_spec.specs.FileEntryFormat.{FileEntryFormat}
use Rattle.gimli_lines_write_spec.specs.EntryFields.{spelled_format}
use Rattle.gimli_lines_write_unit.specs.HeaderBytes.{bytes_or_refusal, all_or_refusal}
use Rattle.gimli_lines_write_unit.proofs.RefusedBytes.{joined}

-- ---- one write after another

extends_after : (old new : WriterContents) (bytes : List ℕ) → Extends (append bytes old) new → Extends old new
extends_after old new bytes b =
    record { more = bytes ++ b.more; bytes = b.bytes ∙ append_assoc old.bytes bytes b.more; order = b.order }

after_bytes : {A : Type 0} (r : Result A Error) (old new : WriterContents) (bytes : List ℕ)
    (c : Result (List ℕ) Error) → Continues r (append bytes old) new c
    → Continues r old new (join_bytes (Ok bytes) c)
after_bytes (Ok x) old new bytes (Ok more) h =
    ap (λ l. Ok (record { bytes = l; is_big = old.is_big })) (sym (append_assoc old.bytes bytes more)) ∙ h
after_bytes (Ok x) old new bytes (Err f) h = absurd (cc)
after_bytes (Err e) old new bytes (Ok more) h =
    (λ n. absurd (let k = h.0 n in cc), extends_after old new bytes h.1)
after_bytes (Err e) old new bytes (Err f) h = (λ n. let k = h.0 n in cc, extends_after old new bytes h.1)

-- a write that goes on after another one
pub then_continues : {A : Type 0} (r : Result A Error) (old mid new : WriterContents) (rs ss : List Error)
    (a b : Bool → List ℕ) → append_result (bytes_or_refusal rs (a old.is_big)) old ≡ Ok mid
    → Continues r mid new (bytes_or_refusal ss (b mid.is_big))
    → Continues r old new (bytes_or_refusal (rs ++ ss) (a old.is_big ++ b old.is_big))
then_continues r old mid new (e ∷ rs) ss a b wrote h = absurd (cc)
then_continues r old mid new [] ss a b wrote h =
    let there : append (a old.is_big) old ≡ mid = cc in
    subst (λ c. Continues r old new c) (joined [] ss (a old.is_big) (b old.is_big))
    (after_bytes r old new (a old.is_big) (bytes_or_refusal ss (b old.is_big))
    (subst (λ (m : WriterContents). Continues r m new (bytes_or_refusal ss (b m.is_big))) (sym there) h))

-- what is left of a refused write
abbrev pub Refused : Error → WriterContents → WriterContents → Result (List ℕ) Error → Type 0
Refused d old new bytes = (d ≢ Memory → bytes ≡ Err d) × Extends old new

-- a write that was refused, whatever was to come after it
pub refused_already : {A : Type 0} (r : Result A Error) (d : Error) (old new : WriterContents)
    (rs ss : List Error) (a b : List ℕ) → IsErrAnd r (λ e. e ≡ d) → Refused d old new (bytes_or_refusal rs a)
    → Continues r old new (bytes_or_refusal (rs ++ ss) b)
refused_already (Ok x) d old new rs ss a b same h = absurd same
refused_already (Err f) d old new rs ss a b same h =
    subst (λ g. Refused g old new (bytes_or_refusal (rs ++ ss) b)) (sym same) (λ n. by rs (h.0 n), h.1)
  where
    by : (ts : List Error) → bytes_or_refusal ts a ≡ Err d → bytes_or_refusal (ts ++ ss) b ≡ Err d
    by [] k = absurd (cc)
    by (e ∷ ts) k = k

-- the same after a write that wasn't
pub refused_later : {A : Type 0} (r : Result A Error) (d : Error) (old mid new : WriterContents)
    (rs ss ts : List Error) (a b c : List ℕ) → append_result (bytes_or_refusal rs a) old ≡ Ok mid
    → IsErrAnd r (λ e. e ≡ d) → Refused d mid new (bytes_or_refusal ss b)
    → Continues r old new (bytes_or_refusal (rs ++ (ss ++ ts)) c)
refused_later (Ok x) d old mid new rs ss ts a b c wrote same h = absurd same
refused_later (Err f) d old mid new (e ∷ rs) ss ts a b c wrote same h = absurd (cc)
refused_later {A} (Err f) d old mid new [] ss ts a b c wrote same h =
    let there : append a old ≡ mid = cc in
    let later = refused_already {A = A} (Err f) d mid new ss ts b c same h in
    (later.0, extends_after old new a (subst (λ m. Extends m new) (sym there) later.1))

-- ---- lists

-- What is left of a list that is being written: when it is written the whole is.
abbrev pub Left : {A : Type 0} → (A → List Error) → (Bool → A → List ℕ) → WriterContents → WriterContents
    → Result (List ℕ) Error → List A → Type 0
Left refusals spelled start now whole rest = (r : Result (Unit {0}) Error) (new : WriterContents)
    → Continues r now new (all_or_refusal refusals (spelled now.is_big) rest) → Continues r start new whole

module _ {A : Type 0} (refusals : A → List Error) (spelled : Bool → A → List ℕ) (start now : WriterContents)
    (whole : Result (List ℕ) Error) where
  -- after the last
  pub all_done : (tail : List A) → Left refusals spelled start now whole tail → tail ≡ []
      → Continues (Ok (tt {0})) start now whole
  all_done tail left is =
      left (Ok tt) now (subst (λ xs. append_result (all_or_refusal refusals (spelled now.is_big) xs) now ≡ Ok now)
      (sym is) (ap (λ l. Ok (record { bytes = l; is_big = now.is_big })) (append-nil now.bytes)))

  module _ (x : A) (rest tail : List A) (left : Left refusals spelled start now whole tail) (is : tail ≡ x ∷ rest)
    where
      -- after one more
      pub one_done : (next : WriterContents)
          → append_result (bytes_or_refusal (refusals x) (spelled now.is_big x)) now ≡ Ok next
          → Left refusals spelled start next whole rest
      one_done next wrote = λ r new h.
          left r new (subst (λ xs. Continues r now new (all_or_refusal refusals (spelled now.is_big) xs)) (sym is)
          (then_continues r now next new (refusals x) (flat_map refusals rest) (λ b. spelled b x)
          (λ b. flat_map (spelled b) rest) wrote h))

      -- where it is refused
      pub one_refused : (r : Result (Unit {0}) Error) (d : Error) (next : WriterContents) → IsErrAnd r (λ e. e ≡ d)
          → Refused d now next (bytes_or_refusal (refusals x) (spelled now.is_big x)) → Continues r start next whole
      one_refused r d next same h =
          left r next (subst (λ xs. Continues r now next (all_or_refusal refusals (spelled now.is_big) xs)) (sym is)
          (refused_already r d now next (refusals x) (flat_map refusals rest) (spelled now.is_big x)
          (flat_map (spelled now.is_big) (x ∷ rest)) same h))

-- the next thing, before those after it
next_view : {A B : Type 0} (see : A → B) (xs : List A) (i : ℕ) (d : A) → i < length xs → map see (drop i xs)
    ≡ see (get_or xs i d) ∷ map see (drop (i + 1) xs)
next_view see xs i d h = ap (map see) (next_drop xs i d h)

-- the same, of an item that is there
pub item_view : {A B : Type 0} (see : A → B) (xs : List A) (i : ℕ) (x : A) → i < length xs → x ≡ get_or xs i x
    → map see (drop i xs) ≡ see x ∷ map see (drop (i + 1) xs)
item_view see xs i x h is = next_view see xs i x h ∙ ap (λ y. see y ∷ map see (drop (i + 1) xs)) (sym is)

-- What is left of formats that are being written after others.
pub record FormatsLeft (start now : WriterContents) (formats rest : List FileEntryFormat) : Type 0 where
  pub bytes : now.bytes ++ flat_map spelled_format rest ≡ start.bytes ++ flat_map spelled_format formats
  pub begins : Extends start now

pub format_done : (start now next : WriterContents) (formats : List FileEntryFormat) (x : FileEntryFormat)
    (rest tail : List FileEntryFormat) → FormatsLeft start now formats tail → tail ≡ x ∷ rest
    → append_result (Ok (spelled_format x)) now ≡ Ok next
    → FormatsLeft start next formats rest
format_done start now next formats x rest tail left is wrote =
    let there : append (spelled_format x) now ≡ next = cc in
    record {
      bytes = ap (λ (w : WriterContents). w.bytes ++ flat_map spelled_format rest) (sym there)
          ∙ append_assoc now.bytes (spelled_format x) (flat_map spelled_format rest)
          ∙ ap (λ fs. now.bytes ++ flat_map spelled_format fs) (sym is) ∙ left.bytes;
      begins = record {
        more = left.begins.more ++ spelled_format x;
        bytes = ap (λ (w : WriterContents). w.bytes) (sym there) ∙ ap (λ l. l ++ spelled_format x) left.begins.bytes
            ∙ append_assoc start.bytes left.begins.more (spelled_format x);
        order = ap (λ (w : WriterContents). w.is_big) (sym there) ∙ left.begins.order;
      };
    }
