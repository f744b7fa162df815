-- Writes one after the other.
use Rattle.std.proofs.Common.{◌≡◌, ℕ, ◌+◌, ◌<◌, ◌^◌, ◌&&◌, Bool, true, List, [], ◌∷◌, ◌++◌, drop, Result, Ok, Err, refl, sym, ap, subst, ◌∙◌, append_assoc, lit<, length, get_or, add-one}
use Rattle.std.proofs.Math.Seq.{drop-cons}
use Rattle.std.proofs.lemmas.List.{append-nil}
use Rattle.std.specs.Result.{OnOk}
use Rattle.gimli_lines_write_bytes.specs.declared.error.Error.{Error}
use Rattle.gimli_lines_write_bytes.specs.declared.address.Address.{Address}
use Rattle.gimli_lines_write_bytes.specs.OutputBytes.{WriterContents, append, append_result, Writes}
use Rattle.gimli_lines_machine.specs.declared.rules.LineRules.{LineRules}
use Rattle.gimli_lines_write_rows.specs.declared.row.LineRow.{LineRow}
use Rattle.gimli_lines_write_rows.specs.declared.entry.LineEntry.{LineEntry}
use Rattle.gimli_lines_write_rows.specs.declared.entry.LineEntry.TheVariants.{SetAddress, Row, EndSequence}
use Rattle.gimli_lines_write_rows.specs.BuiltRows.{first_row, follows}
use Rattle.gimli_lines_write_rows.proofs.RowTests.{row_high}
use Rattle.gimli_lines_write_rows.proofs.Moves.{and-first, and-second}
use Rattle.gimli_lines_write_rows.specs.EntryBytes.{join_bytes, entry_bytes, next_row, can_come, entries_bytes, Extends, Continues}

-- what comes after a write
pub then_writes : {A : Type 0} (r : Result A Error) (old mid new : WriterContents) (a : List ℕ)
    (b : Bool → Result (List ℕ) Error)
    → append a old ≡ mid → Writes r mid new (append_result (b mid.is_big) mid)
    → Continues r old new (join_bytes (Ok a) (b old.is_big))
then_writes r old mid new a b e h =
    at_front r (b old.is_big) (subst (λ m. Writes r m new (append_result (b m.is_big) m)) (sym e) h)
  where
    at_front : {A : Type 0} (s : Result A Error) (c : Result (List ℕ) Error)
        → Writes s (append a old) new (append_result c (append a old)) → Continues s old new (join_bytes (Ok a) c)
    at_front (Ok x) (Ok bytes) g =
        ap (λ l. Ok (record { bytes = l; is_big = old.is_big })) (sym (append_assoc old.bytes a bytes)) ∙ g
    at_front (Ok x) (Err d) g = absurd (cc)
    at_front (Err d) (Ok bytes) g = (
      λ n. absurd (let k = g.0 n in cc),
      record {
        more = a;
        bytes = ap (λ (w : WriterContents). w.bytes) g.1;
        order = ap (λ (w : WriterContents). w.is_big) g.1;
      },
    )
    at_front (Err d) (Err f) g = (
      λ n. let k = g.0 n in
          cc,
      record {
        more = a;
        bytes = ap (λ (w : WriterContents). w.bytes) g.1;
        order = ap (λ (w : WriterContents). w.is_big) g.1;
      },
    )

-- ---- entries

-- what is left of a program that is being written
pub record EntriesLeft (address_of : Address → Result ℕ Error) (rules : LineRules) (start now : WriterContents)
    (whole : Result (List ℕ) Error) (previous : LineRow) (rest : List LineEntry) : Type 0 where
  pub begins : Extends start now
  pub bytes : whole ≡ join_bytes (Ok begins.more) (entries_bytes address_of start.is_big rules previous rest)
  pub left : follows rules previous rest ≡ true
  pub low : previous.line < 2 ^ 63

joined-none : (r : Result (List ℕ) Error) → r ≡ join_bytes (Ok []) r
joined-none (Ok b) = refl
joined-none (Err e) = refl

joined-assoc : (a b : List ℕ) (r : Result (List ℕ) Error) → join_bytes (Ok a) (join_bytes (Ok b) r)
    ≡ join_bytes (Ok (a ++ b)) r
joined-assoc a b (Ok c) = ap Ok (sym (append_assoc a b c))
joined-assoc a b (Err e) = refl

pub follows-cons : (rules : LineRules) (previous : LineRow) (entry : LineEntry) (rest : List LineEntry)
    → follows rules previous (entry ∷ rest)
    ≡ (can_come rules previous entry && follows rules (next_row rules previous entry) rest)
follows-cons rules previous (SetAddress address) rest = refl
follows-cons rules previous (Row row) rest = refl
follows-cons rules previous (EndSequence offset op_index) rest = refl

low_after : (rules : LineRules) (previous : LineRow) (entry : LineEntry) → can_come rules previous entry ≡ true
    → previous.line < 2 ^ 63 → (next_row rules previous entry).line < 2 ^ 63
low_after rules previous (SetAddress address) can low = low
low_after rules previous (Row row) can low = row_high rules previous row can
low_after rules previous (EndSequence offset op_index) can low = lit< tt

-- before the first entry
pub none_done : (address_of : Address → Result ℕ Error) (rules : LineRules) (start : WriterContents) (first : LineRow)
    (entries : List LineEntry) → first ≡ first_row rules → follows rules (first_row rules) entries ≡ true
    → EntriesLeft address_of rules start start (entries_bytes address_of start.is_big rules (first_row rules) entries)
    first entries
none_done address_of rules start first entries e f = record {
  begins = record { more = []; bytes = sym (append-nil start.bytes); order = refl };
  bytes = ap (λ p. entries_bytes address_of start.is_big rules p entries) (sym e)
      ∙ joined-none (entries_bytes address_of start.is_big rules first entries);
  left = ap (λ p. follows rules p entries) e ∙ f;
  low = subst (λ (p : LineRow). p.line < 2 ^ 63) (sym e) (lit< tt);
}

module _ (address_of : Address → Result ℕ Error) (rules : LineRules) (start now : WriterContents)
    (whole : Result (List ℕ) Error) (previous : LineRow) (entry : LineEntry) (rest tail : List LineEntry)
    (left : EntriesLeft address_of rules start now whole previous tail) (is : tail ≡ entry ∷ rest) where
  both_hold : (can_come rules previous entry && follows rules (next_row rules previous entry) rest) ≡ true
  both_hold = sym (follows-cons rules previous entry rest) ∙ ap (follows rules previous) (sym is) ∙ left.left

  -- the entry can follow
  pub comes : can_come rules previous entry ≡ true
  comes = and-first (can_come rules previous entry) (follows rules (next_row rules previous entry) rest) both_hold

  -- the whole, with the entry's bytes before the rest
  ahead : whole ≡ join_bytes (Ok left.begins.more)
      (join_bytes (entry_bytes address_of now.is_big rules previous entry)
      (entries_bytes address_of start.is_big rules (next_row rules previous entry) rest))
  ahead = left.bytes ∙ ap (λ t. join_bytes (Ok left.begins.more)
      (entries_bytes address_of start.is_big rules previous t)) is
      ∙ ap (λ b. join_bytes (Ok left.begins.more)
      (join_bytes (entry_bytes address_of b rules previous entry)
      (entries_bytes address_of start.is_big rules (next_row rules previous entry) rest))) (sym left.begins.order)

  -- after the entry
  pub entry_done : (next : WriterContents) (after : LineRow)
      → append_result (entry_bytes address_of now.is_big rules previous entry) now ≡ Ok next
      → after ≡ next_row rules previous entry
      → EntriesLeft address_of rules start next whole after rest
  entry_done next after wrote e = by (entry_bytes address_of now.is_big rules previous entry) refl wrote
    where
      by : (r : Result (List ℕ) Error) → entry_bytes address_of now.is_big rules previous entry ≡ r
          → append_result r now ≡ Ok next → EntriesLeft address_of rules start next whole after rest
      by (Err d) s h = absurd (cc)
      by (Ok b) s h =
          let there : append b now ≡ next = cc in
          record {
            begins = record {
              more = left.begins.more ++ b;
              bytes = ap (λ (x : WriterContents). x.bytes) (sym there) ∙ ap (λ l. l ++ b) left.begins.bytes
                  ∙ append_assoc start.bytes left.begins.more b;
              order = ap (λ (x : WriterContents). x.is_big) (sym there) ∙ left.begins.order;
            };
            bytes = ahead ∙ ap (λ x. join_bytes (Ok left.begins.more)
                (join_bytes x (entries_bytes address_of start.is_big rules (next_row rules previous entry) rest))) s
                ∙ joined-assoc left.begins.more b
                (entries_bytes address_of start.is_big rules (next_row rules previous entry) rest)
                ∙ ap (λ p. join_bytes (Ok (left.begins.more ++ b)) (entries_bytes address_of start.is_big rules p rest))
                (sym e);
            left = ap (λ p. follows rules p rest) e
                ∙ and-second (can_come rules previous entry) (follows rules (next_row rules previous entry) rest)
                both_hold;
            low = subst (λ (p : LineRow). p.line < 2 ^ 63) (sym e) (low_after rules previous entry comes left.low);
          }

  -- where the entry is refused
  pub entry_refused : (A : Type 0) (d : Error) (next : WriterContents)
      → Continues {A = A} (Err d) now next (entry_bytes address_of now.is_big rules previous entry)
      → Continues {A = A} (Err d) start next whole
  entry_refused A d next h = (
    λ n. ahead ∙ ap (λ x. join_bytes (Ok left.begins.more)
        (join_bytes x (entries_bytes address_of start.is_big rules (next_row rules previous entry) rest))) (h.0 n),
    record {
      more = left.begins.more ++ h.1.more;
      bytes = h.1.bytes ∙ ap (λ l. l ++ h.1.more) left.begins.bytes
          ∙ append_assoc start.bytes left.begins.more h.1.more;
      order = h.1.order ∙ left.begins.order;
    },
  )

-- the next entry, before those after it
pub next_drop : {A : Type 0} (xs : List A) (i : ℕ) (d : A) → i < length xs → drop i xs ≡ get_or xs i d ∷ drop (i + 1) xs
next_drop xs i d h = rw add-one (drop-cons xs i d h)

-- what holds where all was written
pub where_written : {A P : Type 0} (r : Result A Error) (old new : WriterContents) (bytes : Result (List ℕ) Error)
    → Continues r old new bytes → (append_result bytes old ≡ Ok new → P) → OnOk r P
where_written (Ok x) old new bytes h f = f h
where_written (Err e) old new bytes h f = tt
