-- The sequences that lookups have of rows that agree with a table's sequences.
use Rattle.std.proofs.Common.{◌≡◌, ℕ, ◌<◌, Bool, true, false, cond, ◌==◌, ◌||◌, nat_lt, nat_le, List, [], ◌∷◌, ◌++◌, length, map, Option, Some, None, refl, sym, ap, subst, ◌∙◌, arith}
use Rattle.std.specs.List.{filter_map, cons_option, list_any}
use Rattle.std.proofs.lemmas.Bool.{eqb-true, lt-ltb, leb-false, or_parts}
use Rattle.addr2line_spec.specs.Lines.{ProgramRow, LineRow, Sequence, line_row, split_at_ends, add_row, last_at_each_address, sequence_of, sequences_of_rows}
use Rattle.linemap_meaning.specs.TableParts.{RowPart, SequencePart}
use Rattle.linemap_meaning.specs.Conditions.{goes_back, goes_back_from, has_bad_rows}
use Rattle.linemap_places_laws.specs.LookupAgreement.{lookup_row, IsEnd, RowsAgree, no_sequences, a_sequence}

-- a row as lookups keep it
abbrev pub row_kept : (ℕ → ℕ) → RowPart → LineRow
row_kept number r = line_row (lookup_row number r)

-- the rows of a sequence, cut at its end
cut_sequence : (number : ℕ → ℕ) (rs : List RowPart) (end : ℕ) (e : ProgramRow) (rest : List ProgramRow) → IsEnd end e
    → split_at_ends (map (lookup_row number) rs ++ e ∷ rest)
    ≡ (record { rows = map (row_kept number) rs; end = end } ∷ split_at_ends rest)
cut_sequence number [] end e rest is =
    ap (λ b. cond b (record { rows = []; end = e.address } ∷ split_at_ends rest)
    (add_row (line_row e) (split_at_ends rest))) is.1
    ∙ ap (λ (n : ℕ). record { rows = []; end = n } ∷ split_at_ends rest) is.0
cut_sequence number (r ∷ rs) end e rest is = ap (add_row (row_kept number r)) (cut_sequence number rs end e rest is)

-- a sequence of a table as lookups keep it
abbrev pub sequence_kept : (ℕ → ℕ) → SequencePart → Option Sequence
sequence_kept number s = sequence_of (last_at_each_address (map (row_kept number) s.rows)) s.end

pub kept_of : (number : ℕ → ℕ) (ss : List SequencePart) (rows : List ProgramRow) → RowsAgree number ss rows
    → sequences_of_rows rows ≡ filter_map (sequence_kept number) ss
kept_of number [] rows no_sequences = refl
kept_of number (s ∷ ss) rows (a_sequence _ _ e more is agrees) =
    ap (filter_map (λ t. sequence_of (last_at_each_address t.rows) t.end)) (cut_sequence number s.rows s.end e more is)
    ∙ ap (cons_option (sequence_kept number s)) (kept_of number ss more agrees)

-- ---- sequences that no condition refuses

-- rows that ascend from the first one on, which is below the end
pub record IsGood (s : SequencePart) : Type 0 where
  pub first : RowPart
  pub others : List RowPart
  pub rows : s.rows ≡ first ∷ others
  pub begins : first.address < s.end
  pub ascend : goes_back_from first.address others ≡ false

good_of : (rs : List RowPart) (end : ℕ) → has_bad_rows (record { rows = rs; end = end }) ≡ false
    → IsGood (record { rows = rs; end = end })
good_of [] end h = absurd cc
good_of (r ∷ rs) end h =
    let parts =
    or_parts ((length (r ∷ rs) == 0) || goes_back (r ∷ rs)) (list_any (λ x. nat_le end x.address) (r ∷ rs)) h in
    let back = or_parts (length (r ∷ rs) == 0) (goes_back (r ∷ rs)) parts.0 in
    record {
      first = r;
      others = rs;
      rows = refl;
      begins = leb-false end r.address
          (or_parts (nat_le end r.address) (list_any (λ x. nat_le end x.address) rs) parts.1).0;
      ascend = (or_parts (nat_lt r.address 0) (goes_back_from r.address rs) back.1).1;
    }

pub is_good : (s : SequencePart) → has_bad_rows s ≡ false → IsGood s
is_good s h = good_of s.rows s.end h

-- the address of the first row
abbrev pub start_of : List RowPart → ℕ
start_of [] = 0
start_of (r ∷ rs) = r.address

-- the sequence of lookups
abbrev pub agreeing_sequence : (ℕ → ℕ) → SequencePart → Sequence
agreeing_sequence number s =
    record { start = start_of s.rows; end = s.end; rows = last_at_each_address (map (row_kept number) s.rows) }

-- of rows side by side at one address the last begins there too
record BeginsAt (address : ℕ) (rows : List LineRow) : Type 0 where
  first : LineRow
  others : List LineRow
  are : rows ≡ first ∷ others
  at : first.address ≡ address

begins_by : (r q : LineRow) (qs : List LineRow) (b : Bool) → (q.address == r.address) ≡ b
    → BeginsAt q.address (last_at_each_address (q ∷ qs)) → BeginsAt r.address (last_at_each_address (r ∷ q ∷ qs))
begins_by r q qs true same rest = record {
  first = rest.first;
  others = rest.others;
  are = ap (λ b. cond b (last_at_each_address (q ∷ qs)) (r ∷ last_at_each_address (q ∷ qs))) same ∙ rest.are;
  at = rest.at ∙ eqb-true q.address r.address same;
}
begins_by r q qs false other rest =
    record {
      first = r;
      others = last_at_each_address (q ∷ qs);
      are = ap (λ b. cond b (last_at_each_address (q ∷ qs)) (r ∷ last_at_each_address (q ∷ qs))) other;
      at = refl;
    }

begins_at : (r : LineRow) (rs : List LineRow) → BeginsAt r.address (last_at_each_address (r ∷ rs))
begins_at r [] = record { first = r; others = []; are = refl; at = refl }
begins_at r (q ∷ qs) = begins_by r q qs (q.address == r.address) refl (begins_at q qs)

-- rows that begin below their end are a sequence
is_sequence : (address end : ℕ) (rows : List LineRow) → BeginsAt address rows → address < end
    → sequence_of rows end ≡ Some (record { start = address; end = end; rows = rows })
is_sequence address end rows b below =
    let at : b.first.address < end = omega (arith, b.at) in
    let whole : List LineRow → ℕ → Option Sequence = λ l n. Some (record { start = n; end = end; rows = l }) in
    ap (λ l. sequence_of l end) b.are
    ∙ ap (λ c. cond c (whole (b.first ∷ b.others) b.first.address) None) (lt-ltb b.first.address end at)
    ∙ ap (whole (b.first ∷ b.others)) b.at ∙ ap (λ l. whole l address) (sym b.are)

-- lookups have each good sequence
pub good_is_kept : (number : ℕ → ℕ) (s : SequencePart) → IsGood s
    → sequence_kept number s ≡ Some (agreeing_sequence number s)
good_is_kept number s good =
    subst (λ (rows : List RowPart). sequence_of (last_at_each_address (map (row_kept number) rows)) s.end
    ≡ Some (record { start = start_of rows; end = s.end; rows = last_at_each_address (map (row_kept number) rows) }))
    (sym good.rows)
    (is_sequence good.first.address s.end (last_at_each_address (map (row_kept number) (good.first ∷ good.others)))
    (begins_at (row_kept number good.first) (map (row_kept number) good.others)) good.begins)

-- ---- all of them

unfoldable pub AllGood : List SequencePart → Type 0
AllGood [] = Unit {0}
AllGood (s ∷ ss) = IsGood s × AllGood ss

pub all_good : (ss : List SequencePart) → list_any has_bad_rows ss ≡ false → AllGood ss
unfolding AllGood
all_good [] h = tt
all_good (s ∷ ss) h =
    let parts = or_parts (has_bad_rows s) (list_any has_bad_rows ss) h in (is_good s parts.0, all_good ss parts.1)

pub good_are_kept : (number : ℕ → ℕ) (ss : List SequencePart) → AllGood ss
    → filter_map (sequence_kept number) ss ≡ map (agreeing_sequence number) ss
unfolding AllGood
good_are_kept number [] good = refl
good_are_kept number (s ∷ ss) good =
    ap (λ o. cons_option o (filter_map (sequence_kept number) ss)) (good_is_kept number s good.0)
    ∙ ap (λ l. agreeing_sequence number s ∷ l) (good_are_kept number ss good.1)
