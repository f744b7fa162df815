-- A table's sequences can be built, and what is built of them can be read.
use Rattle.std.proofs.Common.{◌≡◌, ℕ, ◌+◌, ◌-◌, ◌*◌, ◌<◌, ◌≤◌, ◌%◌, ◌^◌, true, List, [], ◌∷◌, ◌++◌, refl, sym, ap, subst, ◌∙◌, arith, append_assoc}
use Rattle.std.proofs.Math.Nat.{div-one, mod-one}
use Rattle.std.proofs.lemmas.Bool.{le-leb, lt-ltb, eq-eqb, and_from}
use Rattle.gimli_lines_write_rows.specs.Encoding.{Encoding}
use Rattle.gimli_lines_write_rows.specs.declared.row.LineRow.{LineRow}
use Rattle.gimli_lines_write_rows.specs.declared.entry.LineEntry.{LineEntry}
use Rattle.gimli_lines_write_rows.specs.declared.entry.LineEntry.TheVariants.{EndSequence}
use Rattle.gimli_lines_write_rows.specs.BuiltRows.{first_row, row_after_row, row_at_address, operations_to, can_place, follows, IsReadable, are_words}
use Rattle.linemap_places_laws.specs.TableParts.{RowPart, SequencePart}
use Rattle.linemap_emit_rows.specs.EmittedRows.{emitted_row, emitted_rows, emitted_sequences, emitted_rules, CanShowAll, AllSequences, ArePlaces, CanBuild, AllBelow, CanBuildAll, AllCanBuild, RowsFollow, IsOrderedUpTo, IsOrdered, AllOrdered}

-- a place that isn't before a row without operations
can_place_at : (e : Encoding) (previous : LineRow) (offset : ℕ) → previous.op_index ≡ 0
    → previous.address_offset ≤ offset → offset < 2 ^ 64 → can_place (emitted_rules e) previous offset 0 ≡ true
can_place_at e previous offset none after small =
    let operations : operations_to (emitted_rules e) previous offset 0 ≡ offset - previous.address_offset =
    ap (λ n. n * 1 + 0) (div-one (offset - previous.address_offset)) ∙ (omega arith) in
    let few : operations_to (emitted_rules e) previous offset 0 < 2 ^ 64 = omega arith in
    let from_none : previous.op_index ≤ operations_to (emitted_rules e) previous offset 0 = omega arith in
    and_from _ _
    (and_from _ _
    (and_from _ _
    (and_from _ _ (le-leb previous.address_offset offset after) (eq-eqb (offset % 1) 0 (mod-one offset)))
    (lt-ltb 0 1 (omega arith)))
    (le-leb previous.op_index (operations_to (emitted_rules e) previous offset 0) from_none))
    (lt-ltb (operations_to (emitted_rules e) previous offset 0) (2 ^ 64) few)

-- ---- rows of one sequence

-- a row at an address that isn't below the begin, without operations
record IsAt (begin low : ℕ) (previous : LineRow) : Type 0 where
  offset : previous.address_offset ≡ low - begin
  no_operations : previous.op_index ≡ 0
  after : begin ≤ low

rows_follow : (e : Encoding) (place : ℕ → ℕ) (begin low end : ℕ) (previous : LineRow) (rs : List RowPart)
    (rest : List LineEntry) → ArePlaces place → IsAt begin low previous → CanBuild e.address_size low rs
    → AllBelow end rs → low ≤ end → end < 2 ^ 64
    → follows (emitted_rules e) (first_row (emitted_rules e)) rest ≡ true
    → follows (emitted_rules e) previous (emitted_rows place begin rs ++ EndSequence (end - begin) 0 ∷ rest) ≡ true
unfolding CanBuild AllBelow are_words
rows_follow e place begin low end previous [] rest places is can below ends small more =
    let offset = is.offset in
    let after = is.after in
    and_from _ _ (can_place_at e previous (end - begin) is.no_operations (omega arith) (omega arith)) more
rows_follow e place begin low end previous (r ∷ rs) rest places is can below ends small more =
    let offset = is.offset in
    let after = is.after in
    let first = can.0 in
    let high = can.2 in
    and_from _ _
    (and_from _ _ (can_place_at e previous (r.address - begin) is.no_operations (omega arith) (omega arith))
    (and_from _ _ (lt-ltb r.line (2 ^ 63) can.3)
    (and_from _ _ (and_from _ _ (and_from _ _ (lt-ltb (place r.file) (2 ^ 64) (places r.file))
    (lt-ltb r.column (2 ^ 64) can.4))
    (lt-ltb 0 (2 ^ 64) (omega arith))) (lt-ltb r.discriminator (2 ^ 64) can.5))))
    (rows_follow e place begin r.address end (row_after_row (emitted_row place begin r)) rs rest places
    (record { offset = refl; no_operations = refl; after = omega arith }) can.6 below.1 below.0 small more)

rows_readable : (e : Encoding) (place : ℕ → ℕ) (begin low end : ℕ) (previous : LineRow) (rs : List RowPart)
    (rest : List LineEntry) → begin ≤ low → CanBuild e.address_size low rs
    → AllBelow end rs → low ≤ end → end < 2 ^ (8 * e.address_size)
    → IsReadable (emitted_rules e) 0 (first_row (emitted_rules e)) rest
    → IsReadable (emitted_rules e) begin previous (emitted_rows place begin rs ++ EndSequence (end - begin) 0 ∷ rest)
unfolding CanBuild AllBelow
rows_readable e place begin low end previous [] rest after can below ends small more =
    let at : begin + (end - begin) ≡ end =
    omega arith in (subst (λ n. n < 2 ^ (8 * e.address_size)) (sym at) small, more)
rows_readable e place begin low end previous (r ∷ rs) rest after can below ends small more =
    let first = can.0 in
    let at : begin + (r.address - begin) ≡ r.address = omega arith in (
      subst (λ n. n < 2 ^ (8 * e.address_size)) (sym at) can.1,
      rows_readable e place begin r.address end (row_after_row (emitted_row place begin r))
          rs rest (omega arith) can.6 below.1
          below.0
          small more,
    )

-- ---- all sequences

-- one sequence before others
sequence_follows : (e : Encoding) (place : ℕ → ℕ) (s : SequencePart) (rest : List LineEntry) → ArePlaces place
    → (known : CanBuildAll e.address_size s) → follows (emitted_rules e) (first_row (emitted_rules e)) rest ≡ true
    → follows (emitted_rules e) (row_at_address (first_row (emitted_rules e)))
    (emitted_rows place known.first.address (known.first ∷ known.others)
    ++ EndSequence (s.end - known.first.address) 0 ∷ rest) ≡ true
unfolding CanBuild AllBelow
sequence_follows e place s rest places known more =
    let first = known.first in
    rows_follow e place first.address first.address s.end (row_at_address (first_row (emitted_rules e)))
    (first ∷ known.others) rest places (let same : 0 ≡ first.address - first.address = omega arith in
    record { offset = same; no_operations = refl; after = omega arith }) known.ascend
    (subst (AllBelow s.end) known.rows known.above) (subst (AllBelow s.end) known.rows known.above).0 known.ends_low
    more

pub sequences_follow : (e : Encoding) (place : ℕ → ℕ) (ss : List SequencePart) → ArePlaces place
    → AllCanBuild e.address_size ss
    → follows (emitted_rules e) (first_row (emitted_rules e)) (emitted_sequences place ss) ≡ true
unfolding AllCanBuild
sequences_follow e place [] places all = refl
sequences_follow e place (s ∷ ss) places all =
    let known = all.0 in
    let rest = emitted_sequences place ss in
    let first = known.first in
    subst (λ rows. follows (emitted_rules e) (first_row (emitted_rules e))
    (emitted_sequences place (record { rows = rows; end = s.end } ∷ ss)) ≡ true) (sym known.rows)
    (ap (λ es. follows (emitted_rules e) (row_at_address (first_row (emitted_rules e))) es)
    (append_assoc (emitted_rows place first.address (first ∷ known.others))
    (EndSequence (s.end - first.address) 0 ∷ []) rest)
    ∙ sequence_follows e place s rest places known (sequences_follow e place ss places all.1))

pub sequences_readable : (e : Encoding) (place : ℕ → ℕ) (ss : List SequencePart) → AllCanBuild e.address_size ss
    → IsReadable (emitted_rules e) 0 (first_row (emitted_rules e)) (emitted_sequences place ss)
unfolding AllCanBuild CanBuild AllBelow
sequences_readable e place [] all = tt
sequences_readable e place (s ∷ ss) all =
    let known = all.0 in
    let rest = emitted_sequences place ss in
    let first = known.first in
    let whole =
    rows_readable e place first.address first.address s.end (row_at_address (first_row (emitted_rules e)))
    (first ∷ known.others) rest (omega arith) known.ascend (subst (AllBelow s.end) known.rows known.above)
    (subst (AllBelow s.end) known.rows known.above).0 known.ends (sequences_readable e place ss all.1) in
    let low : 0 + 0 ≤ first.address = omega arith in
    subst (λ rows. IsReadable (emitted_rules e) 0 (first_row (emitted_rules e))
    (emitted_sequences place (record { rows = rows; end = s.end } ∷ ss))) (sym known.rows) (
      low,
      known.begins,
      subst (IsReadable (emitted_rules e) first.address (row_at_address (first_row (emitted_rules e))))
          (sym (append_assoc (emitted_rows place first.address (first ∷ known.others))
          (EndSequence (s.end - first.address) 0 ∷ []) rest)) whole,
    )

-- ---- one by one

sequence_ordered : (e : Encoding) (place : ℕ → ℕ) (files : ℕ) (s : SequencePart) → ArePlaces place
    → CanBuildAll e.address_size s → CanShowAll files s → IsOrdered (emitted_rules e) place files s
sequence_ordered e place files s places build show =
    let same : ◌≡◌ {A = List RowPart} (build.first ∷ build.others) (show.first ∷ show.others) =
    sym build.rows ∙ show.rows in
    subst (λ rows. IsOrderedUpTo (emitted_rules e) place files rows s.end) (sym show.rows) (
      show.all,
      show.end,
      subst (FollowsFirst e place s.end) same (sequence_follows e place s [] places build refl),
    )
  where
    -- the rows follow the first row at its address
    FollowsFirst : Encoding → (ℕ → ℕ) → ℕ → List RowPart → Type 0
    FollowsFirst e place end [] = Unit {0}
    FollowsFirst e place end (r ∷ rs) =
        RowsFollow (emitted_rules e) place (row_at_address (first_row (emitted_rules e))) r.address (r ∷ rs) end

pub sequences_ordered : (e : Encoding) (place : ℕ → ℕ) (files : ℕ) (ss : List SequencePart) → ArePlaces place
    → AllCanBuild e.address_size ss → AllSequences files ss → AllOrdered (emitted_rules e) place files ss
unfolding AllCanBuild AllSequences AllOrdered
sequences_ordered e place files [] places build show = tt
sequences_ordered e place files (s ∷ ss) places build show = (
  sequence_ordered e place files s places build.0 show.0,
  sequences_ordered e place files ss places build.1 show.1,
)
