-- A builder that adds the sequences of a table has their entries.
use Rattle.std.proofs.Common.{◌≡◌, ℕ, ◌-◌, true, false, List, [], ◌∷◌, ◌++◌, Some, refl, sym, ap, subst, ◌∙◌, append_assoc}
use Rattle.std.proofs.lemmas.Bool.{and_parts}
use Rattle.gimli_lines_write_rows.specs.Address.TheVariants.{Constant}
use Rattle.gimli_lines_write_rows.specs.declared.row.LineRow.{LineRow}
use Rattle.gimli_lines_write_rows.specs.declared.entry.LineEntry.{LineEntry}
use Rattle.gimli_lines_write_rows.specs.declared.entry.LineEntry.TheVariants.{SetAddress, Row, EndSequence}
use Rattle.gimli_lines_write_rows.specs.BuiltRows.{first_row, row_at_address, can_follow, can_place}
use Rattle.gimli_lines_write_rows.specs.RowsBuilding.{BuilderState, with_sequence}
use Rattle.linemap_places_laws.specs.TableParts.{RowPart}
use Rattle.linemap_emit_rows.specs.EmittedRows.{emitted_row, emitted_rows, emitted_from, RowsFollow}
use Rattle.linemap_emit_rows.specs.SequenceBuilding.{with_entries, with_row, with_rows, IsOpen, IsIdle}

-- a builder with these entries between sequences
abbrev idle_with : List LineEntry → BuilderState → BuilderState
idle_with entries b = record {
  rules = b.rules;
  entries = entries;
  previous = first_row b.rules;
  row = first_row b.rules;
  in_sequence = false;
}

rows_built : (place : ℕ → ℕ) (begin : ℕ) (rs : List RowPart) (end : ℕ) (b : BuilderState)
    → with_rows place begin rs end b
    ≡ idle_with (b.entries ++ (emitted_rows place begin rs ++ EndSequence (end - begin) 0 ∷ [])) b
rows_built place begin [] end b = refl
rows_built place begin (r ∷ rs) end b =
    rows_built place begin rs end (with_row (emitted_row place begin r) b)
    ∙ ap (λ es. idle_with es b) (append_assoc b.entries (Row (emitted_row place begin r) ∷ [])
    (emitted_rows place begin rs ++ EndSequence (end - begin) 0 ∷ []))

-- what is between sequences
idle_is : (b : BuilderState) → IsIdle b → (entries : List LineEntry) → idle_with entries b
    ≡ record b { entries = entries }
idle_is b idle entries =
    ap (λ (r : LineRow). record {
      rules = b.rules;
      entries = entries;
      previous = r;
      row = first_row b.rules;
      in_sequence = false;
    }) (sym idle.previous)
    ∙ ap (λ (r : LineRow). record {
      rules = b.rules;
      entries = entries;
      previous = b.previous;
      row = r;
      in_sequence = false;
    }) (sym idle.row)
    ∙ ap (λ s. record {
      rules = b.rules;
      entries = entries;
      previous = b.previous;
      row = b.row;
      in_sequence = s;
    }) (sym idle.in_sequence)

-- a whole sequence
pub sequence_built : (place : ℕ → ℕ) (begin : ℕ) (rs : List RowPart) (end : ℕ) (b : BuilderState) → IsIdle b
    → with_rows place begin rs end (with_sequence (Some (Constant begin)) b)
    ≡ with_entries (emitted_from place begin rs end) b
sequence_built place begin rs end b idle =
    rows_built place begin rs end (with_sequence (Some (Constant begin)) b)
    ∙ idle_is b idle _
    ∙ ap (λ es. record b { entries = es }) (append_assoc b.entries (SetAddress (Constant begin) ∷ [])
    (emitted_rows place begin rs ++ EndSequence (end - begin) 0 ∷ []))

-- it can be begun
pub sequence_opens : (place : ℕ → ℕ) (begin : ℕ) (rs : List RowPart) (end : ℕ) (b : BuilderState) → IsIdle b
    → RowsFollow b.rules place (row_at_address (first_row b.rules)) begin rs end
    → IsOpen place begin rs end (with_sequence (Some (Constant begin)) b)
sequence_opens place begin rs end b idle follow = record {
  in_sequence = refl;
  no_operations = refl;
  rows_follow = subst (λ (r : LineRow). RowsFollow b.rules place (row_at_address r) begin rs end) (sym idle.previous)
      follow;
}

-- a sequence from its begin to its end
pub ruleset whole_sequences = (sequence_opens, sequence_built)

-- ---- row by row

-- the first of the rows can follow
pub row_follows : (place : ℕ → ℕ) (begin : ℕ) (r : RowPart) (rs : List RowPart) (end : ℕ) (b : BuilderState)
    → IsOpen place begin (r ∷ rs) end b → can_follow b.rules b.previous (emitted_row place begin r) ≡ true
row_follows place begin r rs end b is_open = (and_parts _ _ is_open.rows_follow).0

-- and the others after it
pub rows_stay : (place : ℕ → ℕ) (begin : ℕ) (r : RowPart) (rs : List RowPart) (end : ℕ) (b : BuilderState)
    → IsOpen place begin (r ∷ rs) end b → IsOpen place begin rs end (with_row (emitted_row place begin r) b)
rows_stay place begin r rs end b is_open = record {
  in_sequence = is_open.in_sequence;
  no_operations = refl;
  rows_follow = (and_parts _ _ is_open.rows_follow).1;
}

-- after the last row comes the end
pub end_follows : (place : ℕ → ℕ) (begin end : ℕ) (b : BuilderState) → IsOpen place begin [] end b
    → can_place b.rules b.previous (end - begin) b.row.op_index ≡ true
end_follows place begin end b is_open =
    ap (can_place b.rules b.previous (end - begin)) is_open.no_operations ∙ (and_parts _ _ is_open.rows_follow).0

-- the rows of an open sequence, and its end
pub ruleset open_sequences = (row_follows, rows_stay, end_follows)
