-- Entries with one more after them.
use Rattle.std.proofs.Common.{◌≡◌, ◌&&◌, Bool, true, false, true≢false, List, [], ◌∷◌, ◌++◌, refl, sym, ap, ◌∙◌}
use Rattle.gimli_lines_machine.specs.declared.rules.LineRules.{LineRules}
use Rattle.gimli_lines_write_rows.specs.declared.row.LineRow.{LineRow}
use Rattle.gimli_lines_write_rows.specs.declared.entry.LineEntry.{LineEntry}
use Rattle.gimli_lines_write_rows.specs.declared.entry.LineEntry.TheVariants.{SetAddress, Row, EndSequence}
use Rattle.gimli_lines_write_rows.specs.BuiltRows.{follows, row_after_entries, first_row}
use Rattle.gimli_lines_write_rows.specs.EntryBytes.{next_row, can_come}
use Rattle.gimli_lines_write_rows.specs.RowsBuilding.{IsBuilderState}
use Rattle.gimli_lines_write_rows.proofs.Moves.{and-first, and-second}
use Rattle.gimli_lines_write_rows.proofs.JoinedWrites.{follows-cons}

row_after-cons : (rules : LineRules) (previous : LineRow) (entry : LineEntry) (rest : List LineEntry)
    → row_after_entries rules previous (entry ∷ rest) ≡ row_after_entries rules (next_row rules previous entry) rest
row_after-cons rules previous (SetAddress address) rest = refl
row_after-cons rules previous (Row row) rest = refl
row_after-cons rules previous (EndSequence offset op_index) rest = refl

pub row_after-push : (rules : LineRules) (previous : LineRow) (entries : List LineEntry) (entry : LineEntry)
    → row_after_entries rules previous (entries ++ entry ∷ [])
    ≡ next_row rules (row_after_entries rules previous entries) entry
row_after-push rules previous [] entry = row_after-cons rules previous entry []
row_after-push rules previous (e ∷ entries) entry =
    row_after-cons rules previous e (entries ++ entry ∷ [])
    ∙ row_after-push rules (next_row rules previous e) entries entry
    ∙ ap (λ p. next_row rules p entry) (sym (row_after-cons rules previous e entries))

both_true : (a b : Bool) → a ≡ true → b ≡ true → (a && b) ≡ true
both_true true b g h = h
both_true false b g h = absurd (true≢false (sym g))

pub follows-push : (rules : LineRules) (previous : LineRow) (entries : List LineEntry) (entry : LineEntry)
    → follows rules previous entries ≡ true → can_come rules (row_after_entries rules previous entries) entry ≡ true
    → follows rules previous (entries ++ entry ∷ []) ≡ true
follows-push rules previous [] entry f can =
    follows-cons rules previous entry [] ∙ both_true (can_come rules previous entry) true can refl
follows-push rules previous (e ∷ entries) entry f can =
    let split = sym (follows-cons rules previous e entries) ∙ f in
    follows-cons rules previous e (entries ++ entry ∷ [])
    ∙ both_true (can_come rules previous e) (follows rules (next_row rules previous e) (entries ++ entry ∷ []))
    (and-first (can_come rules previous e) (follows rules (next_row rules previous e) entries) split)
    (follows-push rules (next_row rules previous e) entries entry
    (and-second (can_come rules previous e) (follows rules (next_row rules previous e) entries) split)
    (ap (λ p. can_come rules p entry) (sym (row_after-cons rules previous e entries)) ∙ can))

pub built-push : (rules : LineRules) (entries : List LineEntry) (previous : LineRow) (entry : LineEntry)
    → IsBuilderState rules entries previous → can_come rules previous entry ≡ true
    → IsBuilderState rules (entries ++ entry ∷ []) (next_row rules previous entry)
built-push rules entries previous entry built can = record {
  buildable = built.buildable;
  in_order = follows-push rules (first_row rules) entries entry built.in_order
      (ap (λ p. can_come rules p entry) built.last_row ∙ can);
  last_row = row_after-push rules (first_row rules) entries entry ∙ ap (λ p. next_row rules p entry) built.last_row;
}
