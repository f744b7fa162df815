-- A program that is built of a table's sequences shows their rows.
use Rattle.std.proofs.Common.{◌≡◌, ℕ, ◌+◌, ◌-◌, ◌≤◌, false, List, [], ◌∷◌, ◌++◌, map, refl, sym, ap, subst, ◌∙◌, arith, append_assoc}
use Rattle.gimli_lines_write_rows.specs.LineRules.{LineRules}
use Rattle.gimli_lines_write_rows.specs.declared.row.LineRow.{LineRow}
use Rattle.gimli_lines_write_rows.specs.declared.entry.LineEntry.{LineEntry}
use Rattle.gimli_lines_write_rows.specs.declared.entry.LineEntry.TheVariants.{EndSequence}
use Rattle.gimli_lines_write_rows.specs.BuiltRows.{raw_file, first_row, rows_from, registers_of_row, registers_of_end, row_after_row, row_at_address}
use Rattle.linemap_places_laws.specs.Lines.{ProgramRow}
use Rattle.linemap_places_laws.specs.TableParts.{RowPart, SequencePart}
use Rattle.linemap_places_laws.specs.LookupAgreement.{lookup_row, RowsAgree, no_sequences, a_sequence}
use Rattle.linemap_places_laws.specs.UnitLines.{program_row}
use Rattle.linemap_emit_rows.specs.EmittedRows.{emitted_row, emitted_rows, emitted_from, emitted_sequences, AllFrom, AllSequences}

module _ (rules : LineRules) (place : ℕ → ℕ) where
  -- the number of a file
  abbrev number : ℕ → ℕ
  number i = raw_file rules.encoding.version (place i)

  row_shown : (begin : ℕ) (r : RowPart) → begin ≤ r.address
      → program_row (registers_of_row rules begin (emitted_row place begin r)) ≡ lookup_row number r
  row_shown begin r after =
      let row : ℕ → ProgramRow =
      λ address. record {
        address = address;
        file = number r.file;
        line = r.line;
        column = r.column;
        statement = r.statement;
        discriminator = r.discriminator;
        ends = false;
      } in
      let at : begin + (r.address - begin) ≡ r.address = omega arith in
      ap row at

  -- the row after them
  row_after : ℕ → LineRow → List RowPart → LineRow
  row_after begin previous [] = previous
  row_after begin previous (r ∷ rs) = row_after begin (row_after_row (emitted_row place begin r)) rs

  rows_shown : (files begin : ℕ) (previous : LineRow) (rs : List RowPart) (rest : List LineEntry)
      → AllFrom files begin rs
      → map program_row (rows_from rules begin previous (emitted_rows place begin rs ++ rest))
      ≡ map (lookup_row number) rs ++ map program_row (rows_from rules begin (row_after begin previous rs) rest)
  unfolding AllFrom row_after
  rows_shown files begin previous [] rest all = refl
  rows_shown files begin previous (r ∷ rs) rest all =
      ap (λ x. x ∷ map program_row
      (rows_from rules begin (row_after_row (emitted_row place begin r)) (emitted_rows place begin rs ++ rest)))
      (row_shown begin r all.0)
      ∙ ap (λ l. lookup_row number r ∷ l)
      (rows_shown files begin (row_after_row (emitted_row place begin r)) rs rest all.2)

  -- one sequence, and those after it
  sequence_rows_shown : (files begin end : ℕ) (rs : List RowPart) (rest : List LineEntry) → AllFrom files begin rs
      → map program_row (rows_from rules 0 (first_row rules) (emitted_from place begin rs end ++ rest))
      ≡ map (lookup_row number) rs
      ++ program_row (registers_of_end rules begin (row_after begin (row_at_address (first_row rules)) rs)
      (end - begin) 0)
      ∷ map program_row (rows_from rules 0 (first_row rules) rest)
  sequence_rows_shown files begin end rs rest all =
      ap (λ es. map program_row (rows_from rules begin (row_at_address (first_row rules)) es))
      (append_assoc (emitted_rows place begin rs) (EndSequence (end - begin) 0 ∷ []) rest)
      ∙ rows_shown files begin (row_at_address (first_row rules)) rs (EndSequence (end - begin) 0 ∷ rest) all

  sequence_shown : (files : ℕ) (first : RowPart) (others : List RowPart) (end : ℕ) (ss : List SequencePart)
      → AllFrom files first.address (first ∷ others) → first.address ≤ end
      → RowsAgree number ss (map program_row (rows_from rules 0 (first_row rules) (emitted_sequences place ss)))
      → RowsAgree number (record { rows = first ∷ others; end = end } ∷ ss)
      (map program_row (rows_from rules 0 (first_row rules)
      (emitted_sequences place (record { rows = first ∷ others; end = end } ∷ ss))))
  sequence_shown files first others end ss all after rest =
      let s : SequencePart = record { rows = first ∷ others; end = end } in
      let last =
      program_row (registers_of_end rules first.address
      (row_after first.address (row_at_address (first_row rules)) (first ∷ others)) (end - first.address) 0) in
      let at : first.address + (end - first.address) ≡ end = omega arith in
      subst (RowsAgree number (s ∷ ss))
      (sym (sequence_rows_shown files first.address end (first ∷ others) (emitted_sequences place ss) all))
      (a_sequence s ss last
      (map program_row (rows_from rules 0 (first_row rules) (emitted_sequences place ss))) (at, refl) rest)

  pub sequences_shown : (files : ℕ) (ss : List SequencePart) → AllSequences files ss
      → RowsAgree number ss (map program_row (rows_from rules 0 (first_row rules) (emitted_sequences place ss)))
  unfolding AllSequences
  sequences_shown files [] all = no_sequences
  sequences_shown files (s ∷ ss) all =
      let known = all.0 in
      subst (λ rs. RowsAgree number (record { rows = rs; end = s.end } ∷ ss)
      (map program_row (rows_from rules 0 (first_row rules)
      (emitted_sequences place (record { rows = rs; end = s.end } ∷ ss)))))
      (sym known.rows)
      (sequence_shown files known.first known.others s.end ss known.all known.end (sequences_shown files ss all.1))
