-- A reader of the rows of a program that was written answers exactly the rows that were built.
use Rattle.std.proofs.Common.{◌≡◌, ℕ, Bool, true, false, cond, List, [], ◌∷◌, ◌++◌, map, None, Result, Ok, Err, refl, sym, ap, ◌∙◌, append-nil}
use Rattle.std.specs.Prelude.{filter}
use Rattle.gimli_lines_rows.specs.Error.{Error as ReadError}
use Rattle.gimli_lines_rows.specs.View.{View}
use Rattle.gimli_lines_rows.specs.Repetition.{Listing, answer, last_answer}
use Rattle.gimli_lines_rows.specs.LineFiles.{FileFacts, file_in}
use Rattle.gimli_lines_rows.specs.LineHeaders.{LineHeader}
use Rattle.gimli_lines_rows.specs.LineInstructions.{InstructionOf, special, copy, advance_pc, advance_line, set_file, set_column, negate_stmt, set_basic_block, const_add_pc, fixed_advance_pc, set_prologue_end, set_epilogue_begin, set_isa, unknown_standard_0, unknown_standard_1, unknown_standard_n, end_sequence, set_address, define_file, set_discriminator, unknown_extended, file_definition}
use Rattle.gimli_lines_rows.specs.Machine.{registers_after, next_registers, start}
use Rattle.gimli_lines_rows.specs.Runs.{Execution, run, run_step, is_shown, row_of, shown_rows}
use Rattle.gimli_lines_rows.specs.ProgramInstructions.{rules_of}
use Rattle.gimli_lines_rows.specs.ProgramRows.{Row, header_after, row_of_execution, rows_of_run, with_ending, row_answers}
use Rattle.gimli_lines_rows.specs.Decoding.{instructions_with}
use Rattle.gimli_lines_write_unit.specs.Registers.{Registers}
use Rattle.gimli_lines_write_unit.specs.LineRules.{LineRules}
use Rattle.gimli_lines_write_unit.specs.LineEntry.{LineEntry}
use Rattle.gimli_lines_write_unit.specs.WriteError.{Error}
use Rattle.gimli_lines_write_unit.specs.Address.{Address}
use Rattle.gimli_lines_write_unit.specs.Address.TheVariants.{Constant}
use Rattle.gimli_lines_write_unit.specs.BuiltRows.{first_row, follows, rows_of, IsReadable}
use Rattle.gimli_lines_write_unit.specs.EntryBytes.{entries_bytes}
use Rattle.gimli_lines_write_unit.specs.EntryInstructions.{instructions_from}
use Rattle.gimli_lines_write_unit.specs.RowPieces.{IsBuildable}
use Rattle.gimli_lines_write_unit.proofs.RowsDecoding.{DefinesNone, entries_define_none, rows_shown, instructions_read}
use Rattle.gimli_lines_write_laws.specs.UnitReadBack.{answer_under, AnswersRows}

-- ---- instructions that define no file leave the header

header_stays : (takes_files : Bool) (h : LineHeader) (i : InstructionOf FileFacts) → file_definition i ≡ None
    → header_after takes_files i h ≡ h
header_stays takes_files h (special opcode) is = refl
header_stays takes_files h copy is = refl
header_stays takes_files h (advance_pc n) is = refl
header_stays takes_files h (advance_line n) is = refl
header_stays takes_files h (set_file n) is = refl
header_stays takes_files h (set_column n) is = refl
header_stays takes_files h negate_stmt is = refl
header_stays takes_files h set_basic_block is = refl
header_stays takes_files h const_add_pc is = refl
header_stays takes_files h (fixed_advance_pc n) is = refl
header_stays takes_files h set_prologue_end is = refl
header_stays takes_files h set_epilogue_begin is = refl
header_stays takes_files h (set_isa n) is = refl
header_stays takes_files h (unknown_standard_0 opcode) is = refl
header_stays takes_files h (unknown_standard_1 opcode n) is = refl
header_stays takes_files h (unknown_standard_n opcode v) is = refl
header_stays takes_files h end_sequence is = refl
header_stays takes_files h (set_address n) is = refl
header_stays takes_files h (define_file file) is = absurd (cc)
header_stays takes_files h (set_discriminator n) is = refl
header_stays takes_files h (unknown_extended opcode v) is = refl

-- a row under a header
abbrev pub row_under : LineHeader → Registers → Row
row_under h r = record { header = h; registers = r }

-- a row, if it is shown, before others
shown_first : (h : LineHeader) (e : Execution FileFacts) (xs : List (Execution FileFacts)) (rows : List Row) (b : Bool)
    → rows ≡ map (row_under h) (shown_rows xs)
    → cond b (row_under h e.after ∷ []) [] ++ rows ≡ map (row_under h) (map row_of (cond b (e ∷ filter is_shown xs)
    (filter is_shown xs)))
shown_first h e xs rows true is = ap (λ rs. row_under h e.after ∷ rs) is
shown_first h e xs rows false is = is

-- the rows of a run are those that it shows, under the one header
under_one_header : (takes_files : Bool) (h : LineHeader) (rules : LineRules) (r : Registers)
    (is : List (InstructionOf FileFacts)) → DefinesNone is → rows_of_run takes_files h (run rules r is).items
    ≡ map (row_under h) (shown_rows (run rules r is).items)
under_one_header takes_files h rules r [] none = refl
under_one_header takes_files h rules r (i ∷ is) none = by (registers_after rules i r)
    (λ after. under_one_header takes_files h rules (next_registers rules i after) is none.1)
  where
    rest : Registers → Listing Registers (Execution FileFacts)
    rest after = run rules (next_registers rules i after) is

    by : (x : Result Registers ReadError) → ((after : Registers) → rows_of_run takes_files h (rest after).items
        ≡ map (row_under h) (shown_rows (rest after).items))
        → rows_of_run takes_files h (run_step r i x rest).items
        ≡ map (row_under h) (shown_rows (run_step r i x rest).items)
    by (Err e) later = refl
    by (Ok after) later =
        let e : Execution FileFacts = record { before = r; instruction = i; after = after } in
        ap (λ g. row_of_execution g e ++ rows_of_run takes_files g (rest after).items)
        (header_stays takes_files h i none.0)
        ∙ shown_first h e (rest after).items (rows_of_run takes_files h (rest after).items) (is_shown e) (later after)

answers_of_rows : (h : LineHeader) (rows : List Registers) → map answer (map (row_under h) rows)
    ≡ map (answer_under h) rows
answers_of_rows h [] = refl
answers_of_rows h (r ∷ rows) = ap (λ xs. answer_under h r ∷ xs) (answers_of_rows h rows)

-- ---- programs

abbrev ok_bytes : List ℕ → Result (List ℕ) Error
ok_bytes bytes = Ok bytes

module _ (address_of : Address → Result ℕ Error) (constants : (n : ℕ) → address_of (Constant n) ≡ Ok n)
    (rules : LineRules) (can_build : IsBuildable rules) (entries : List LineEntry)
    (f : follows rules (first_row rules) entries ≡ true) (readable : IsReadable rules 0 (first_row rules) entries) where
  pub rows_answered : (is_big : Bool) (bytes : List ℕ)
      → entries_bytes address_of is_big rules (first_row rules) entries ≡ Ok bytes
      → AnswersRows rules is_big bytes (rows_of rules entries)
  rows_answered is_big bytes e limit takes_files h wide same order there =
      let listed = instructions_read rules can_build entries f readable address_of constants file_in limit
      h.standard_opcode_lengths.bytes h.program wide
      (ap (λ b. entries_bytes address_of b rules (first_row rules) entries) order ∙ e ∙ ap ok_bytes (sym there)) in
      let rows_are = rows_shown rules can_build entries f readable FileFacts in
      let program = run rules (start rules) (instructions_from rules (first_row rules) entries) in
      ap (λ (l : Listing View (InstructionOf FileFacts)). row_answers takes_files h
      (with_ending l.ending (run (rules_of h) (start (rules_of h)) l.items)))
      (ap (λ r. instructions_with file_in limit r h.standard_opcode_lengths.bytes h.program) same ∙ listed)
      ∙ ap (λ r. row_answers takes_files h (run r (start r) (instructions_from rules (first_row rules) entries))) same
      ∙ ap (λ (x : Result Registers ReadError). map answer (rows_of_run takes_files h program.items) ++ last_answer x)
      (ap (λ (l : Listing Registers Registers). l.ending) rows_are.1)
      ∙ append-nil (map answer (rows_of_run takes_files h program.items))
      ∙ ap (map answer) (under_one_header takes_files h rules (start rules)
      (instructions_from rules (first_row rules) entries)
      (entries_define_none FileFacts rules (first_row rules) entries)
      ∙ ap (map (row_under h)) (ap (λ (l : Listing Registers Registers). l.items) rows_are.1))
      ∙ answers_of_rows h (rows_of rules entries)
