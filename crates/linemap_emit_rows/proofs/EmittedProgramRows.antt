-- A program that is built of entries shows their rows.
use Rattle.std.proofs.Common.{◌≡◌, ℕ, ◌≤◌, Bool, true, List, [], ◌∷◌, map, None, Result, Ok, Err, refl, sym, ap, ◌∙◌, arith}
use Rattle.std.specs.List.{cons_option}
use Rattle.std.specs.Option.{option_or}
use Rattle.gimli_lines_write_rows.specs.Error.{Error}
use Rattle.gimli_lines_write_rows.specs.Repetition.{Listing, fault_of, fault_in}
use Rattle.linemap_emit_parts.specs.LineFiles.{FileFacts, file_in}
use Rattle.linemap_emit_parts.specs.LineHeaders.{LineHeader}
use Rattle.gimli_lines_write_rows.specs.LineRules.{LineRules}
use Rattle.gimli_lines_write_rows.specs.Registers.{Registers}
use Rattle.gimli_lines_write_rows.specs.LineInstructions.{InstructionOf, file_definition, defined_files}
use Rattle.gimli_lines_write_rows.specs.Machine.{registers_after, next_registers, start}
use Rattle.gimli_lines_write_rows.specs.Runs.{run, run_of, run_step, instruction_of, shown_rows}
use Rattle.gimli_lines_write_rows.specs.Decoding.{instruction_with}
use Rattle.gimli_lines_write_rows.specs.declared.row.LineRow.{LineRow}
use Rattle.gimli_lines_write_rows.specs.declared.entry.LineEntry.{LineEntry}
use Rattle.gimli_lines_write_rows.specs.declared.entry.LineEntry.TheVariants.{SetAddress, Row, EndSequence}
use Rattle.gimli_lines_write_rows.specs.declared.instruction.LineInstruction.{LineInstruction}
use Rattle.gimli_lines_write_rows.specs.declared.instruction.LineInstruction.TheVariants.{Special, AdvancePc, AdvanceLine, SetFile, SetColumn, NegateStatement, SetBasicBlock, ConstAddPc, SetPrologueEnd, SetEpilogueBegin, SetIsa, EndSequence as EndOfSequence, SetDiscriminator}
use Rattle.gimli_lines_write_rows.specs.Address.TheVariants.{Constant, Symbol}
use Rattle.gimli_lines_write_rows.specs.NumberBytes.{constant_of}
use Rattle.gimli_lines_write_rows.specs.BuiltRows.{first_row, rows_of, follows, IsReadable, row_at_address, row_after_row}
use Rattle.gimli_lines_write_rows.specs.RowPieces.{IsBuildable, to_instruction, row_piece, end_piece}
use Rattle.gimli_lines_write_rows.specs.EntryInstructions.{shows, onto, instructions_from}
use Rattle.gimli_lines_write_rows.specs.EntryBytes.{entries_bytes}
use Rattle.gimli_lines_write_rows.proofs.ProgramRuns.{program_told, first_placed, start_is, fits_64}
use Rattle.gimli_lines_write_rows.proofs.EntryDecoding.{tiled_listed, entries_tiled}
use Rattle.linemap_places_laws.specs.UnitLines.{rules_of, run_of_program, program_row}
use Rattle.linemap_emit_rows.specs.ShownPrograms.{ShowsRows}

-- ---- no instruction that is written defines a file

seen_defines : {F : Type 0} (i : LineInstruction) → file_definition (to_instruction {F = F} i) ≡ None
seen_defines (Special opcode) = refl
seen_defines (AdvancePc n) = refl
seen_defines (AdvanceLine n) = refl
seen_defines (SetFile n) = refl
seen_defines (SetColumn n) = refl
seen_defines NegateStatement = refl
seen_defines SetBasicBlock = refl
seen_defines ConstAddPc = refl
seen_defines SetPrologueEnd = refl
seen_defines SetEpilogueBegin = refl
seen_defines (SetIsa n) = refl
seen_defines EndOfSequence = refl
seen_defines (SetDiscriminator n) = refl

onto_defines : {F : Type 0} (is : List LineInstruction) (rest : List (InstructionOf F)) → defined_files rest ≡ []
    → defined_files (onto is rest) ≡ []
onto_defines [] rest h = h
onto_defines (i ∷ is) rest h =
    ap (λ o. cons_option o (defined_files (onto is rest))) (seen_defines i) ∙ onto_defines is rest h

entries_define : {F : Type 0} (w : LineRules) (previous : LineRow) (entries : List LineEntry)
    → defined_files (instructions_from {F = F} w previous entries) ≡ []
unfolding instructions_from
entries_define w previous [] = refl
entries_define w previous (SetAddress (Constant n) ∷ entries) = entries_define w (row_at_address previous) entries
entries_define w previous (SetAddress (Symbol s a) ∷ entries) = entries_define w (row_at_address previous) entries
entries_define {F} w previous (Row row ∷ entries) =
    onto_defines (row_piece w previous row) (instructions_from {F = F} w (row_after_row row) entries)
    (entries_define w (row_after_row row) entries)
entries_define {F} w previous (EndSequence offset op_index ∷ entries) =
    onto_defines (end_piece w previous offset op_index) (instructions_from {F = F} w (first_row w) entries)
    (entries_define w (first_row w) entries)

-- ---- a run that isn't refused executes all

all_executed : {F : Type 0} (w : LineRules) (r end : Registers) (is : List (InstructionOf F))
    → (run w r is).ending ≡ Ok end → map instruction_of (run w r is).items ≡ is
all_executed w r end [] h = refl
all_executed w r end (i ∷ is) h =
    by_change (registers_after w i r) h (λ after. all_executed w (next_registers w i after) end is)
  where
    by_change : (c : Result Registers Error)
        → (run_step r i c (λ after. run w (next_registers w i after) is)).ending ≡ Ok end
        → ((after : Registers) → (run w (next_registers w i after) is).ending ≡ Ok end
        → map instruction_of (run w (next_registers w i after) is).items ≡ is)
        → map instruction_of (run_step r i c (λ after. run w (next_registers w i after) is)).items ≡ (i ∷ is)
    by_change (Ok after) h rest = ap (λ l. i ∷ l) (rest after h)
    by_change (Err e) h rest = absurd cc

-- ---- the program

-- bytes of entries show their rows
pub shows_again : (limit : ℕ) (h : LineHeader) (is_big : Bool) (entries : List LineEntry) → 128 ≤ limit
    → IsBuildable (rules_of h) → follows (rules_of h) (first_row (rules_of h)) entries ≡ true
    → IsReadable (rules_of h) 0 (first_row (rules_of h)) entries
    → h.program.is_big ≡ is_big → entries_bytes constant_of is_big (rules_of h) (first_row (rules_of h)) entries
    ≡ Ok h.program.bytes
    → ShowsRows limit h (map program_row (rows_of (rules_of h) entries))
shows_again limit h is_big entries wide can follow readable order bytes =
    let rules = rules_of h in
    let is = instructions_from {F = FileFacts} rules (first_row rules) entries in
    let tiled =
    entries_tiled is_big file_in limit wide rules can h.standard_opcode_lengths.bytes constant_of (λ n. refl)
    entries 0 (first_row rules) h.program.bytes follow readable (omega arith) bytes in
    let parsed =
    tiled_listed is_big (instruction_with file_in limit rules h.standard_opcode_lengths.bytes) is h.program tiled
    order in
    let runs =
    program_told FileFacts rules can (fits_64 rules can) entries 0 (first_row rules) (first_placed rules can) follow
    readable in
    let ran : shows rules (start rules) is
    ≡ record { items = rows_of rules entries; ending = Ok runs.0 } = ap (λ r. shows rules r is)
    (sym (start_is rules)) ∙ runs.1 in
    let whole : run_of_program limit h ≡ run_of rules is = ap (λ l. run_of rules l.items) parsed in
    let end : (run_of rules is).ending ≡ Ok runs.0 = ap (λ (l : Listing Registers Registers). l.ending) ran in
    record {
      has_no_fault =
          ap (λ l. option_or (fault_of (run_of rules l.items)) (fault_of l)) parsed
          ∙ ap (λ e. option_or (fault_in e) None) end;
      rows_are = ap (λ l. map program_row (shown_rows l.items)) whole
          ∙ ap (λ (l : Listing Registers Registers). map program_row l.items) ran;
      defines_none = ap (λ l. defined_files (map instruction_of l.items)) whole
          ∙ ap defined_files (all_executed rules (start rules) runs.0 is end)
          ∙ entries_define rules (first_row rules) entries;
    }
