-- What is written for entries reads back as their rows.
use Rattle.std.proofs.Common.{◌≡◌, ℕ, ◌+◌, ◌≤◌, ◌++◌, Bool, true, List, [], ◌∷◌, length, None, Result, Ok, Err, refl, sym, ap, ◌∙◌, lit<}
use Rattle.gimli_lines_write_bytes.specs.declared.error.Error.{Error}
use Rattle.gimli_lines_write_bytes.specs.declared.address.Address.{Address}
use Rattle.gimli_lines_write_bytes.specs.declared.address.Address.TheVariants.{Constant}
use Rattle.gimli_lines_write_bytes.specs.OutputBytes.{WriterContents, append, append_result}
use Rattle.gimli_lines_machine.specs.declared.rules.LineRules.{LineRules}
use Rattle.gimli_lines_write_bytes.specs.View.{View}
use Rattle.gimli_lines_machine.specs.declared.registers.Registers.{Registers}
use Rattle.gimli_lines_machine.specs.LineInstructions.{InstructionOf, DefinedFile, file_definition}
use Rattle.gimli_lines_machine.specs.Machine.{start}
use Rattle.gimli_lines_machine.specs.Decoding.{FileMaker, instruction_with, instructions_with, file_of_fields}
use Rattle.gimli_lines_write_bytes.specs.declared.address.Address.TheVariants.{Symbol}
use Rattle.gimli_lines_write_rows.specs.declared.row.LineRow.{LineRow}
use Rattle.gimli_lines_write_rows.specs.declared.entry.LineEntry.TheVariants.{SetAddress, Row, EndSequence}
use Rattle.gimli_lines_write_rows.specs.declared.instruction.LineInstruction.{LineInstruction}
use Rattle.gimli_lines_write_rows.specs.declared.instruction.LineInstruction.TheVariants.{Special, AdvancePc, AdvanceLine, SetFile, SetColumn, NegateStatement, SetBasicBlock, ConstAddPc, SetPrologueEnd, SetEpilogueBegin, SetIsa, EndSequence as EndInstruction, SetDiscriminator}
use Rattle.gimli_lines_write_rows.specs.declared.entry.LineEntry.{LineEntry}
use Rattle.gimli_lines_write_rows.specs.BuiltRows.{first_row, row_at_address, row_after_row, follows, IsReadable, rows_of}
use Rattle.gimli_lines_write_rows.specs.RowPieces.{IsBuildable, to_instruction, row_piece, end_piece}
use Rattle.gimli_lines_write_rows.specs.EntryInstructions.{shows, onto, instructions_from}
use Rattle.gimli_lines_write_rows.specs.EntryBytes.{entries_bytes}
use Rattle.gimli_lines_write_rows.specs.RowsReadBack.{DecodesTo}
use Rattle.gimli_lines_write_rows.proofs.ProgramRuns.{program_told, first_placed, start_is, fits_64}
use Rattle.gimli_lines_write_rows.proofs.EntryDecoding.{tiled_listed, entries_tiled}

-- ---- none of the instructions defines a file

abbrev pub DefinesNone : {F : Type 0} → List (InstructionOf F) → Type 0
DefinesNone [] = Unit {0}
DefinesNone (i ∷ rest) = (file_definition i ≡ None) × DefinesNone rest

plain : {F : Type 0} (i : LineInstruction) → file_definition {F = F} (to_instruction i) ≡ None
plain (Special opcode) = refl
plain (AdvancePc n) = refl
plain (AdvanceLine n) = refl
plain (SetFile n) = refl
plain (SetColumn n) = refl
plain NegateStatement = refl
plain SetBasicBlock = refl
plain ConstAddPc = refl
plain SetPrologueEnd = refl
plain SetEpilogueBegin = refl
plain (SetIsa n) = refl
plain EndInstruction = refl
plain (SetDiscriminator n) = refl

onto_defines_none : {F : Type 0} (is : List LineInstruction) (rest : List (InstructionOf F)) → DefinesNone rest
    → DefinesNone (onto is rest)
onto_defines_none [] rest h = h
onto_defines_none (i ∷ is) rest h = (plain i, onto_defines_none is rest h)

pub entries_define_none : (F : Type 0) (rules : LineRules) (previous : LineRow) (entries : List LineEntry)
    → DefinesNone (instructions_from {F = F} rules previous entries)
unfolding instructions_from
entries_define_none F rules previous [] = tt
entries_define_none F rules previous (SetAddress (Constant n) ∷ entries) =
    (refl, entries_define_none F rules (row_at_address previous) entries)
entries_define_none F rules previous (SetAddress (Symbol s a) ∷ entries) =
    (refl, entries_define_none F rules (row_at_address previous) entries)
entries_define_none F rules previous (Row row ∷ entries) =
    onto_defines_none (row_piece rules previous row) _ (entries_define_none F rules (row_after_row row) entries)
entries_define_none F rules previous (EndSequence offset op_index ∷ entries) =
    onto_defines_none (end_piece rules previous offset op_index) _
    (entries_define_none F rules (first_row rules) entries)

-- ---- whole programs

abbrev ok_bytes : List ℕ → Result (List ℕ) Error
ok_bytes bytes = Ok bytes

module _ (rules : LineRules) (can_build : IsBuildable rules) (entries : List LineEntry)
    (f : follows rules (first_row rules) entries ≡ true) (readable : IsReadable rules 0 (first_row rules) entries) where
  -- the instructions show the rows, whatever they say of files
  pub rows_shown : (F : Type 0) → (end : Registers)
      × (shows {F = F} rules (start rules) (instructions_from rules (first_row rules) entries)
      ≡ record { items = rows_of rules entries; ending = Ok end })
  rows_shown F =
      let r = program_told F rules can_build (fits_64 rules can_build) entries 0 (first_row rules)
      (first_placed rules can_build) f readable in (
        r.0,
        ap (λ s. shows {F = F} rules s (instructions_from rules (first_row rules) entries)) (sym (start_is rules))
            ∙ r.1,
      )

  module _ (address_of : Address → Result ℕ Error) (constants : (n : ℕ) → address_of (Constant n) ≡ Ok n) where
    -- the bytes are read as the instructions, whatever is made of a file
    pub instructions_read : {F : Type 0} (make : FileMaker F) (limit : ℕ) (counts : List ℕ) (v : View) → 128 ≤ limit
        → entries_bytes address_of v.is_big rules (first_row rules) entries ≡ Ok v.bytes
        → instructions_with make limit rules counts v
        ≡ record {
          items = instructions_from rules (first_row rules) entries;
          ending = Ok (record { bytes = []; is_big = v.is_big; first = v.first + length v.bytes });
        }
    instructions_read make limit counts v wide e =
        tiled_listed v.is_big (instruction_with make limit rules counts)
        (instructions_from rules (first_row rules) entries) v
        (entries_tiled v.is_big make limit wide rules can_build counts address_of constants entries 0 (first_row rules)
        v.bytes f readable (lit< tt) e) refl

    pub bytes_read : (is_big : Bool) (bytes : List ℕ) → entries_bytes address_of is_big rules (first_row rules) entries
        ≡ Ok bytes → DecodesTo rules is_big bytes (rows_of rules entries)
    bytes_read is_big bytes e =
        let r = rows_shown DefinedFile in
        record {
          program = instructions_from rules (first_row rules) entries;
          parses = λ limit counts v wide o same. instructions_read file_of_fields limit counts v wide
              (ap (λ b. entries_bytes address_of b rules (first_row rules) entries) o ∙ e ∙ ap ok_bytes (sym same));
          ending = r.0;
          run = r.1;
        }

    pub read_back : (old new : WriterContents)
        → append_result (entries_bytes address_of old.is_big rules (first_row rules) entries) old ≡ Ok new
        → (more : List ℕ) × (new.bytes ≡ old.bytes ++ more) × DecodesTo rules old.is_big more (rows_of rules entries)
    read_back old new h = by (entries_bytes address_of old.is_big rules (first_row rules) entries) refl h
      where
        by : (r : Result (List ℕ) Error) → entries_bytes address_of old.is_big rules (first_row rules) entries ≡ r
            → append_result r old ≡ Ok new
            → (more : List ℕ) × (new.bytes ≡ old.bytes ++ more)
            × DecodesTo rules old.is_big more (rows_of rules entries)
        by (Ok bytes) e g = let there : append bytes old ≡ new = cc in
            (bytes, ap (λ (w : WriterContents). w.bytes) (sym there), bytes_read old.is_big bytes e)
        by (Err d) e g = absurd (cc)
