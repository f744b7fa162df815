-- Single instructions and pieces, as a run shows them.
use Rattle.std.proofs.Common.{◌≡◌, ℕ, ◌==◌, ◌&&◌, not, Bool, true, false, cond, List, [], ◌∷◌, ◌++◌, map, filter, Ok, refl, sym, ap, ◌∙◌}
use Rattle.std.proofs.Math.Bool.{beq}
use Rattle.std.proofs.lemmas.Bool.{eqb-true}
use Rattle.gimli_lines_write_bytes.specs.Repetition.{Listing, prepend}
use Rattle.gimli_lines_machine.specs.declared.rules.LineRules.{LineRules}
use Rattle.gimli_lines_machine.specs.declared.registers.Registers.{Registers}
use Rattle.gimli_lines_machine.specs.LineInstructions.{InstructionOf, negate_stmt, set_basic_block, set_prologue_end, set_epilogue_begin}
use Rattle.gimli_lines_machine.specs.Machine.{registers_after, gives_row, next_registers, after_row}
use Rattle.gimli_lines_machine.specs.Runs.{run, run_step, shown_rows, is_shown, row_of}
use Rattle.gimli_lines_write_rows.specs.declared.row.LineRow.{LineRow}
use Rattle.gimli_lines_write_rows.specs.declared.instruction.LineInstruction.{LineInstruction}
use Rattle.gimli_lines_write_rows.specs.declared.instruction.LineInstruction.TheVariants.{SetFile, SetColumn, NegateStatement, SetBasicBlock, SetPrologueEnd, SetEpilogueBegin, SetIsa, SetDiscriminator}
use Rattle.gimli_lines_write_rows.specs.RowPieces.{to_instruction, when, flags, changes}
use Rattle.gimli_lines_write_rows.specs.EntryInstructions.{shows, onto}
use Rattle.gimli_lines_write_rows.specs.BuiltRows.{raw_file}

pub onto-append : {F : Type 0} (a b : List LineInstruction) (rest : List (InstructionOf F)) → onto (a ++ b) rest
    ≡ onto a (onto b rest)
onto-append [] b rest = refl
onto-append (i ∷ a) b rest = ap (λ l. to_instruction i ∷ l) (onto-append a b rest)

-- with the flags of a row
abbrev pub with_flags : Registers → LineRow → Registers
with_flags r row = record r {
  discriminator = row.discriminator;
  basic_block = row.basic_block;
  prologue_end = row.prologue_end;
  epilogue_begin = row.epilogue_begin;
}

-- with what holds on after a row
abbrev pub with_changes : ℕ → Registers → LineRow → Registers
with_changes version r row =
    record r { is_stmt = row.is_statement; file = raw_file version row.file.0; column = row.column; isa = row.isa }

module _ {F : Type 0} (w : LineRules) where
  -- what an instruction shows, and what comes after it
  one : (i : InstructionOf F) (r after : Registers) (rest : List (InstructionOf F)) → Bool → Bool
      → Listing Registers Registers
  one i r after rest gives hidden =
      record {
        items = map row_of (cond (gives && not hidden)
            (record { before = r; instruction = i; after = after }
            ∷ filter is_shown (run w (cond gives (after_row w after) after) rest).items)
            (filter is_shown (run w (cond gives (after_row w after) after) rest).items));
        ending = (run w (cond gives (after_row w after) after) rest).ending;
      }

  one_is : (i : InstructionOf F) (r after : Registers) (rest : List (InstructionOf F)) → registers_after w i r
      ≡ Ok after
      → shows w r (i ∷ rest) ≡ one i r after rest (gives_row i) after.is_hidden
  unfolding one
  one_is i r after rest e =
      ap (λ c. record {
        items = shown_rows (run_step r i c (λ x. run w (next_registers w i x) rest)).items;
        ending = (run_step r i c (λ x. run w (next_registers w i x) rest)).ending;
      }) e

  -- an instruction that gives no row
  pub plain_step : (i : InstructionOf F) (r after : Registers) (rest : List (InstructionOf F)) → registers_after w i r
      ≡ Ok after → gives_row i ≡ false
      → shows w r (i ∷ rest) ≡ shows w after rest
  unfolding one
  plain_step i r after rest e g = one_is i r after rest e ∙ ap (λ b. one i r after rest b after.is_hidden) g

  -- one that gives a row
  pub row_step : (i : InstructionOf F) (r after : Registers) (rest : List (InstructionOf F)) → registers_after w i r
      ≡ Ok after → gives_row i ≡ true → after.is_hidden ≡ false
      → shows w r (i ∷ rest) ≡ prepend (after ∷ []) (shows w (after_row w after) rest)
  unfolding one
  row_step i r after rest e g h =
      one_is i r after rest e ∙ ap (λ b. one i r after rest b after.is_hidden) g ∙ ap (λ b. one i r after rest true b) h

  -- ---- instructions that are there where a test holds

  basic_block_set : (r : Registers) (b : Bool) (rest : List (InstructionOf F)) → r.basic_block ≡ false
      → shows w r (onto (when b SetBasicBlock) rest) ≡ shows w (record r { basic_block = b }) rest
  basic_block_set r true rest h = plain_step set_basic_block r (record r { basic_block = true }) rest refl refl
  basic_block_set r false rest h = ap (λ b. shows w (record r { basic_block = b }) rest) h

  prologue_end_set : (r : Registers) (b : Bool) (rest : List (InstructionOf F)) → r.prologue_end ≡ false
      → shows w r (onto (when b SetPrologueEnd) rest) ≡ shows w (record r { prologue_end = b }) rest
  prologue_end_set r true rest h = plain_step set_prologue_end r (record r { prologue_end = true }) rest refl refl
  prologue_end_set r false rest h = ap (λ b. shows w (record r { prologue_end = b }) rest) h

  epilogue_begin_set : (r : Registers) (b : Bool) (rest : List (InstructionOf F)) → r.epilogue_begin ≡ false
      → shows w r (onto (when b SetEpilogueBegin) rest) ≡ shows w (record r { epilogue_begin = b }) rest
  epilogue_begin_set r true rest h = plain_step set_epilogue_begin r (record r { epilogue_begin = true }) rest refl refl
  epilogue_begin_set r false rest h = ap (λ b. shows w (record r { epilogue_begin = b }) rest) h

  -- an instruction that sets a number, if it is another before
  number_set : (i : LineInstruction) (r : Registers) (with_number : ℕ → Registers) (old n : ℕ)
      (rest : List (InstructionOf F)) → r ≡ with_number old
      → registers_after w (to_instruction {F = F} i) r ≡ Ok (with_number n)
      → gives_row (to_instruction {F = F} i) ≡ false
      → shows w r (onto (when (not (n == old)) i) rest) ≡ shows w (with_number n) rest
  number_set i r with_number old n rest is sets no_row = by (n == old) refl
    where
      by : (b : Bool) → (n == old) ≡ b → shows w r (onto (when (not b) i) rest) ≡ shows w (with_number n) rest
      by true e = ap (λ s. shows w s rest) is ∙ ap (λ m. shows w (with_number m) rest) (sym (eqb-true n old e))
      by false e = plain_step (to_instruction i) r (with_number n) rest sets no_row

  discriminator_set : (r : Registers) (d : ℕ) (rest : List (InstructionOf F)) → r.discriminator ≡ 0
      → shows w r (onto (when (not (d == 0)) (SetDiscriminator d)) rest) ≡ shows w (record r { discriminator = d }) rest
  discriminator_set r d rest h =
      number_set (SetDiscriminator d) r (λ n. record r { discriminator = n }) 0 d rest
      (ap (λ n. record r { discriminator = n }) h) refl refl

  file_set : (r : Registers) (n : ℕ) (rest : List (InstructionOf F))
      → shows w r (onto (when (not (n == r.file)) (SetFile n)) rest) ≡ shows w (record r { file = n }) rest
  file_set r n rest = number_set (SetFile n) r (λ m. record r { file = m }) r.file n rest refl refl refl

  column_set : (r : Registers) (n : ℕ) (rest : List (InstructionOf F))
      → shows w r (onto (when (not (n == r.column)) (SetColumn n)) rest) ≡ shows w (record r { column = n }) rest
  column_set r n rest = number_set (SetColumn n) r (λ m. record r { column = m }) r.column n rest refl refl refl

  isa_set : (r : Registers) (n : ℕ) (rest : List (InstructionOf F))
      → shows w r (onto (when (not (n == r.isa)) (SetIsa n)) rest) ≡ shows w (record r { isa = n }) rest
  isa_set r n rest = number_set (SetIsa n) r (λ m. record r { isa = m }) r.isa n rest refl refl refl

  statement_set : (r : Registers) (b : Bool) (rest : List (InstructionOf F))
      → shows w r (onto (when (not (beq b r.is_stmt)) NegateStatement) rest) ≡ shows w (record r { is_stmt = b }) rest
  statement_set r b rest = by b r.is_stmt refl
    where
      by : (b s : Bool) → r.is_stmt ≡ s → shows w r (onto (when (not (beq b s)) NegateStatement) rest)
          ≡ shows w (record r { is_stmt = b }) rest
      by true true e = ap (λ c. shows w (record r { is_stmt = c }) rest) e
      by true false e = plain_step negate_stmt r (record r { is_stmt = true }) rest
          (ap (λ c. Ok (record r { is_stmt = not c })) e) refl
      by false true e = plain_step negate_stmt r (record r { is_stmt = false }) rest
          (ap (λ c. Ok (record r { is_stmt = not c })) e) refl
      by false false e = ap (λ c. shows w (record r { is_stmt = c }) rest) e

  -- ---- pieces

  pub flags_told : (r : Registers) (row : LineRow) (rest : List (InstructionOf F))
      → r.discriminator ≡ 0 → r.basic_block ≡ false → r.prologue_end ≡ false → r.epilogue_begin ≡ false
      → shows w r (onto (flags row) rest) ≡ shows w (with_flags r row) rest
  unfolding flags
  flags_told r row rest d b p e =
      let laid : onto (flags row) rest ≡ onto (when (not (row.discriminator == 0)) (SetDiscriminator row.discriminator))
      (onto (when row.basic_block SetBasicBlock)
      (onto (when row.prologue_end SetPrologueEnd) (onto (when row.epilogue_begin SetEpilogueBegin) rest))) =
      simp onto-append in
      ap (shows w r) laid
      ∙ discriminator_set r row.discriminator _ d
      ∙ basic_block_set (record r { discriminator = row.discriminator }) row.basic_block _ b
      ∙ prologue_end_set (record r { discriminator = row.discriminator; basic_block = row.basic_block })
      row.prologue_end _ p
      ∙ epilogue_begin_set (record r {
        discriminator = row.discriminator;
        basic_block = row.basic_block;
        prologue_end = row.prologue_end;
      }) row.epilogue_begin _ e

  -- the changes, from the registers after the row before
  pub changes_told : (r : Registers) (previous row : LineRow) (rest : List (InstructionOf F))
      → r.is_stmt ≡ previous.is_statement → r.file ≡ raw_file w.encoding.version previous.file.0
      → r.column ≡ previous.column → r.isa ≡ previous.isa
      → shows w r (onto (changes w.encoding.version previous row) rest)
      ≡ shows w (with_changes w.encoding.version r row) rest
  unfolding changes
  changes_told r previous row rest s f c i =
      let laid : onto (changes w.encoding.version previous row) rest
      ≡ onto (when (not (beq row.is_statement r.is_stmt)) NegateStatement)
      (onto (when (not (raw_file w.encoding.version row.file.0 == r.file))
      (SetFile (raw_file w.encoding.version row.file.0)))
      (onto (when (not (row.column == r.column)) (SetColumn row.column))
      (onto (when (not (row.isa == r.isa)) (SetIsa row.isa)) rest))) =
      rw (s, f, c, i) (simp onto-append) in
      ap (shows w r) laid
      ∙ statement_set r row.is_statement _
      ∙ file_set (record r { is_stmt = row.is_statement }) (raw_file w.encoding.version row.file.0) _
      ∙ column_set (record r { is_stmt = row.is_statement; file = raw_file w.encoding.version row.file.0 }) row.column _
      ∙ isa_set (record r {
        is_stmt = row.is_statement;
        file = raw_file w.encoding.version row.file.0;
        column = row.column;
      }) row.isa _
