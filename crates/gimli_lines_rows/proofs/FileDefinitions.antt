-- From version 5 on no instruction defines a file.
use Rattle.std.proofs.Common.{◌≡◌, ℕ, ◌-◌, ◌≤◌, ◌⊎◌, inl, inr, Bool, true, false, cond, eqb, leb, ltb, ◌&&◌, List, Option, Some, None, Result, Ok, Err, IfErr, refl, sym, ap, ◌∙◌, arith}
use Rattle.std.specs.Prelude.{slice_index}
use Rattle.std.specs.Result.{IsErrAnd}
use Rattle.std.proofs.lemmas.Bool.{lt-leb}
use Rattle.gimli_lines_machine.specs.Error.{Error}
use Rattle.gimli_lines_machine.specs.View.{View}
use Rattle.gimli_lines_machine.specs.Parsers.{Step, proceed, give, lift, value_of, part}
use Rattle.gimli_lines_machine.specs.Repetition.{times}
use Rattle.gimli_lines_machine.proofs.StepParts.{value_is}
use Rattle.gimli_lines_machine.specs.NumberParsers.{fixed, unsigned, signed, address, offset_below}
use Rattle.gimli_lines_machine.specs.TheConstants.{DW_LNS_copy, DW_LNS_advance_pc, DW_LNS_advance_line, DW_LNS_set_file, DW_LNS_set_column, DW_LNS_negate_stmt, DW_LNS_set_basic_block, DW_LNS_const_add_pc, DW_LNS_fixed_advance_pc, DW_LNS_set_prologue_end, DW_LNS_set_epilogue_begin, DW_LNS_set_isa, DW_LNE_end_sequence, DW_LNE_set_address, DW_LNE_define_file, DW_LNE_set_discriminator}
use Rattle.gimli_lines_machine.specs.declared.rules.LineRules.{LineRules}
use Rattle.gimli_lines_machine.specs.declared.registers.Registers.{Registers}
use Rattle.gimli_lines_machine.specs.Machine.{registers_after}
use Rattle.gimli_lines_machine.specs.LineInstructions.{InstructionOf, file_definition, special, copy, advance_pc, advance_line, set_file, set_column, negate_stmt, set_basic_block, const_add_pc, fixed_advance_pc, set_prologue_end, set_epilogue_begin, set_isa, unknown_standard_0, unknown_standard_1, unknown_standard_n, end_sequence, set_address, define_file, set_discriminator, unknown_extended}
use Rattle.gimli_lines_machine.specs.Decoding.{span_of, unknown_instruction, standard_instruction, extended_of, extended_in, extended_instruction, instruction_with}
use Rattle.gimli_lines_header.specs.LineFiles.{FileFacts, file_in}
use Rattle.gimli_lines_header.specs.LineHeaders.{LineHeader}
use Rattle.gimli_lines_rows.specs.ProgramInstructions.{rules_of, next_instruction, with_rest}
use Rattle.gimli_lines_rows.specs.ProgramRows.{RemainingRows, TakesNoFileOf, TakesNoFile, step_to, step_of, next_step}
use Rattle.gimli_lines_rows.proofs.LineRowSteps.{rest_some}
use Rattle.gimli_lines_rows.proofs.ResumedRows.{read_parts}

-- what is read, if anything is, defines no file
abbrev DefinesNone : {S : Type 0} → Result (InstructionOf FileFacts × S) Error → Type 0
DefinesNone {S} r = (i : InstructionOf FileFacts) (s : S) → r ≡ Ok (i, s) → file_definition i ≡ None

-- ---- steps

none-given : {S : Type 0} (i : InstructionOf FileFacts) (s : S) → file_definition i ≡ None → DefinesNone (Ok (i, s))
none-given i s none j t e = ap file_definition (sym (value_is i j s t e)) ∙ none

none-onward : {S A : Type 0} (r : Result (A × S) Error) {k : A → Step S (InstructionOf FileFacts)}
    → ((x : A) (s : S) → DefinesNone (k x s)) → DefinesNone (proceed r k)
none-onward (Ok p) h = h p.0 p.1
none-onward (Err e) h = λ i s is. absurd cc

none-made : {S A : Type 0} (f : A → InstructionOf FileFacts) (r : Result (A × S) Error)
    → ((x : A) → file_definition (f x) ≡ None) → DefinesNone (proceed r (λ x. give (f x)))
none-made f r h = none-onward r (λ x s. none-given (f x) s (h x))

none-cond : {S : Type 0} (b : Bool) {x y : Result (InstructionOf FileFacts × S) Error} → DefinesNone x → DefinesNone y
    → DefinesNone (cond b x y)
none-cond true h k = h
none-cond false h k = k

-- a test that fails
none-unless : {S : Type 0} (a b : Bool) (x : Result (InstructionOf FileFacts × S) Error)
    {y : Result (InstructionOf FileFacts × S) Error} → b ≡ false → DefinesNone y → DefinesNone (cond (a && b) x y)
none-unless a true x e k = absurd cc
none-unless true false x e k = k
none-unless false false x e k = k

none-within : {S T : Type 0} (r : Result (InstructionOf FileFacts × S) Error) (t : T) → DefinesNone r
    → DefinesNone (lift (value_of r) t)
none-within (Ok p) t h = none-given p.0 t (h p.0 p.1 refl)
none-within (Err e) t h = λ i s is. absurd cc

-- ---- instructions

none-unknown : (opcode count : ℕ) (v : View) → DefinesNone (unknown_instruction {F = FileFacts} opcode count v)
none-unknown opcode count v =
    none-cond (eqb count 0) (none-given (unknown_standard_0 opcode) v refl)
    (none-cond (eqb count 1) (none-made (unknown_standard_1 opcode) (unsigned v) (λ x. refl))
    (none-made (unknown_standard_n opcode) (span_of (times count unsigned) v) (λ x. refl)))

none-standard : (counts : List ℕ) (opcode : ℕ) (v : View)
    → DefinesNone (standard_instruction {F = FileFacts} counts opcode v)
unfolding standard_instruction
none-standard counts opcode v =
    none-cond (eqb opcode DW_LNS_copy.0) (none-given copy v refl)
    (none-cond (eqb opcode DW_LNS_advance_pc.0) (none-made advance_pc (unsigned v) (λ x. refl))
    (none-cond (eqb opcode DW_LNS_advance_line.0) (none-made advance_line (signed v) (λ x. refl))
    (none-cond (eqb opcode DW_LNS_set_file.0) (none-made set_file (unsigned v) (λ x. refl))
    (none-cond (eqb opcode DW_LNS_set_column.0) (none-made set_column (unsigned v) (λ x. refl))
    (none-cond (eqb opcode DW_LNS_negate_stmt.0) (none-given negate_stmt v refl)
    (none-cond (eqb opcode DW_LNS_set_basic_block.0) (none-given set_basic_block v refl)
    (none-cond (eqb opcode DW_LNS_const_add_pc.0) (none-given const_add_pc v refl)
    (none-cond (eqb opcode DW_LNS_fixed_advance_pc.0) (none-made fixed_advance_pc (fixed 2 v) (λ x. refl))
    (none-cond (eqb opcode DW_LNS_set_prologue_end.0) (none-given set_prologue_end v refl)
    (none-cond (eqb opcode DW_LNS_set_epilogue_begin.0) (none-given set_epilogue_begin v refl)
    (none-cond (eqb opcode DW_LNS_set_isa.0) (none-made set_isa (unsigned v) (λ x. refl))
    (none-unknown opcode (slice_index counts (opcode - 1)) v))))))))))))

none-extended_of : (rules : LineRules) (opcode : ℕ) (v : View) → 5 ≤ rules.encoding.version
    → DefinesNone (extended_of file_in rules opcode v)
none-extended_of rules opcode v new =
    none-cond (eqb opcode DW_LNE_end_sequence.0) (none-given end_sequence v refl)
    (none-cond (eqb opcode DW_LNE_set_address.0)
    (none-made set_address (address rules.encoding.address_size v) (λ x. refl))
    (none-unless (eqb opcode DW_LNE_define_file.0) (leb rules.encoding.version 4) _
    (lt-leb rules.encoding.version 4 (omega arith))
    (none-cond (eqb opcode DW_LNE_set_discriminator.0) (none-made set_discriminator (unsigned v) (λ x. refl))
    (none-given (unknown_extended opcode v) v refl))))

none-extended_in : (rules : LineRules) (v : View) → 5 ≤ rules.encoding.version
    → DefinesNone (extended_in file_in rules v)
unfolding extended_in
none-extended_in rules v new = none-onward (fixed 1 v) (λ opcode s. none-extended_of rules opcode s new)

none-extended : (limit : ℕ) (rules : LineRules) (v : View) → 5 ≤ rules.encoding.version
    → DefinesNone (extended_instruction file_in limit rules v)
unfolding extended_instruction
none-extended limit rules v new =
    none-onward (unsigned v) (λ n s.
    none-onward (lift (offset_below limit n) s) (λ length t.
    none-onward (part length t) (λ bytes u.
    none-within (extended_in file_in rules bytes) u (none-extended_in rules bytes new))))

none-instruction : (limit : ℕ) (rules : LineRules) (counts : List ℕ) (v : View) → 5 ≤ rules.encoding.version
    → DefinesNone (instruction_with file_in limit rules counts v)
unfolding instruction_with
none-instruction limit rules counts v new =
    none-onward (fixed 1 v) (λ opcode s.
    none-cond (eqb opcode 0) (none-extended limit rules s new)
    (none-cond (ltb opcode rules.opcode_base) (none-standard counts opcode s)
    (none-given (special opcode) s refl)))

-- ---- programs

takes-none : (takes_files : Bool) (i : InstructionOf FileFacts) → (takes_files ≡ false) ⊎ (file_definition i ≡ None)
    → TakesNoFileOf takes_files i
takes-none takes_files (define_file file) (inl is) = is
takes-none takes_files (define_file file) (inr is) = absurd cc
takes-none takes_files _ h = tt

-- no file of the next instruction is taken
pub no_file_of_next : (limit : ℕ) (takes_files : Bool) (h : LineHeader) (v w : View) (i : InstructionOf FileFacts)
    → with_rest (next_instruction limit h v) ≡ Ok (Some (i, w)) → TakesNoFile takes_files h
    → TakesNoFileOf takes_files i
no_file_of_next limit takes_files h v w i e (inl is) = takes-none takes_files i (inl is)
no_file_of_next limit takes_files h v w i e (inr new) =
    takes-none takes_files i
    (inr (none-instruction limit (rules_of h) h.standard_opcode_lengths.bytes v new i w
    (read_parts limit h v w i (rest_some (next_instruction limit h v) i w e)).1))

abbrev read_result : Option (InstructionOf FileFacts × View) → Result (Option (InstructionOf FileFacts × View)) Error
read_result o = Ok o

-- an instruction can't be executed, and defines no file that is taken: that is what refuses the step
pub execution_fault : (limit : ℕ) (takes_files : Bool) (s : RemainingRows) (h k : LineHeader) (v w : View)
    (r : Registers) (o : Option (InstructionOf FileFacts × View)) (i : InstructionOf FileFacts) (d : Error)
    (result : Result (Option Bool) Error) → h ≡ s.header → k ≡ s.header → v ≡ s.rest → r ≡ s.registers
    → with_rest (next_instruction limit h v) ≡ Ok o → o ≡ Some (i, w)
    → (TakesNoFileOf takes_files i → registers_after (rules_of k) i r ≡ Err d) → IsErrAnd result (λ e. e ≡ d)
    → TakesNoFile takes_files s.header → IfErr result (λ e. next_step limit s ≡ Err e)
execution_fault limit takes_files s h k v w r o i d (Ok x) eh ek ev er was is fault handed none = absurd handed
execution_fault limit takes_files s h k v w r o i d (Err x) eh ek ev er was is fault handed none =
    let read : with_rest (next_instruction limit s.header s.rest) ≡ Ok (Some (i, w)) =
    ap (λ (g : LineHeader). with_rest (next_instruction limit g s.rest)) (sym eh)
    ∙ ap (λ (u : View). with_rest (next_instruction limit h u)) (sym ev) ∙ was ∙ ap read_result is in
    let executed : registers_after (rules_of s.header) i s.registers ≡ Err d =
    ap (λ (g : LineHeader). registers_after (rules_of g) i s.registers) (sym ek)
    ∙ ap (registers_after (rules_of k) i) (sym er)
    ∙ fault (no_file_of_next limit takes_files s.header s.rest w i read none) in
    ap (step_of s) read ∙ ap (step_to s i w) executed ∙ ap refusal (sym handed)
  where
    refusal : Error → Result (Option Bool × RemainingRows) Error
    refusal y = Err y
