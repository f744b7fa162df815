-- Instructions are read again from any front of their bytes that has them, and each takes a byte.
use Rattle.std.proofs.Common.{◌≡◌, ℕ, ◌-◌, ◌≤◌, List, eqb, ltb, arith, ap, length-drop, ◌∙◌}
use Rattle.std.specs.Prelude.{slice_index}
use Rattle.gimli_core_readers.specs.View.{View, bytes_left}
use Rattle.gimli_core_readers.specs.Parsers.{Parser, ◌>>=◌, lift, part, within, value_of}
use Rattle.gimli_core_readers.specs.Repetition.{until_end}
use Rattle.gimli_core_readers.proofs.StepSizes.{Below, SomeBelow-until_end}
use Rattle.gimli_core_readers.proofs.Listings.{Shrinks}
use Rattle.gimli_core_readers.specs.NumberParsers.{fixed, unsigned, offset_below}
use Rattle.gimli_lines_machine.specs.declared.rules.LineRules.{LineRules}
use Rattle.gimli_lines_machine.specs.LineInstructions.{special, copy, advance_pc, advance_line, set_file, set_column, negate_stmt, set_basic_block, const_add_pc, fixed_advance_pc, set_prologue_end, set_epilogue_begin, set_isa, unknown_standard_0, unknown_standard_1, unknown_standard_n}
use Rattle.gimli_lines_machine.specs.Decoding.{FileMaker, unknown_instruction, standard_instruction, extended_instruction, extended_in, of_opcode, instruction_with}
use Rattle.gimli_lines_machine.proofs.CutBytes.{ReadsCut, cut-give, cut-lift, cut-then, cut-mapped, cut-branch, cut-less, cut-times, cut-span_of, cut-part}
use Rattle.gimli_lines_machine.proofs.CutNumbers.{cut-fixed, cut-unsigned, cut-signed}

cut-unknown_instruction : {F : Type 0} (opcode count : ℕ) → ReadsCut 0 (unknown_instruction {F = F} opcode count)
cut-unknown_instruction opcode count =
    cut-branch (eqb count 0) (cut-give (unknown_standard_0 opcode))
    (cut-branch (eqb count 1) (cut-mapped (unknown_standard_1 opcode) (cut-less cut-unsigned))
    (cut-mapped (unknown_standard_n opcode) (cut-span_of (cut-times count unsigned cut-unsigned))))

cut-standard_instruction : {F : Type 0} (counts : List ℕ) (opcode : ℕ)
    → ReadsCut 0 (standard_instruction {F = F} counts opcode)
unfolding standard_instruction
cut-standard_instruction counts opcode =
    cut-branch (eqb opcode 1) (cut-give copy)
    (cut-branch (eqb opcode 2) (cut-mapped advance_pc (cut-less cut-unsigned))
    (cut-branch (eqb opcode 3) (cut-mapped advance_line (cut-less cut-signed))
    (cut-branch (eqb opcode 4) (cut-mapped set_file (cut-less cut-unsigned))
    (cut-branch (eqb opcode 5) (cut-mapped set_column (cut-less cut-unsigned))
    (cut-branch (eqb opcode 6) (cut-give negate_stmt)
    (cut-branch (eqb opcode 7) (cut-give set_basic_block)
    (cut-branch (eqb opcode 8) (cut-give const_add_pc)
    (cut-branch (eqb opcode 9) (cut-mapped fixed_advance_pc (cut-less (cut-fixed 2)))
    (cut-branch (eqb opcode 10) (cut-give set_prologue_end)
    (cut-branch (eqb opcode 11) (cut-give set_epilogue_begin)
    (cut-branch (eqb opcode 12) (cut-mapped set_isa (cut-less cut-unsigned))
    (cut-unknown_instruction opcode (slice_index counts (opcode - 1))))))))))))))

cut-extended_instruction : {F : Type 0} (make : FileMaker F) (limit : ℕ) (rules : LineRules)
    → ReadsCut 0 (extended_instruction make limit rules)
unfolding extended_instruction
cut-extended_instruction {F} make limit rules =
    cut-then {p = unsigned} {f = λ n. (lift (offset_below limit n) >>= λ length.
    (part length >>= λ bytes. within bytes (extended_in make rules)))} (cut-less cut-unsigned)
    (λ n. cut-then {p = lift (offset_below limit n)}
    {f = λ length. (part length >>= λ bytes. within bytes (extended_in make rules))} (cut-lift (offset_below limit n))
    (λ length. cut-then {p = part length} {f = λ bytes. within bytes (extended_in make rules)} (cut-part length)
    (λ bytes. cut-lift (value_of (extended_in make rules bytes)))))

pub cut-instruction : {F : Type 0} (make : FileMaker F) (limit : ℕ) (rules : LineRules) (counts : List ℕ)
    → ReadsCut 1 (instruction_with make limit rules counts)
unfolding instruction_with
cut-instruction make limit rules counts =
    cut-then {p = fixed 1} {f = of_opcode make limit rules counts} (cut-fixed 1)
    (λ opcode. cut-branch (eqb opcode 0) (cut-extended_instruction make limit rules)
    (cut-branch (ltb opcode rules.opcode_base) (cut-standard_instruction counts opcode) (cut-give (special opcode))))

-- what is kept takes its bytes
pub cut_below : {A : Type 0} {p : Parser A} → ReadsCut 1 p → (n : ℕ) (v : View) → bytes_left v ≤ n
    → Below bytes_left n (p v)
cut_below {p = p} h n v le = record {
  left = λ x w e.
      let k = h.each v w x e in
      let some : 1 ≤ k.count = k.some in
      let fits : k.count ≤ bytes_left v = k.fits in
      let left : bytes_left w ≡ bytes_left v - k.count = ap bytes_left k.rest ∙ length-drop k.count v.bytes in
      omega arith;
}

pub instructions-shrink : {F : Type 0} (make : FileMaker F) (limit : ℕ) (rules : LineRules) (counts : List ℕ)
    → Shrinks bytes_left (until_end (instruction_with make limit rules counts))
instructions-shrink make limit rules counts =
    record {
      smaller = λ v n le. SomeBelow-until_end v
          (λ w le'. cut_below (cut-instruction make limit rules counts) n w le') le;
    }
