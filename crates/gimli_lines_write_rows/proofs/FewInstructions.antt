-- How many instructions a row takes.
use Rattle.std.proofs.Common.{◌≡◌, ℕ, ℤ, pos, ◌+◌, ◌*◌, ◌≤◌, ◌-ℤ◌, ◌==◌, not, nat_le, Bool, true, false, cond, [], ◌∷◌, ◌++◌, length, ap, ◌∙◌, arith}
use Rattle.std.proofs.lemmas.List.{length-append}
use Rattle.std.proofs.Math.Bool.{beq}
use Rattle.gimli_lines_write_bytes.specs.LineEncoding.{LineEncoding}
use Rattle.gimli_lines_machine.specs.declared.rules.LineRules.{LineRules}
use Rattle.gimli_lines_write_rows.specs.declared.row.LineRow.{LineRow}
use Rattle.gimli_lines_write_rows.specs.declared.instruction.LineInstruction.{LineInstruction}
use Rattle.gimli_lines_write_rows.specs.declared.instruction.LineInstruction.TheVariants.{Special, AdvancePc, AdvanceLine, SetFile, SetColumn, NegateStatement, SetBasicBlock, ConstAddPc, SetPrologueEnd, SetEpilogueBegin, SetIsa, SetDiscriminator}
use Rattle.gimli_lines_write_rows.specs.BuiltRows.{raw_file, operations_between}
use Rattle.gimli_lines_write_rows.specs.RowPieces.{when, flags, changes, is_special, line_step, room, is_const, advance, opcode_operations, moves, row_piece}

length-when : (b : Bool) (i : LineInstruction) → length (when b i) ≤ 1
length-when true i = omega arith
length-when false i = omega arith

-- four that may each be left out
four : (a b c d : Bool) (i j k l : LineInstruction) → length (when a i ++ (when b j ++ (when c k ++ when d l))) ≤ 4
four a b c d i j k l =
    sum (length (when a i)) (length (when b j)) (length (when c k)) (length (when d l)) _ _ _ (length-when a i)
    (length-when b j) (length-when c k) (length-when d l)
    (length-append (when a i) (when b j ++ (when c k ++ when d l))) (length-append (when b j) (when c k ++ when d l))
    (length-append (when c k) (when d l))
  where
    sum : (p q r s x y z : ℕ) → p ≤ 1 → q ≤ 1 → r ≤ 1 → s ≤ 1 → x ≡ p + y → y ≡ q + z → z ≡ r + s → x ≤ 4
    sum p q r s x y z e f g h u v w = omega arith

length-advance : (e : LineEncoding) (step operations : ℕ) → length (advance e step operations) ≤ 1
length-advance e step operations = by (nat_le operations (room e step)) (is_const e step operations)
  where
    by : (b c : Bool) → length (cond b [] (cond c (ConstAddPc ∷ []) (AdvancePc operations ∷ []))) ≤ 1
    by true c = omega arith
    by false true = omega arith
    by false false = omega arith

length-flags : (row : LineRow) → length (flags row) ≤ 4
unfolding flags
length-flags row = four (not (row.discriminator == 0)) row.basic_block row.prologue_end row.epilogue_begin
    (SetDiscriminator row.discriminator) SetBasicBlock SetPrologueEnd SetEpilogueBegin

length-changes : (version : ℕ) (previous row : LineRow) → length (changes version previous row) ≤ 4
unfolding changes
length-changes version previous row =
    four (not (beq row.is_statement previous.is_statement))
    (not (raw_file version row.file.0 == raw_file version previous.file.0)) (not (row.column == previous.column))
    (not (row.isa == previous.isa))
    NegateStatement (SetFile (raw_file version row.file.0)) (SetColumn row.column) (SetIsa row.isa)

length-moves : (e : LineEncoding) (lines : ℤ) (operations : ℕ) → length (moves e lines operations) ≤ 3
unfolding moves
length-moves e lines operations =
    sum (length (when (not (is_special e lines)) (AdvanceLine lines)))
    (length (advance e (line_step e lines) operations)) _ _
    (length-when (not (is_special e lines)) (AdvanceLine lines)) (length-advance e (line_step e lines) operations)
    (length-append (when (not (is_special e lines)) (AdvanceLine lines)) (advance e (line_step e lines) operations
    ++ last ∷ [])) (length-append (advance e (line_step e lines) operations) (last ∷ []))
  where
    last : LineInstruction
    last = Special (13 + line_step e lines + e.line_range * opcode_operations e (line_step e lines) operations)

    sum : (p q x y : ℕ) → p ≤ 1 → q ≤ 1 → x ≡ p + y → y ≡ q + 1 → x ≤ 3
    sum p q x y e f u v = omega arith

pub length-row_piece : (rules : LineRules) (previous row : LineRow) → length (row_piece rules previous row) ≤ 11
unfolding row_piece
length-row_piece rules previous row =
    sum (length (flags row)) (length (changes rules.encoding.version previous row))
    (length (moves rules.line_encoding (pos row.line -ℤ pos previous.line)
    (operations_between rules previous row.address_offset row.op_index))) _ _
    (length-flags row) (length-changes rules.encoding.version previous row)
    (length-moves rules.line_encoding (pos row.line -ℤ pos previous.line)
    (operations_between rules previous row.address_offset row.op_index))
    (length-append (flags row) (changes rules.encoding.version previous row
    ++ moves rules.line_encoding (pos row.line -ℤ pos previous.line)
    (operations_between rules previous row.address_offset row.op_index)))
    (length-append (changes rules.encoding.version previous row)
    (moves rules.line_encoding (pos row.line -ℤ pos previous.line)
    (operations_between rules previous row.address_offset row.op_index)))
  where
    sum : (p q r x y : ℕ) → p ≤ 4 → q ≤ 4 → r ≤ 3 → x ≡ p + y → y ≡ q + r → x ≤ 11
    sum p q r x y e f g u v = omega arith

-- where nothing else is recorded and one opcode can encode the moves, there is that opcode alone
pub row_piece-one : (rules : LineRules) (previous row : LineRow) → flags row ≡ []
    → changes rules.encoding.version previous row ≡ []
    → is_special rules.line_encoding (pos row.line -ℤ pos previous.line) ≡ true
    → nat_le (operations_between rules previous row.address_offset row.op_index)
    (room rules.line_encoding (line_step rules.line_encoding (pos row.line -ℤ pos previous.line))) ≡ true
    → length (row_piece rules previous row) ≡ 1
unfolding row_piece moves
row_piece-one rules previous row f c s r =
    ap (λ l. length (l ++ (changes rules.encoding.version previous row
    ++ moves rules.line_encoding (pos row.line -ℤ pos previous.line)
    (operations_between rules previous row.address_offset row.op_index)))) f
    ∙ ap (λ l. length (l ++ moves rules.line_encoding (pos row.line -ℤ pos previous.line)
    (operations_between rules previous row.address_offset row.op_index))) c
    ∙ ap (λ b. length (when (not b) (AdvanceLine (pos row.line -ℤ pos previous.line))
    ++ (advance rules.line_encoding (line_step rules.line_encoding (pos row.line -ℤ pos previous.line))
    (operations_between rules previous row.address_offset row.op_index)
    ++ Special (13 + line_step rules.line_encoding (pos row.line -ℤ pos previous.line)
    + rules.line_encoding.line_range * opcode_operations rules.line_encoding
    (line_step rules.line_encoding (pos row.line -ℤ pos previous.line))
    (operations_between rules previous row.address_offset row.op_index)) ∷ []))) s
    ∙ ap
    (λ b.
    length (cond b [] (cond (is_const rules.line_encoding
    (line_step rules.line_encoding (pos row.line -ℤ pos previous.line))
    (operations_between rules previous row.address_offset row.op_index)) (ConstAddPc ∷ [])
    (AdvancePc (operations_between rules previous row.address_offset row.op_index) ∷ []))
    ++ Special (13 + line_step rules.line_encoding (pos row.line -ℤ pos previous.line)
    + rules.line_encoding.line_range * opcode_operations rules.line_encoding
    (line_step rules.line_encoding (pos row.line -ℤ pos previous.line))
    (operations_between rules previous row.address_offset row.op_index)) ∷ [])) r
