-- The bytes of a row's moves, put one after the other.
use Rattle.std.proofs.Common.{◌≡◌, ℕ, ℤ, ◌+◌, ◌*◌, not, Bool, List, [], ◌∷◌, ◌++◌, sym, ap, ◌∙◌, append_assoc}
use Rattle.std.proofs.lemmas.List.Concat.{flat_map-append}
use Rattle.gimli_lines_write_bytes.specs.LineEncoding.{LineEncoding}
use Rattle.gimli_lines_write_rows.specs.declared.instruction.LineInstruction.TheVariants.{AdvanceLine, Special}
use Rattle.gimli_lines_write_rows.specs.RowPieces.{when, is_special, line_step, advance, opcode_operations, moves}
use Rattle.gimli_lines_write_rows.specs.LineInstructionBytes.{instruction_bytes, instructions_bytes}

pub moves_bytes : (o first second : List ℕ) (e : LineEncoding) (lines : ℤ) (operations step left opcode : ℕ) (is : Bool)
    → first ≡ o ++ instructions_bytes (when (not is) (AdvanceLine lines)) → is ≡ is_special e lines
    → second ≡ first ++ instructions_bytes (advance e step operations) → step ≡ line_step e lines
    → left ≡ opcode_operations e step operations → opcode ≡ 13 + step + e.line_range * left
    → second ++ instruction_bytes (Special opcode) ≡ o ++ instructions_bytes (moves e lines operations)
unfolding moves
moves_bytes o first second e lines operations step left opcode is h1 s h2 d l p =
    ap (λ x. second ++ x ∷ []) (p ∙ ap (λ x. 13 + step + e.line_range * x) l
    ∙ ap (λ x. 13 + x + e.line_range * opcode_operations e x operations) d)
    ∙ ap (λ x. x ++ last ∷ []) (h2 ∙ ap (λ x. first ++ instructions_bytes (advance e x operations)) d
    ∙ ap (λ x. x ++ middle) (h1 ∙ ap (λ b. o ++ instructions_bytes (when (not b) (AdvanceLine lines))) s))
    ∙ append_assoc (o ++ front) middle (last ∷ []) ∙ append_assoc o front (middle ++ last ∷ [])
    ∙ ap (λ x. o ++ x) (sym (flat_map-append instruction_bytes (when (not (is_special e lines)) (AdvanceLine lines))
    (advance e (line_step e lines) operations ++ Special last ∷ [])
    ∙ ap (λ x. front ++ x) (flat_map-append instruction_bytes (advance e (line_step e lines) operations)
    (Special last ∷ []))))
  where
    last : ℕ
    last = 13 + line_step e lines + e.line_range * opcode_operations e (line_step e lines) operations

    front : List ℕ
    front = instructions_bytes (when (not (is_special e lines)) (AdvanceLine lines))

    middle : List ℕ
    middle = instructions_bytes (advance e (line_step e lines) operations)
