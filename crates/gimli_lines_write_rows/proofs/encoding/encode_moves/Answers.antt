use Rattle.std.proofs.Common.{◌≡◌, ◌++◌, not, subst}
use mir.Syntax.{w64}
use mir.Val.{SFits, to_z, of_z}
use Rattle.std.proofs.lemmas.Int.{to_z-of_z}
use Rattle.gimli_lines_write_rows.specs.declared.instruction.LineInstruction.TheVariants.{AdvanceLine}
use Rattle.gimli_lines_write_rows.specs.RowPieces.{when, is_special, line_step}
use Rattle.gimli_lines_write_rows.specs.LineInstructionBytes.{instructions_bytes}
use Rattle.std.proofs.lemmas.Result.{IfOk-equal}
use Rattle.gimli_lines_write_rows.proofs.MoveBytes.{moves_bytes}
use Rattle.gimli_lines_write_rows.proofs.encoding.encode_moves.Goals as goal

pub returns-clause-ok : goal.returns-clause-ok
returns-clause-ok c =
    let fits : SFits w64 c.args.lines = c.ranges.lines in
    let same : to_z w64 (of_z w64 c.args.lines) ≡ c.args.lines = to_z-of_z w64 c.args.lines fits in
    let front = subst (λ z. c.encode_if.new.out.items ≡ c.args.out.now.items
    ++ instructions_bytes (when (not c.special_moves-special.result) (AdvanceLine z))) same
    c.in_ok-encode_if.ensures.ok in
    let is = subst (λ z. c.special_moves-special.result ≡ is_special c.args.rules.line_encoding z) same
    c.special_moves-special.ensures in
    let step = subst (λ z. c.step_of-step.result ≡ line_step c.args.rules.line_encoding z) same
    c.step_of-step.ensures.value in
    IfOk-equal c.encode.result _ _ _ c.encode.ensures.ok
    (moves_bytes c.args.out.now.items c.encode_if.new.out.items c.encode_advance.new.out.items
    c.args.rules.line_encoding c.args.lines c.args.operations c.step_of-step.result c.in_ok-left.left
    c.opcode_of-opcode.result c.special_moves-special.result
    front is c.in_ok-left.ensures.ok step c.in_ok-left.ensures.left c.opcode_of-opcode.ensures)
