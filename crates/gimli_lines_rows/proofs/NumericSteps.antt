-- Instructions whose operands are numbers: how many bytes one takes that was read on borrowed bytes.
use Rattle.std.proofs.Common.{◌≡◌, ℕ, ◌-◌, ◌≤◌, List, Result, Ok, ap, ◌∙◌, arith, length-drop}
use Rattle.gimli_lines_machine.specs.Error.{Error}
use Rattle.gimli_lines_machine.specs.View.{View, after, bytes_left}
use Rattle.gimli_lines_machine.specs.declared.rules.LineRules.{LineRules}
use Rattle.gimli_lines_machine.specs.Decoding.{instruction_with}
use Rattle.gimli_lines_machine.specs.LineInstructions.{InstructionOf}
use Rattle.gimli_lines_machine.proofs.CutInstructions.{cut-instruction}
use Rattle.gimli_lines_header.specs.LineFiles.{FileFacts, file_in}

-- no more are left than before
pub took_fits : (limit : ℕ) (rules : LineRules) (counts : List ℕ) (v w : View) (i : InstructionOf FileFacts)
    → instruction_with file_in limit rules counts v ≡ Ok (i, w) → bytes_left w ≤ bytes_left v
took_fits limit rules counts v w i e =
    let k = (cut-instruction file_in limit rules counts).each v w i e in
    let left : bytes_left w ≡ bytes_left v - k.count = ap bytes_left k.rest ∙ length-drop k.count v.bytes in
    omega arith

abbrev instruction_result : InstructionOf FileFacts → View → Result (InstructionOf FileFacts × View) Error
instruction_result i w = Ok (i, w)

-- those that are no longer left were taken
pub took_length : (limit : ℕ) (rules : LineRules) (counts : List ℕ) (v w : View) (i : InstructionOf FileFacts)
    → instruction_with file_in limit rules counts v ≡ Ok (i, w)
    → instruction_with file_in limit rules counts v ≡ Ok (i, after (bytes_left v - bytes_left w) v)
took_length limit rules counts v w i e =
    let k = (cut-instruction file_in limit rules counts).each v w i e in
    let fits : k.count ≤ bytes_left v = k.fits in
    let left : bytes_left w ≡ bytes_left v - k.count = ap bytes_left k.rest ∙ length-drop k.count v.bytes in
    let same : k.count ≡ bytes_left v - bytes_left w = omega arith in
    e ∙ ap (instruction_result i) (k.rest ∙ ap (λ (n : ℕ). after n v) same)

pub ruleset bytes_taken = (took_fits, took_length)
