use Rattle.std.proofs.Common.{◌≡◌, ◌≢◌, ℕ, List, [], Ok, Err, subst}
use Rattle.std.proofs.lemmas.Result.{err_from_is_err_and}
use Rattle.linemap_emit_rows.specs.NumberBytes.{constant_of}
use Rattle.linemap_emit_rows.specs.OutputBytes.{append_result}
use Rattle.linemap_emit_rows.specs.WriteError.TheVariants.{Memory}
use Rattle.gimli_lines_write_program.specs.BuiltPrograms.{program_bytes}
use Rattle.linemap_emit_programs.proofs.WrittenPrograms.{written_ok, written_err}
use Rattle.linemap_emit_programs.proofs.unit_programs.write_program.Goals as goal

pub returns-in_err-write-clause-bytes : goal.returns-in_err-write-clause-bytes
returns-in_err-write-clause-bytes c =
    let w = c.args.w.now in
    let texts = c.args.line_strings.now in
    let p = c.args.program.now in
    let e = c.in_err-write.field-0 in
    let exit = err_from_is_err_and c.from_residual.result c.from_residual.ensures.1 in
    let refused = written_err (program_bytes constant_of w.is_big [] texts p) e.0 c.requires.spelled
    (subst (λ (s : List (List ℕ)). e.0 ≢ Memory → program_bytes constant_of w.is_big s texts p ≡ Err e.0)
    c.new-strings.ensures c.in_err-write.ensures.bytes.0) in
    rw (exit.1, exit.2) refused

pub returns-clause-bytes : goal.returns-clause-bytes
returns-clause-bytes c =
    let w = c.args.w.now in
    let texts = c.args.line_strings.now in
    let p = c.args.program.now in
    written_ok (program_bytes constant_of w.is_big [] texts p) w c.write.new.w c.requires.spelled
    (subst (λ (s : List (List ℕ)). append_result (program_bytes constant_of w.is_big s texts p) w ≡ Ok c.write.new.w)
    c.new-strings.ensures c.in_ok-write.ensures.bytes)
