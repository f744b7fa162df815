use Rattle.std.proofs.Common.{sym, ap, subst, ◌∙◌, Ok, Err}
use Rattle.gimli_lines_rows.proofs.RefusedCalls.{returns_refused}
use Rattle.gimli_dwarf.specs.UnitFacts.{UnitInFile}
use Rattle.addr2line_root.specs.LineProgramRuns.{RunsProgram}
use Rattle.addr2line_root.proofs.LinesOfPrograms.{lines_fault, lines_textless, lines_with_texts}
use Rattle.addr2line_root.proofs.unit_lines.lines_of_program.Goals as goal

pub returns-in_err-rows : goal.returns-in_err-rows
returns-in_err-rows g c =
    let limit = sym c.unit.invariant ∙ ap (λ (u : UnitInFile). u.file.offset_limit) c.unit.view_is in
    let after = c.run_program.new.sink.builder in
    let run =
    subst
    (λ l. RunsProgram l (Err c.in_err-rows.field-0.0) c.args.header.now c.new-builder.result after)
    limit c.in_err-rows.ensures in
    returns_refused _ c.from_residual.result _ _ c.from_residual.ensures.1
    (λ ne. lines_fault c.args.unit.now c.args.header.now _ (run ne))

pub returns-in_err-files : goal.returns-in_err-files
returns-in_err-files g c =
    let limit = sym c.unit.invariant ∙ ap (λ (u : UnitInFile). u.file.offset_limit) c.unit.view_is in
    let after = c.run_program.new.sink.builder in
    let run =
    subst (λ l. RunsProgram l (Ok c.in_ok-rows.rows) c.args.header.now c.new-builder.result after)
    limit c.in_ok-rows.ensures in
    returns_refused _ c.from_residual-in_err-files.result _ _ c.from_residual-in_err-files.ensures.1
    (λ ne.
    lines_textless c.args.unit.now c.args.header.now
    c.header.result.now c.in_ok-rows.rows c.new-builder.result after _
    run c.header.ensures (c.in_err-files.ensures ne))

pub returns : goal.returns
returns g c =
    let limit = sym c.unit.invariant ∙ ap (λ (u : UnitInFile). u.file.offset_limit) c.unit.view_is in
    let after = c.run_program.new.sink.builder in
    let run =
    subst (λ l. RunsProgram l (Ok c.in_ok-rows.rows) c.args.header.now c.new-builder.result after)
    limit c.in_ok-rows.ensures in
    lines_with_texts c.args.unit.now c.args.header.now
    c.header.result.now c.in_ok-rows.rows c.new-builder.result after _ c.finish.result
    run c.header.ensures c.in_ok-files.ensures c.new-builder.ensures c.finish.ensures
