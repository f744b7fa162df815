use Rattle.std.specs.Prelude.{All}
use Rattle.std.proofs.Common.{◌≡◌, Ok, Err, sym, ap, subst, ◌∙◌}
use Rattle.std.proofs.lemmas.Result.{err_from_is_err_and}
use Rattle.gimli_lines_write_laws.specs.EntryBytes.{Continues}
use Rattle.gimli_lines_write_laws.specs.HeaderContents.{header_tables}
use Rattle.gimli_lines_write_laws.specs.UnitBytes.{unit_bytes}
use Rattle.gimli_lines_write_laws.specs.StringSections.{IsText}
use Rattle.gimli_lines_write_laws.specs.OutputBytes.{append_result}
use Rattle.gimli_lines_write_program.proofs.WrittenUnit.{written_reads_back, written_is_expressible, refused_for_numbers}
use Rattle.gimli_lines_write_program.specs.BuiltPrograms.{Program, program_bytes, strings_with, line_strings_with, WritesIfExpressible}
use Rattle.gimli_lines_write_program.proofs.program.LineProgram.write.Goals as goal

pub returns-in_err-write_unit-clause-bytes : goal.returns-in_err-write_unit-clause-bytes
returns-in_err-write_unit-clause-bytes g c =
    let p = err_from_is_err_and c.from_residual.result c.from_residual.ensures.1 in
    subst (λ r. Continues r (g.W.Writer.contents c.args.w.now) (g.W.Writer.contents c.write_unit.new.w)
    (unit_bytes g.W.Writer.address_of (g.W.Writer.contents c.args.w.now).is_big c.args.self.now.rows.rules
    (header_tables c.args.strings.now c.args.line_strings.now c.args.self.now.tables c.args.self.now.details)
    c.args.self.now.rows.entries))
    (sym (p.1 ∙ ap Err p.2))
    (subst (λ (p : Program). Continues {A = Unit {0}} (Err c.in_err-write_unit.field-0.0)
    (g.W.Writer.contents c.args.w.now) (g.W.Writer.contents c.write_unit.new.w)
    (unit_bytes g.W.Writer.address_of (g.W.Writer.contents c.args.w.now).is_big p.rows.rules
    (header_tables c.args.strings.now c.args.line_strings.now p.tables p.details) p.rows.entries)) c.self.view_is
    c.in_err-write_unit.ensures.bytes)

pub returns-clause-bytes : goal.returns-clause-bytes
returns-clause-bytes g c = rw (← c.self.view_is) c.in_ok-write_unit.ensures.bytes

pub returns-clause-reads_back : goal.returns-clause-reads_back
returns-clause-reads_back g c =
    let old = g.W.Writer.contents c.args.w.now in
    let new = g.W.Writer.contents c.write_unit.new.w in
    let wrote : append_result (program_bytes g.W.Writer.address_of old.is_big c.args.strings.now c.args.line_strings.now
    c.args.self.now) old ≡ Ok new = rw (← c.self.view_is) c.in_ok-write_unit.ensures.bytes in
    let strings : c.write_unit.new.strings ≡ strings_with c.args.strings.now c.args.self.now =
    rw (← c.self.view_is) c.in_ok-write_unit.ensures.strings in
    let line_strings : c.write_unit.new.line_strings ≡ line_strings_with c.args.line_strings.now c.args.self.now =
    rw (← c.self.view_is) c.in_ok-write_unit.ensures.line_strings in
    rw (strings, line_strings)
    (written_reads_back g.W.Writer.address_of g.met.W.Writer.constants c.args.strings.now c.args.line_strings.now
    c.args.self.now old new c.is_built.ensures c.requires.known
    (subst (All IsText) strings c.count-strings.ensures.texts)
    (subst (All IsText) line_strings c.count-line_strings.ensures.texts) wrote)

pub returns-clause-expressible : goal.returns-clause-expressible
returns-clause-expressible g c =
    let old = g.W.Writer.contents c.args.w.now in
    let new = g.W.Writer.contents c.write_unit.new.w in
    let wrote : append_result (program_bytes g.W.Writer.address_of old.is_big c.args.strings.now c.args.line_strings.now
    c.args.self.now) old ≡ Ok new = rw (← c.self.view_is) c.in_ok-write_unit.ensures.bytes in
    written_is_expressible g.W.Writer.address_of c.args.strings.now c.args.line_strings.now c.args.self.now old new
    c.is_built.ensures wrote

pub returns-in_err-write_unit-clause-expressible : goal.returns-in_err-write_unit-clause-expressible
returns-in_err-write_unit-clause-expressible g c =
    let p = err_from_is_err_and c.from_residual.result c.from_residual.ensures.1 in
    let old = g.W.Writer.contents c.args.w.now in
    let wrote : Continues {A = Unit {0}} (Err c.in_err-write_unit.field-0.0) old
    (g.W.Writer.contents c.write_unit.new.w)
    (program_bytes g.W.Writer.address_of old.is_big c.args.strings.now c.args.line_strings.now c.args.self.now) =
    rw (← c.self.view_is) c.in_err-write_unit.ensures.bytes in
    subst (λ r. WritesIfExpressible g.W.Writer.address_of old.is_big c.args.self.now r) (sym (p.1 ∙ ap Err p.2))
    (λ can known. refused_for_numbers g.W.Writer.address_of old.is_big c.args.strings.now c.args.line_strings.now
    c.args.self.now c.is_built.ensures can c.in_err-write_unit.field-0.0 (wrote.0 known))
