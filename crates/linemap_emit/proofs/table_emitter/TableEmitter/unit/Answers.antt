use Rattle.std.proofs.Common.{◌^◌, ℕ, All, List, [], length, ap, subst, sym, ◌∙◌}
use Rattle.std.specs.Prelude.{IsOk}
use Rattle.linemap_table.specs.TableViews.{unit_part}
use Rattle.linemap_emit_fits.specs.FileId.{FileId}
use Rattle.linemap_emit_fits.specs.NumberBytes.{constant_of}
use Rattle.linemap_emit_fits.specs.EmittedEntries.{AllFit, attributes_of}
use Rattle.linemap_emit_fits.specs.BuiltPrograms.{Program, HasItsTexts, program_bytes}
use Rattle.linemap_emit_fits.specs.EmittedFiles.{unit_files, unit_file_ids, file_number}
use Rattle.linemap_emit_fits.specs.UnitEmission.{with_unit}
use Rattle.linemap_emit.proofs.TableEmitterLemmas.{unit_ready, state_is}
use Rattle.linemap_emit.proofs.table_emitter.TableEmitter.unit.Goals as goal

pub unit_program-requires-clause-ordered : goal.unit_program-requires-clause-ordered
unit_program-requires-clause-ordered c = (unit_ready (unit_part c.args.unit.now) c.args.self.now c.requires).ordered

pub write_info-requires-clause-files : goal.write_info-requires-clause-files
write_info-requires-clause-files c =
    ap (λ (ids : List FileId). length ids) (c.deref.ensures.value ∙ c.in_ok-built.ensures.files)
    ∙ (unit_ready (unit_part c.args.unit.now) c.args.self.now c.requires).ids

pub write_info-requires-clause-fit : goal.write_info-requires-clause-fit
write_info-requires-clause-fit c =
    let u = unit_part c.args.unit.now in
    let s = c.args.self.now in
    let e = s.encoding in
    subst (λ (ids : List FileId). All (λ x. AllFit (2 ^ 31) e (attributes_of x))
    (with_unit (file_number e.version ids) c.len-line_program.result u s.emitter).entries)
    (sym (c.deref.ensures.value ∙ c.in_ok-built.ensures.files))
    (subst (λ (n : ℕ). All (λ x. AllFit (2 ^ 31) e (attributes_of x))
    (with_unit (file_number e.version (unit_file_ids e u s.line_strings)) n u s.emitter).entries)
    (sym c.len-line_program.ensures.value) (unit_ready u s c.requires).fit)

pub write_program-requires-clause-known : goal.write_program-requires-clause-known
write_program-requires-clause-known c =
    let u = unit_part c.args.unit.now in
    let s = c.args.self.now in
    subst (λ (l : List (List ℕ)). HasItsTexts [] l c.in_ok-built.built.program) (sym c.in_ok-built.ensures.texts)
    (subst (λ (p : Program). HasItsTexts [] (unit_files s.encoding u s.line_strings).line_texts p)
    (sym c.in_ok-built.ensures.program) (unit_ready u s c.requires).known)

pub write_program-requires-clause-spelled : goal.write_program-requires-clause-spelled
write_program-requires-clause-spelled c =
    let u = unit_part c.args.unit.now in
    let s = c.args.self.now in
    subst (λ (l : List (List ℕ)). IsOk (program_bytes constant_of s.lines.is_big [] l c.in_ok-built.built.program))
    (sym c.in_ok-built.ensures.texts)
    (subst (λ (p : Program). IsOk (program_bytes constant_of s.lines.is_big []
    (unit_files s.encoding u s.line_strings).line_texts p)) (sym c.in_ok-built.ensures.program)
    (unit_ready u s c.requires).spelled)

pub returns-clause-ok : goal.returns-clause-ok
returns-clause-ok c =
    state_is (unit_part c.args.unit.now) c.args.self.now c.deref.result.now c.len-line_program.result
    c.in_ok-built.built.program c.unit_program.new.line_strings c.write_program.new.w c.write_program.new.line_strings
    c.write_info.new.w c.write_info.new.emitter (c.deref.ensures.value ∙ c.in_ok-built.ensures.files)
    c.len-line_program.ensures.value c.in_ok-built.ensures.program c.in_ok-built.ensures.texts
    c.in_ok-write_program.ensures.bytes c.in_ok-write_program.ensures.texts c.in_ok-write_info.ensures.bytes
    c.in_ok-write_info.ensures.state
