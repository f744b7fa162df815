use Rattle.linemap_emit_rows.specs.TableViews.{file_part}
use Rattle.linemap_emit_programs.proofs.AddedFiles.{file_added, place_added}
use Rattle.linemap_emit_programs.proofs.unit_programs.add_file.Goals as goal

pub returns-clause-program : goal.returns-clause-program
returns-clause-program c =
    let directory = c.in_ok-directory in
    file_added (file_part c.args.file.now) c.deref.result.now c.deref-2.result.now c.args.program.now
    c.add_directory.new.program c.add_name.new.program c.args.line_strings.now c.add_directory.new.line_strings
    directory.directory.0 c.deref.ensures c.deref-2.ensures directory.ensures.program directory.ensures.texts
    directory.ensures.number c.in_ok-id.ensures.program

pub returns-clause-id : goal.returns-clause-id
returns-clause-id c =
    let directory = c.in_ok-directory in
    place_added (file_part c.args.file.now) c.deref.result.now c.deref-2.result.now c.args.program.now
    c.add_directory.new.program c.add_name.new.program c.args.line_strings.now c.add_directory.new.line_strings
    directory.directory.0 c.deref.ensures c.deref-2.ensures directory.ensures.program directory.ensures.texts
    directory.ensures.number c.in_ok-id.id.0 c.in_ok-id.ensures.place
