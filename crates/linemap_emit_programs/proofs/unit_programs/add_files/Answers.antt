use Rattle.std.proofs.Common.{map}
use Rattle.linemap_emit_rows.specs.TableViews.{file_part}
use Rattle.linemap_emit_programs.specs.EmittedFiles.{with_table_files, table_file_ids}
use Rattle.linemap_emit_programs.specs.ProgramFilesSoFar.{files_of}
use Rattle.linemap_emit_programs.proofs.AddedFiles.{next_left}
use Rattle.linemap_emit_programs.proofs.unit_programs.add_files.Goals as goal

pub loop-file-preserved : goal.loop-file-preserved
loop-file-preserved c =
    let fs = c.args.files.now in
    let first = c.args.program.now in
    let st = files_of first c.args.line_strings.now in
    let added = c.in_ok-id in
    next_left file_part fs c.loop-file.file-index c.file-item.result c.loop-file.program c.add_file.new.program first
    c.loop-file.line_strings c.add_file.new.line_strings c.loop-file.ids.items c.push.new.self.items added.id
    (with_table_files (map file_part fs) st) (table_file_ids (map file_part fs) st) c.loop-file-test.true c.file-item.is
    c.loop-file.invariant added.ensures.program added.ensures.texts added.ensures.id c.in_ok-push.ensures.items
