-- The files that are left can be added, and what was added with them is the whole.
use Rattle.std.proofs.Common.{◌≡◌, ◌++◌, drop, map}
use Rattle.linemap_emit_rows.specs.TableViews.{file_part}
use Rattle.linemap_emit_programs.specs.EmittedFiles.{AllTableTexts, with_table_files, table_file_ids}
use Rattle.linemap_emit_programs.specs.ProgramFilesSoFar.{files_of, with_files, HasOneVersion}
use Rattle.linemap_emit_programs.proofs.unit_programs.add_files.Given as goal

abbrev pub invariant-loop-file : goal.invariant-loop-file
invariant-loop-file l =
    HasOneVersion l.program
    × AllTableTexts (map file_part (drop l.file-index l.files))
    × (with_files (with_table_files (map file_part (drop l.file-index l.files)) (files_of l.program l.line_strings))
    l.program
    ≡ with_files (with_table_files (map file_part l.files) (files_of l.fn.program l.fn.line_strings)) l.fn.program)
    × ((with_table_files (map file_part (drop l.file-index l.files)) (files_of l.program l.line_strings)).line_texts
    ≡ (with_table_files (map file_part l.files) (files_of l.fn.program l.fn.line_strings)).line_texts)
    × (l.ids.items ++ table_file_ids (map file_part (drop l.file-index l.files)) (files_of l.program l.line_strings)
    ≡ table_file_ids (map file_part l.files) (files_of l.fn.program l.fn.line_strings))
