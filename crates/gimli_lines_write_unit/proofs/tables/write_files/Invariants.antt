use Rattle.std.proofs.Common.{drop, map}
use Rattle.gimli_lines_write_tables.specs.FileTables.{text_of, file_of, info_of}
use Rattle.gimli_lines_write_spec.specs.EntryFields.{spelled_file}
use Rattle.gimli_lines_write_unit.specs.HeaderContents.{header_files, details_of}
use Rattle.gimli_lines_write_unit.specs.HeaderBytes.{all_or_refusal, file_refusals}
use Rattle.gimli_lines_write_unit.proofs.WrittenLists.{Left}
use Rattle.gimli_lines_write_unit.proofs.tables.write_files.Given as goal

abbrev pub invariant-loop-place : goal.invariant-loop-place
invariant-loop-place g l =
    Left (file_refusals l.encoding l.details.has_source l.forms.path.0 l.forms.source.0)
    (λ b. spelled_file b l.encoding.format (details_of l.details)) (g.W.Writer.contents l.initial.w)
    (g.W.Writer.contents l.w)
    (all_or_refusal (file_refusals l.encoding l.details.has_source l.forms.path.0 l.forms.source.0)
    (spelled_file (g.W.Writer.contents l.initial.w).is_big l.encoding.format (details_of l.details))
    (header_files l.strings l.line_strings l.details.has_source (text_of l.empty) (map file_of l.files)
    (map info_of l.infos)))
    (header_files l.strings l.line_strings l.details.has_source (text_of l.empty) (map file_of (drop l.place l.files))
    (map info_of (drop l.place l.infos)))
