use Rattle.std.proofs.Common.{drop, map, ap}
use Rattle.std.proofs.lemmas.List.{drop_all}
use Rattle.gimli_lines_write_tables.specs.FileTables.{text_of, file_of, info_of}
use Rattle.gimli_lines_write_spec.specs.EntryFields.{spelled_file}
use Rattle.gimli_lines_write_unit.specs.HeaderContents.{details_of, header_files}
use Rattle.gimli_lines_write_unit.specs.HeaderBytes.{file_refusals}
use Rattle.gimli_lines_write_unit.proofs.WrittenLists.{all_done, one_done, one_refused}
use Rattle.gimli_lines_write_unit.proofs.FileLists.{files_next}
use Rattle.gimli_lines_write_unit.proofs.tables.write_files.Goals as goal

pub loop-place-init : goal.loop-place-init
loop-place-init g c = λ r new h. h

pub loop-place-preserved : goal.loop-place-preserved
loop-place-preserved g c =
    one_done (file_refusals c.args.encoding c.args.details.has_source c.args.forms.path.0 c.args.forms.source.0)
    (λ b. spelled_file b c.args.encoding.format (details_of c.args.details))
    (g.W.Writer.contents c.args.w.now) (g.W.Writer.contents c.loop-place.w) _ _ _ _ c.loop-place.invariant
    (files_next c.args.strings.now c.args.line_strings.now c.args.details.has_source (text_of c.args.empty.now)
    c.args.files.now c.args.infos.now c.loop-place.place c.index-files-place.result c.index-infos-place.result
    c.loop-place-test.true c.requires.same_length c.index-files-place.is c.index-infos-place.is)
    (g.W.Writer.contents c.write_file.new.w) c.in_ok-write_file.ensures

pub returns-in_err-write_file : goal.returns-in_err-write_file
returns-in_err-write_file g c =
    one_refused (file_refusals c.args.encoding c.args.details.has_source c.args.forms.path.0 c.args.forms.source.0)
    (λ b. spelled_file b c.args.encoding.format (details_of c.args.details))
    (g.W.Writer.contents c.args.w.now) (g.W.Writer.contents c.loop-place.w) _ _ _ _ c.loop-place.invariant
    (files_next c.args.strings.now c.args.line_strings.now c.args.details.has_source (text_of c.args.empty.now)
    c.args.files.now c.args.infos.now c.loop-place.place c.index-files-place.result c.index-infos-place.result
    c.loop-place-test.true c.requires.same_length c.index-files-place.is c.index-infos-place.is)
    c.from_residual.result _ (g.W.Writer.contents c.write_file.new.w) c.from_residual.ensures.1
    c.in_err-write_file.ensures

pub returns : goal.returns
returns g c =
    all_done (file_refusals c.args.encoding c.args.details.has_source c.args.forms.path.0 c.args.forms.source.0)
    (λ b. spelled_file b c.args.encoding.format (details_of c.args.details))
    (g.W.Writer.contents c.args.w.now) (g.W.Writer.contents c.loop-place.w) _ _ c.loop-place.invariant
    (ap (λ fs. header_files c.args.strings.now c.args.line_strings.now c.args.details.has_source
    (text_of c.args.empty.now) (map file_of fs) (map info_of (drop c.loop-place.place c.args.infos.now)))
    (drop_all c.loop-place.place c.args.files.now c.loop-place-test.false))
