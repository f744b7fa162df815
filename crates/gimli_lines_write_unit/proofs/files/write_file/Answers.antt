use Rattle.std.proofs.Common.{Bool, List, ℕ, [], ◌++◌, subst}
use Rattle.std.specs.Prelude.{if◌then◌else◌}
use Rattle.gimli_lines_write_tables.specs.WriteError.{Error}
use Rattle.gimli_lines_write_tables.specs.EntryBytes.{Continues}
use Rattle.gimli_lines_write_tables.specs.FileTables.{text_of, file_of, info_of}
use Rattle.gimli_lines_write_spec.specs.HeaderTexts.{spelled_text}
use Rattle.gimli_lines_write_unit.specs.HeaderContents.{header_file, details_of}
use Rattle.gimli_lines_write_unit.specs.HeaderBytes.{bytes_or_refusal, text_refusals, details_bytes}
use Rattle.gimli_lines_write_unit.proofs.WrittenLists.{then_continues, refused_already, refused_later}
use Rattle.gimli_lines_write_unit.proofs.FileLists.{file_is}
use Rattle.gimli_lines_write_unit.proofs.files.write_file.Goals as goal

pub returns : goal.returns
returns g c =
    let e = c.args.encoding in
    let d = details_of c.args.details in
    let f = header_file c.args.strings.now c.args.line_strings.now c.args.details.has_source (text_of c.args.empty.now)
    (file_of c.args.file.now) (info_of c.args.info.now) in
    let path = text_refusals e c.args.forms.path.0 f.path in
    let source : List Error = if d.has_source then text_refusals e c.args.forms.source.0 f.source else [] in
    let text : Bool → List ℕ = λ b. if d.has_source then spelled_text b e.format f.source else [] in
    let old = g.W.Writer.contents c.args.w.now in
    let new = g.W.Writer.contents c.write_source.new.w in
    subst (λ l. Continues c.write_source.result old new (bytes_or_refusal (path ++ source) l))
    (file_is old.is_big e.format d f)
    (then_continues c.write_source.result old (g.W.Writer.contents c.write_text.new.w) new path source
    (λ b. spelled_text b e.format f.path) (λ b. details_bytes d f ++ text b) c.in_ok-write_text.ensures
    (then_continues c.write_source.result (g.W.Writer.contents c.write_text.new.w)
    (g.W.Writer.contents c.write_details.new.w) new [] source (λ b. details_bytes d f) text
    c.in_ok-write_details.ensures c.write_source.ensures))

pub returns-in_err-write_text : goal.returns-in_err-write_text
returns-in_err-write_text g c =
    refused_already c.from_residual.result _ (g.W.Writer.contents c.args.w.now) (g.W.Writer.contents c.write_text.new.w)
    _ _ _ _ c.from_residual.ensures.1 c.in_err-write_text.ensures

pub returns-in_err-write_details : goal.returns-in_err-write_details
returns-in_err-write_details g c =
    refused_later c.from_residual-in_err-write_details.result _ (g.W.Writer.contents c.args.w.now)
    (g.W.Writer.contents c.write_text.new.w) (g.W.Writer.contents c.write_details.new.w) _ [] _ _ _ _
    c.in_ok-write_text.ensures c.from_residual-in_err-write_details.ensures.1 c.in_err-write_details.ensures
