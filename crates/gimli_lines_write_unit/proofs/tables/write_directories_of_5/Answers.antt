use Rattle.std.proofs.Common.{Bool, ℕ, List, [], ◌++◌, length, map, sym, subst}
use Rattle.std.specs.Prelude.{flat_map}
use Rattle.std.proofs.lemmas.List.{length-map}
use Rattle.gimli_lines_write_tables.specs.Spelling.{unsigned_string}
use Rattle.gimli_lines_write_tables.specs.EntryBytes.{Continues}
use Rattle.gimli_lines_write_tables.specs.declared.line_string.LineString.{LineString}
use Rattle.gimli_lines_write_tables.specs.FileTables.{text_of}
use Rattle.gimli_lines_write_spec.specs.HeaderTexts.{Text, spelled_text}
use Rattle.gimli_lines_write_spec.specs.EntryFields.{directory_formats, spelled_formats}
use Rattle.gimli_lines_write_unit.specs.HeaderContents.{header_text}
use Rattle.gimli_lines_write_unit.specs.HeaderBytes.{bytes_or_refusal, text_refusals}
use Rattle.gimli_lines_write_unit.proofs.WrittenLists.{then_continues}
use Rattle.gimli_lines_write_unit.proofs.tables.write_directories_of_5.Goals as goal

pub returns : goal.returns
returns g c =
    let see : LineString → Text = λ t. header_text c.args.strings.now c.args.line_strings.now (text_of t) in
    let ds = map see c.args.directories.now in
    let form = c.first_form-form.result.0 in
    let formats : ℕ → List ℕ = λ n. spelled_formats (directory_formats n) in
    let texts : Bool → List ℕ = λ b. flat_map (spelled_text b c.args.encoding.format) ds in
    let old = g.W.Writer.contents c.args.w.now in
    let new = g.W.Writer.contents c.write_texts.new.w in
    subst (λ n. Continues c.write_texts.result old new (bytes_or_refusal (flat_map (text_refusals c.args.encoding n) ds)
    (formats n ++ (unsigned_string (length ds) ++ texts old.is_big))))
    (c.first_form-form.ensures c.args.strings.now c.args.line_strings.now)
    (subst (λ k. Continues c.write_texts.result old new
    (bytes_or_refusal (flat_map (text_refusals c.args.encoding form) ds)
    (formats form ++ (unsigned_string k ++ texts old.is_big))))
    (sym (length-map c.args.directories.now see))
    (then_continues c.write_texts.result old (g.W.Writer.contents c.write_formats.new.w) new []
    (flat_map (text_refusals c.args.encoding form) ds) (λ b. formats form)
    (λ b. unsigned_string (length c.args.directories.now) ++ texts b) c.in_ok-write_formats.ensures
    (then_continues c.write_texts.result (g.W.Writer.contents c.write_formats.new.w)
    (g.W.Writer.contents c.write_uleb128.new.self) new [] (flat_map (text_refusals c.args.encoding form) ds)
    (λ b. unsigned_string (length c.args.directories.now)) texts c.in_ok-write_uleb128.ensures
    c.write_texts.ensures)))
