use Rattle.std.proofs.Common.{map, ap}
use Rattle.std.proofs.lemmas.List.{drop_all}
use Rattle.gimli_lines_write_tables.specs.declared.line_string.LineString.{LineString}
use Rattle.gimli_lines_write_tables.specs.FileTables.{text_of}
use Rattle.gimli_lines_write_spec.specs.HeaderTexts.{Text, spelled_text}
use Rattle.gimli_lines_write_unit.specs.HeaderContents.{header_text}
use Rattle.gimli_lines_write_unit.specs.HeaderBytes.{text_refusals}
use Rattle.gimli_lines_write_unit.proofs.WrittenLists.{all_done, one_done, one_refused, item_view}
use Rattle.gimli_lines_write_unit.proofs.texts.write_texts.Goals as goal

pub loop-text-init : goal.loop-text-init
loop-text-init g c = λ r new h. h

pub loop-text-preserved : goal.loop-text-preserved
loop-text-preserved g c =
    let see : LineString → Text = λ t. header_text c.args.strings.now c.args.line_strings.now (text_of t) in
    one_done (text_refusals c.args.encoding c.args.form.0) (λ b. spelled_text b c.args.encoding.format)
    (g.W.Writer.contents c.args.w.now) (g.W.Writer.contents c.loop-text.w) _ _ _ _ c.loop-text.invariant
    (item_view see c.args.texts.now c.loop-text.text-index c.text-item.result c.loop-text-test.true c.text-item.is)
    (g.W.Writer.contents c.write_text.new.w) c.in_ok-write_text.ensures

pub returns-in_err-write_text : goal.returns-in_err-write_text
returns-in_err-write_text g c =
    let see : LineString → Text = λ t. header_text c.args.strings.now c.args.line_strings.now (text_of t) in
    one_refused (text_refusals c.args.encoding c.args.form.0) (λ b. spelled_text b c.args.encoding.format)
    (g.W.Writer.contents c.args.w.now) (g.W.Writer.contents c.loop-text.w) _ _ _ _ c.loop-text.invariant
    (item_view see c.args.texts.now c.loop-text.text-index c.text-item.result c.loop-text-test.true c.text-item.is)
    c.from_residual.result _ (g.W.Writer.contents c.write_text.new.w) c.from_residual.ensures.1
    c.in_err-write_text.ensures

pub returns : goal.returns
returns g c =
    let see : LineString → Text = λ t. header_text c.args.strings.now c.args.line_strings.now (text_of t) in
    all_done (text_refusals c.args.encoding c.args.form.0) (λ b. spelled_text b c.args.encoding.format)
    (g.W.Writer.contents c.args.w.now) (g.W.Writer.contents c.loop-text.w) _ _ c.loop-text.invariant
    (ap (map see) (drop_all c.loop-text.text-index c.args.texts.now c.loop-text-test.false))
