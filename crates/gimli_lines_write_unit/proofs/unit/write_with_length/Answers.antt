use Rattle.std.proofs.Common.{◌≡◌, ◌++◌, ◌-◌, length, replicate, ap, subst, ◌∙◌, Err}
use Rattle.std.proofs.lemmas.Result.{err_from_is_err_and}
use Rattle.gimli_lines_write_tables.specs.FormatSizes.{word_size}
use Rattle.gimli_lines_write_tables.specs.NumberBytes.{escape}
use Rattle.gimli_lines_write_tables.specs.OutputBytes.{append}
use Rattle.gimli_lines_write_tables.specs.LineRules.{LineRules}
use Rattle.gimli_lines_write_tables.specs.EntryBytes.{Continues}
use Rattle.gimli_lines_write_unit.specs.UnitBytes.{body_with_header, with_length}
use Rattle.gimli_lines_write_unit.proofs.LengthPatches.{refused_first, length_patch}
use Rattle.gimli_lines_write_unit.proofs.unit.write_with_length.Goals as goal

pub returns-in_err-place : goal.returns-in_err-place
returns-in_err-place g c =
    let p = err_from_is_err_and c.from_residual.result c.from_residual.ensures.1 in
    refused_first c.from_residual.result c.in_err-place.field-0.0 (g.W.Writer.contents c.args.w.now)
    (g.W.Writer.contents c.write_initial_length.new.self)
    (append (escape c.rules.result.encoding.format ++ replicate (word_size c.rules.result.encoding.format) 0)
    (g.W.Writer.contents c.args.w.now)) _ (p.1 ∙ ap Err p.2) c.in_err-place.ensures.value

pub returns : goal.returns
returns g c =
    let begun : append (escape c.rules.result.encoding.format ++ replicate (word_size c.rules.result.encoding.format) 0)
    (g.W.Writer.contents c.args.w.now) ≡ g.W.Writer.contents c.write_initial_length.new.self =
    cc (c.in_ok-place.ensures.value) in
    let count : c.len.result - c.len-start.result ≡ length (g.W.Writer.contents c.write_body.new.w).bytes
    - length (g.W.Writer.contents c.write_initial_length.new.self).bytes =
    ap (λ n. n - c.len-start.result) c.len.ensures.value
    ∙ ap (λ n. length (g.W.Writer.contents c.write_body.new.w).bytes - n) c.len-start.ensures.value in
    subst (λ (r : LineRules). Continues c.write_initial_length_at.result (g.W.Writer.contents c.args.w.now)
    (g.W.Writer.contents c.write_initial_length_at.new.self)
    (with_length (g.W.Writer.contents c.args.w.now).is_big r.encoding.format
    (body_with_header g.W.Writer.address_of (g.W.Writer.contents c.args.w.now).is_big c.args.rows.now.rules
    c.args.header.now c.args.rows.now.entries))) c.rules.ensures.value
    (length_patch c.write_initial_length_at.result (g.W.Writer.contents c.args.w.now)
    (g.W.Writer.contents c.write_initial_length.new.self) (g.W.Writer.contents c.write_body.new.w)
    (g.W.Writer.contents c.write_initial_length_at.new.self)
    c.rules.result.encoding.format (λ b. body_with_header g.W.Writer.address_of b c.args.rows.now.rules
    c.args.header.now c.args.rows.now.entries) c.in_ok-place.place.0 (c.len.result - c.len-start.result)
    begun c.in_ok-place.ensures.place c.in_ok-write_body.ensures count c.write_initial_length_at.ensures)
