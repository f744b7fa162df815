use Rattle.gimli_lines_header.proofs.FieldValues.{text_skipped}
use Rattle.gimli_lines_header.proofs.field_values.skip_text.Goals as goal

pub returns : goal.returns
returns g c = text_skipped _ c.into_u64.result (g.I.Reader.view c.args.input.now) _ _ c.into_u64.ensures.value
    c.in_ok-length.ensures c.in_ok-skip.ensures c.advance.ensures
