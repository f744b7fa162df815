use Rattle.std.proofs.Common.{drop, map}
use Rattle.gimli_lines_write_tables.specs.FileTables.{text_of}
use Rattle.gimli_lines_write_spec.specs.HeaderTexts.{spelled_text}
use Rattle.gimli_lines_write_unit.specs.HeaderContents.{header_text}
use Rattle.gimli_lines_write_unit.specs.HeaderBytes.{all_or_refusal, text_refusals}
use Rattle.gimli_lines_write_unit.proofs.WrittenLists.{Left}
use Rattle.gimli_lines_write_unit.proofs.texts.write_texts.Given as goal

abbrev pub invariant-loop-text : goal.invariant-loop-text
invariant-loop-text g l =
    Left (text_refusals l.encoding l.form.0) (λ b. spelled_text b l.encoding.format) (g.W.Writer.contents l.initial.w)
    (g.W.Writer.contents l.w)
    (all_or_refusal (text_refusals l.encoding l.form.0)
    (spelled_text (g.W.Writer.contents l.initial.w).is_big l.encoding.format)
    (map (λ t. header_text l.strings l.line_strings (text_of t)) l.texts))
    (map (λ t. header_text l.strings l.line_strings (text_of t)) (drop l.text-index l.texts))
