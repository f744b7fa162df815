use Rattle.std.proofs.Common.{rules, ap, sym, ◌∙◌, w32}
use mir.Val.{to_z, of_z}
use Rattle.std.proofs.lemmas.Int.{to_z-of_z}
use Rattle.addr2line_c.specs.Numbers.{some_number}
use Rattle.addr2line_c.specs.RefusalTexts.{texts_of}
use Rattle.addr2line_c.specs.declared.numbers.TheConstants.{NOT_FOUND}
use Rattle.addr2line_c.proofs.NumberTexts.{both_texts}
use Rattle.addr2line_c.proofs.refusals.a2l_error_text.Goals as goal

pub returns-in-Ok-clause-number : goal.returns-in-Ok-clause-number
returns-in-Ok-clause-number c =
    let same = both_texts (to_z w32 (of_z w32 c.args.number)) c.in-Ok.number _ _ c.in-Ok.ensures c.code_text.ensures
    c.sentence_text.ensures ∙ ap texts_of (to_z-of_z w32 c.args.number (search rules)) in
    to_z-of_z w32 c.write_texts.result (search rules) ∙ c.write_texts.ensures.number
    ∙ ap (λ texts. some_number texts NOT_FOUND) same

pub returns-in-Ok-clause-texts : goal.returns-in-Ok-clause-texts
returns-in-Ok-clause-texts c = λ ok.
    let same = both_texts (to_z w32 (of_z w32 c.args.number)) c.in-Ok.number _ _ c.in-Ok.ensures c.code_text.ensures
    c.sentence_text.ensures ∙ ap texts_of (to_z-of_z w32 c.args.number (search rules)) in
    sym same ∙ c.write_texts.ensures.texts (sym (to_z-of_z w32 c.write_texts.result (search rules)) ∙ ok)
