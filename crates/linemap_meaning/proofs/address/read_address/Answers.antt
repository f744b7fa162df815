use Rattle.std.proofs.Common.{ap, ◌∙◌}
use Rattle.linemap_meaning.specs.AnswerTexts.{hexadecimal_number}
use Rattle.std.specs.Str.Parse.{without_leading_plus}
use Rattle.linemap_meaning.proofs.Hexadecimal.{parse_is_number}
use Rattle.linemap_meaning.proofs.address.read_address.Goals as goal

pub returns : goal.returns
returns c =
    c.ok.ensures.value ∙ parse_is_number c.after_0x.result.now c.from_str_radix.result c.from_str_radix.ensures.value
    ∙ ap (λ bs. hexadecimal_number (without_leading_plus bs)) c.after_0x.ensures
