use Rattle.std.proofs.Common.{arith}
use Rattle.gimli_core_abbrev.proofs.ShortAttributes.{first_code}
use Rattle.gimli_core_abbrev.proofs.abbreviation.parse_code.Goals as goal

pub returns-in-len1-up : goal.returns-in-len1-up
returns-in-len1-up g c =
    rw (c.advance.ensures)
    (first_code _ c.as_bytes.result.now c.from-code.result _ c.as_bytes.ensures.value c.in-len1-up.len_at_least
    c.from-code.ensures (omega (arith, c.if-code-lt128.true, c.from-code.ensures)))
