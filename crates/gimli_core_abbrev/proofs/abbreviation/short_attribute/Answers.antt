use Rattle.std.proofs.Common.{get_or, refl}
use Rattle.gimli_core_abbrev.proofs.ShortAttributes.{short_none}
use Rattle.gimli_core_abbrev.proofs.abbreviation.short_attribute.Goals as goal

pub returns-then-form-eq0 : goal.returns-then-form-eq0
returns-then-form-eq0 c =
    short_none c.args.bytes.now 0 0 (get_or c.args.bytes.now 0 0) (get_or c.args.bytes.now 1 0)
    c.in-len2-up.len_at_least refl refl c.if-name-eq0.true c.if-form-eq0.true
