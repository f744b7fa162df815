use Rattle.gimli_core_base.proofs.LebStringLaws.{unsigned_ignores_rest}
use Rattle.gimli_core_base.proofs.number_laws.unsigned_ignores_rest.Goals as goal

pub returns : goal.returns
returns c = unsigned_ignores_rest
