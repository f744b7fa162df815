use Rattle.gimli_core_base.proofs.LebStringLaws.{signed_ignores_rest}
use Rattle.gimli_core_base.proofs.number_laws.signed_ignores_rest.Goals as goal

pub returns : goal.returns
returns c = signed_ignores_rest
