use Rattle.gimli_core_base.proofs.LebStringLaws.{signed_shortest}
use Rattle.gimli_core_base.proofs.number_laws.signed_shortest.Goals as goal

pub returns : goal.returns
returns c = signed_shortest
