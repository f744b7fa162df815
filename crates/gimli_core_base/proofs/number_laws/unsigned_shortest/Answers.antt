use Rattle.gimli_core_base.proofs.LebStringLaws.{unsigned_shortest}
use Rattle.gimli_core_base.proofs.number_laws.unsigned_shortest.Goals as goal

pub returns : goal.returns
returns c = unsigned_shortest
