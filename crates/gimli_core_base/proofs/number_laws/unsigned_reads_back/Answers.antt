use Rattle.gimli_core_base.proofs.NumberRoundTrip.{unsigned_reads_back}
use Rattle.gimli_core_base.proofs.number_laws.unsigned_reads_back.Goals as goal

pub returns : goal.returns
returns c = unsigned_reads_back
