use Rattle.gimli_core_base.proofs.NumberRoundTrip.{signed_reads_back}
use Rattle.gimli_core_base.proofs.number_laws.signed_reads_back.Goals as goal

pub returns : goal.returns
returns c = signed_reads_back
