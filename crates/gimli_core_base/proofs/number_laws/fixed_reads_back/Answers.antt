use Rattle.gimli_core_base.proofs.NumberRoundTrip.{fixed_reads_back}
use Rattle.gimli_core_base.proofs.number_laws.fixed_reads_back.Goals as goal

pub returns : goal.returns
returns c = fixed_reads_back
