use Rattle.gimli_core_base.proofs.LebRoundTrip.{unsigned_string_reads_back}
use Rattle.gimli_core_base.proofs.number_laws.unsigned_string_reads_back.Goals as goal

pub returns : goal.returns
returns c = unsigned_string_reads_back
