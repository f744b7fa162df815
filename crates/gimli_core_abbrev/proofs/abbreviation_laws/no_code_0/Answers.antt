use Rattle.gimli_core_abbrev.proofs.RisingCodes.{no_code_0}
use Rattle.gimli_core_abbrev.proofs.abbreviation_laws.no_code_0.Goals as goal

pub returns : goal.returns
returns c = no_code_0
