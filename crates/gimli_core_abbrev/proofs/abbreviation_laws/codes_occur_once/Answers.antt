use Rattle.gimli_core_abbrev.proofs.RisingCodes.{codes_occur_once}
use Rattle.gimli_core_abbrev.proofs.abbreviation_laws.codes_occur_once.Goals as goal

pub returns : goal.returns
returns c = codes_occur_once
