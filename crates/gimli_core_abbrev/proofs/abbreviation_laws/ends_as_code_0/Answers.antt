use Rattle.gimli_core_abbrev.proofs.SectionEnds.{ends_as_code_0}
use Rattle.gimli_core_abbrev.proofs.abbreviation_laws.ends_as_code_0.Goals as goal

pub returns : goal.returns
returns c = ends_as_code_0
