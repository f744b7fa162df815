use Rattle.gimli_core_abbrev.proofs.SectionEnds.{answers_stay}
use Rattle.gimli_core_abbrev.proofs.abbreviation_laws.answers_stay.Goals as goal

pub returns : goal.returns
returns c = answers_stay
