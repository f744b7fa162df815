use Rattle.gimli_core_abbrev.proofs.SectionEnds.{finds_in_byte_order}
use Rattle.gimli_core_abbrev.proofs.abbreviation_laws.finds_in_byte_order.Goals as goal

pub returns : goal.returns
returns c = finds_in_byte_order
