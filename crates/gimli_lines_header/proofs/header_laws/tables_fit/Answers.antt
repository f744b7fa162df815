use Rattle.gimli_lines_header.proofs.HeaderPlaces.{tables_fit}
use Rattle.gimli_lines_header.proofs.header_laws.tables_fit.Goals as goal

pub returns : goal.returns
returns c = tables_fit
