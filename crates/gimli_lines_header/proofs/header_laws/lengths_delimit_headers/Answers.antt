use Rattle.gimli_lines_header.proofs.HeaderPlaces.{lengths_delimit_headers}
use Rattle.gimli_lines_header.proofs.header_laws.lengths_delimit_headers.Goals as goal

pub returns : goal.returns
returns c = lengths_delimit_headers
