use Rattle.gimli_lines_header.proofs.TableSizes.{entries_take_bytes}
use Rattle.gimli_lines_header.proofs.header_laws.entries_take_bytes.Goals as goal

pub returns : goal.returns
returns c = entries_take_bytes
