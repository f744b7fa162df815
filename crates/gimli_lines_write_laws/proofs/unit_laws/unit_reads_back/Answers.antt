use Rattle.gimli_lines_write_laws.proofs.UnitReading.{unit_reads_back}
use Rattle.gimli_lines_write_laws.proofs.unit_laws.unit_reads_back.Goals as goal

pub returns : goal.returns
returns c = unit_reads_back
