use Rattle.gimli_lines_write_spec.proofs.LineUnitsAgain.{unit_again}
use Rattle.gimli_lines_write_spec.proofs.header_laws.header_reads_back.Goals as goal

pub returns : goal.returns
returns c = λ limit offset rules is_big first unit t program rest can sized.
    (unit_again limit rules is_big t program can offset first unit sized).again rest
