use Rattle.gimli_lines_write_laws.specs.FileTables.{info_of}
use Rattle.gimli_lines_write_laws.specs.ProgramReadBack.{InfoFits}
use Rattle.gimli_lines_write_program.proofs.RestOfLists.{rest_next}
use Rattle.gimli_lines_write_program.proofs.ranges.are_in_range.Goals as goal

pub loop-info-preserved : goal.loop-info-preserved
loop-info-preserved c =
    rest_next InfoFits info_of c.args.infos.now c.loop-info.info-index c.info-item.result c.loop-info-test.true
    c.info-item.is c.is_in_range.ensures c.loop-info.invariant
