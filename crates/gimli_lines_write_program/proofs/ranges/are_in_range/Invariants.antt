use Rattle.gimli_lines_write_laws.specs.FileTables.{info_of}
use Rattle.gimli_lines_write_laws.specs.ProgramReadBack.{InfoFits}
use Rattle.gimli_lines_write_program.proofs.RestOfLists.{Rest}
use Rattle.gimli_lines_write_program.proofs.ranges.are_in_range.Given as goal

abbrev pub invariant-loop-info : goal.invariant-loop-info
invariant-loop-info l = Rest InfoFits info_of l.infos l.info-index
