use Rattle.std.proofs.Common.{◌≡◌, drop, map}
use Rattle.gimli_lines_write_tables.specs.FileTables.{info_of}
use Rattle.gimli_lines_write_unit.specs.HeaderContents.{first_source}
use Rattle.gimli_lines_write_unit.proofs.sources.first_source.Given as goal

abbrev pub invariant-loop-info : goal.invariant-loop-info
invariant-loop-info l = first_source (map info_of l.infos) ≡ first_source (map info_of (drop l.info-index l.infos))
