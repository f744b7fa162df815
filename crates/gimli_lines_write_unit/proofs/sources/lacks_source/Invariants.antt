use Rattle.std.proofs.Common.{◌≡◌, drop, map}
use Rattle.std.specs.Prelude.{is_none}
use Rattle.std.specs.List.{list_any}
use Rattle.gimli_lines_write_tables.specs.FileTables.{Info, info_of}
use Rattle.gimli_lines_write_unit.proofs.sources.lacks_source.Given as goal

abbrev pub invariant-loop-info : goal.invariant-loop-info
invariant-loop-info l = list_any (λ (i : Info). is_none i.source) (map info_of l.infos)
    ≡ list_any (λ (i : Info). is_none i.source) (map info_of (drop l.info-index l.infos))
