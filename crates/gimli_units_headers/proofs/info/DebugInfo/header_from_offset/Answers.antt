-- A part looked up by its offset is the one that the section has there.
use Rattle.std.proofs.Common.{rules}
use Rattle.gimli_core_readers.proofs.TilingLemmas.{lookup_is_part}
use Rattle.gimli_units_headers.proofs.UnitHeaderLemmas.{units_are_parts}
use Rattle.gimli_units_headers.proofs.info.DebugInfo.header_from_offset.Goals as goal

pub returns-clause-again : goal.returns-clause-again
returns-clause-again g c =
    lookup_is_part (units_are_parts g.R.Offset.ReaderOffset.limit) c.args.self.now
    (g.R.Offset.ReaderOffset.count c.args.offset.0) c.part_at.result (search rules)
