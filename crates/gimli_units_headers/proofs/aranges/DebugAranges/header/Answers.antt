-- A part looked up by its offset is the one that the section has there.
use Rattle.std.proofs.Common.{rules}
use Rattle.gimli_core_readers.proofs.TilingLemmas.{lookup_is_part}
use Rattle.gimli_units_headers.proofs.ArangeSetLemmas.{sets_are_parts}
use Rattle.gimli_units_headers.proofs.aranges.DebugAranges.header.Goals as goal

pub returns-clause-again : goal.returns-clause-again
returns-clause-again g c =
    lookup_is_part (sets_are_parts g.R.Offset.ReaderOffset.limit) c.args.self.now
    (g.R.Offset.ReaderOffset.count c.args.offset.0) c.part_at.result (search rules)
