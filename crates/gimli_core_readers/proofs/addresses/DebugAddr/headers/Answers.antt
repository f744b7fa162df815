-- The sets of a section lie end to end.
use Rattle.std.proofs.Common.{rules}
use Rattle.gimli_core_readers.proofs.TilingLemmas.{tile_in}
use Rattle.gimli_core_readers.proofs.AddressSetLemmas.{sets_are_parts}
use Rattle.gimli_core_readers.proofs.addresses.DebugAddr.headers.Goals as goal

pub returns-clause-tile : goal.returns-clause-tile
returns-clause-tile g c =
    tile_in (sets_are_parts g.R.Offset.ReaderOffset.limit) c.args.self.now c.new.result (search rules)
