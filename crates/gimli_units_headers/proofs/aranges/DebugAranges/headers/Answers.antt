-- The sets of a section lie end to end, and there are no more of them than bytes.
use Rattle.std.proofs.Common.{rules, Ok}
use Rattle.gimli_core_readers.proofs.TilingLemmas.{tile_in, few_in}
use Rattle.gimli_units_headers.proofs.ArangeSetLemmas.{sets_are_parts}
use Rattle.gimli_units_headers.proofs.aranges.DebugAranges.headers.Goals as goal

pub returns-clause-tile : goal.returns-clause-tile
returns-clause-tile g c =
    tile_in (sets_are_parts g.R.Offset.ReaderOffset.limit) c.args.self.now (Ok c.in_ok-new.field-0) (search rules)

pub returns-clause-few : goal.returns-clause-few
returns-clause-few g c =
    few_in (sets_are_parts g.R.Offset.ReaderOffset.limit) c.args.self.now (Ok c.in_ok-new.field-0) (search rules)
