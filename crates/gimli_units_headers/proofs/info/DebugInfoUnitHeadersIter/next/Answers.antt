-- The units of a section are parts of it.
use Rattle.gimli_units_headers.proofs.UnitHeaderLemmas.{units_are_parts}
use Rattle.gimli_units_headers.proofs.info.DebugInfoUnitHeadersIter.next.Goals as goal

pub next-requires : goal.next-requires
next-requires g c = units_are_parts g.R.Offset.ReaderOffset.limit
