-- The sets of a section are parts of it.
use Rattle.gimli_units_headers.proofs.ArangeSetLemmas.{sets_are_parts}
use Rattle.gimli_units_headers.proofs.aranges.ArangeHeaderIter.next.Goals as goal

pub next-requires : goal.next-requires
next-requires g c = sets_are_parts g.R.Offset.ReaderOffset.limit
