-- The pairs that were skipped stand for nothing, and their bytes are taken.
use Rattle.std.proofs.Common.{◌≡◌}
use Rattle.gimli_core_base.specs.View.{bytes_left}
use Rattle.gimli_units_headers.specs.ArangeSets.{aranges_to_come, pairs_to_come, SkipsPairs, TakesPairs}
use Rattle.gimli_units_headers.proofs.arange_entry.ArangeEntryIter.next.Given as goal

abbrev pub invariant-loop-raw : goal.invariant-loop-raw
invariant-loop-raw g l = record {
  same_ranges : aranges_to_come l.self ≡ aranges_to_come l.fn.self;
  same_size : l.self.address_size ≡ l.fn.self.address_size;
  skips : SkipsPairs l.fn.self.address_size (pairs_to_come l.fn.self) (pairs_to_come l.self);
  takes : TakesPairs l.fn.self l.self;
}

abbrev pub decreases-loop-raw : goal.decreases-loop-raw
decreases-loop-raw g l = bytes_left l.self.rest
