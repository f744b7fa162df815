-- Reading an entry takes no memory.
use Rattle.std.proofs.Common.{subst}
use Rattle.gimli_core_readers.specs.Iterators.{ReturnsNext}
use Rattle.gimli_units_lists.specs.ListEntryViews.{raw_entry}
use Rattle.gimli_units_lists.specs.Lists.{ReadsEntry}
use Rattle.gimli_units_lists.specs.RangeEntries.{RemainingRawRanges, range_entry, raw_ranges_to_come}
use Rattle.gimli_units_lists.proofs.ListRefusals.{next_without_memory}
use Rattle.gimli_units_lists.proofs.raw_ranges.RawRngListIter.next.Goals as goal

pub returns-clause-next : goal.returns-clause-next
returns-clause-next g c =
    let limit = g.R.Offset.ReaderOffset.limit in
    let new : RemainingRawRanges =
    record { encoding = c.self.inside.encoding; rest = g.R.Reader.view c.next_entry.new.input } in
    subst
    (λ (s : RemainingRawRanges). ReturnsNext (raw_entry g.R.Offset.ReaderOffset.count) c.next_entry.result
    (raw_ranges_to_come limit s) (raw_ranges_to_come limit new)) c.self.view_is
    (next_without_memory _ _ _ _ c.next_entry.ensures.next (c.next_entry.ensures.free tt))

pub returns-clause-free : goal.returns-clause-free
returns-clause-free g c = c.next_entry.ensures.free tt

pub returns-clause-rest : goal.returns-clause-rest
returns-clause-rest g c =
    subst
    (λ (s : RemainingRawRanges). ReadsEntry (raw_entry g.R.Offset.ReaderOffset.count)
    (range_entry g.R.Offset.ReaderOffset.limit s.encoding) c.next_entry.result s.rest
    (g.R.Reader.view c.next_entry.new.input)) c.self.view_is c.next_entry.ensures.rest
