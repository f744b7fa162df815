-- Reading an entry takes no memory.
use Rattle.gimli_units_lists.proofs.ListRefusals.{next_or_no_memory}
use Rattle.gimli_units_lists.proofs.ranges.RngListIterEntryList.take_entry.Goals as goal

pub returns-clause-next : goal.returns-clause-next
returns-clause-next g c = next_or_no_memory _ _ _ _ c.next_raw.ensures.next c.next_raw.ensures.free

pub returns-clause-free : goal.returns-clause-free
returns-clause-free g c = λ _. c.next_raw.ensures.free
