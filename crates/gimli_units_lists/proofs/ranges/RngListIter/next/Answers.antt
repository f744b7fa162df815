-- Reading an entry takes no memory.
use Rattle.gimli_units_lists.proofs.ListRefusals.{next_without_memory, takes_range}
use Rattle.gimli_units_lists.proofs.ranges.RngListIter.next.Goals as goal

pub returns-clause-next : goal.returns-clause-next
returns-clause-next g c = next_without_memory _ _ _ _ c.next_answer.ensures.next (c.next_answer.ensures.free tt)

pub returns-clause-progress : goal.returns-clause-progress
returns-clause-progress g c = takes_range _ _ _ _ c.next_answer.ensures.progress (c.next_answer.ensures.free tt)

pub returns-clause-free : goal.returns-clause-free
returns-clause-free g c = c.next_answer.ensures.free tt
