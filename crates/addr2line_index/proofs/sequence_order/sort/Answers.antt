use Rattle.std.proofs.Common.{rules}
use Rattle.std.proofs.lemmas.List.Sorted.{answers_always}
use Rattle.addr2line_index.specs.SequenceOrders.{comes_before}
use Rattle.addr2line_index.proofs.SequenceOrderLemmas.{before_is_order}
use Rattle.addr2line_index.proofs.sequence_order.sort.Goals as goal

pub returns-clause-sorted : goal.returns-clause-sorted
returns-clause-sorted c =
    c.sort_unstable_by.ensures.sorted comes_before before_is_order
    (answers_always _ _ _ (λ f a r q k. search rules))
