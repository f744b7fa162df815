use Rattle.std.proofs.Common.{◌∙◌, ap}
use Rattle.addr2line_index.specs.SequenceOrders.{with_greatest_ends}
use Rattle.addr2line_index.proofs.SequenceOrderLemmas.{sorted_entries}
use Rattle.addr2line_index.proofs.sequence_order.put_by_start.Goals as goal

pub returns : goal.returns
returns c sequences is =
    c.bound.ensures
    ∙ ap (with_greatest_ends 0)
    (sorted_entries c.args.entries.now c.sort.new.entries sequences c.sort.ensures.permutation
    c.sort.ensures.sorted is)
