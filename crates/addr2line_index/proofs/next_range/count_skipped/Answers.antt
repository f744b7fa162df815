use Rattle.std.proofs.Common.{rules, of_calls}
use Rattle.std.proofs.lemmas.List.Sorted.{IsPartitionPoint-from_clause}
use Rattle.addr2line_index.specs.BoundedRanges.{is_skipped}
use Rattle.addr2line_index.proofs.BoundedRangeLemmas.{count_from_point, skipped_first}
use Rattle.addr2line_index.proofs.next_range.count_skipped.Goals as goal

pub returns : goal.returns
returns c =
    let entries = c.args.entries.now in
    let p = is_skipped c.args.from c.args.address in
    count_from_point p entries c.partition_point.result c.partition_point.ensures.bound
    (IsPartitionPoint-from_clause p entries c.partition_point.result c.partition_point.ensures.partitioned
    (skipped_first c.args.from c.args.address entries c.requires) (λ x r f k. search (rules, of_calls)))
