use Rattle.std.proofs.Common.{rules, of_calls}
use Rattle.std.proofs.lemmas.List.Sorted.{IsPartitionedBy-ltb, IsPartitionPoint-from_clause}
use Rattle.addr2line_ranges.specs.ArangeIndexes.{offset_of, is_below}
use Rattle.addr2line_ranges.proofs.ArangeIndexLemmas.{count_from_point}
use Rattle.addr2line_ranges.proofs.arange_index.count_below.Goals as goal

pub returns-clause-count : goal.returns-clause-count
returns-clause-count c =
    let entries = c.args.entries.now in
    let n = c.args.offset in
    count_from_point n entries c.partition_point.result c.partition_point.ensures.bound
    (IsPartitionPoint-from_clause (is_below n) entries c.partition_point.result c.partition_point.ensures.partitioned
    (IsPartitionedBy-ltb offset_of entries n c.requires) (λ x r f k. search (rules, of_calls)))
