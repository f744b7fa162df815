use Rattle.std.proofs.Common.{rules, of_calls}
use Rattle.std.proofs.lemmas.List.Sorted.{IsPartitionedBy-leb, IsPartitionPoint-from_clause}
use Rattle.addr2line_elf.specs.NameParts.{end_of, ends_by}
use Rattle.addr2line_elf.proofs.NamePartLemmas.{count_from_point}
use Rattle.addr2line_elf.proofs.names.count_ending_by.Goals as goal

pub returns : goal.returns
returns c =
    let parts = c.args.parts.now in
    let o = c.args.offset in
    count_from_point o parts c.partition_point.result c.partition_point.ensures.bound
    (IsPartitionPoint-from_clause (ends_by o) parts c.partition_point.result
    c.partition_point.ensures.partitioned
    (IsPartitionedBy-leb end_of parts o c.requires) (λ x r f k. search (rules, of_calls)))
