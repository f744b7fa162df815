use Rattle.std.proofs.Common.{rules, of_calls}
use Rattle.std.proofs.lemmas.List.Sorted.{IsPartitionedBy-ltb, IsPartitionPoint-from_clause}
use Rattle.addr2line_elf.specs.SymbolStretches.{last_of, ends_before}
use Rattle.addr2line_elf.proofs.SymbolStretchLemmas.{count_from_point}
use Rattle.addr2line_elf.proofs.stretch.count_ending_before.Goals as goal

pub returns : goal.returns
returns c =
    let stretches = c.args.stretches.now in
    let a = c.args.address in
    count_from_point a stretches c.partition_point.result c.partition_point.ensures.bound
    (IsPartitionPoint-from_clause (ends_before a) stretches c.partition_point.result
    c.partition_point.ensures.partitioned
    (IsPartitionedBy-ltb last_of stretches a c.requires) (λ x r f k. search (rules, of_calls)))
