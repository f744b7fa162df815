use Rattle.std.proofs.Common.{rules, of_calls}
use Rattle.std.proofs.lemmas.List.Sorted.{IsPartitionedBy-ltb, IsPartitionPoint-from_clause}
use Rattle.addr2line_names.specs.EntryReferences.{begins_below}
use Rattle.addr2line_names.specs.OrderedUnits.{unit_offset}
use Rattle.addr2line_names.proofs.LastUnitBelow.{order_of_mapped}
use Rattle.addr2line_names.proofs.references.count_below.Goals as goal

pub returns-clause-point : goal.returns-clause-point
returns-clause-point g c =
    let units = c.args.units.now in
    let offset = g.R.Offset.ReaderOffset.count c.args.offset.0 in
    let facts = g.U.HasUnit.facts in
    IsPartitionPoint-from_clause (λ u. begins_below offset (facts u)) units c.partition_point.result
    c.partition_point.ensures.partitioned
    (IsPartitionedBy-ltb (λ u. unit_offset (facts u)) units offset (order_of_mapped facts unit_offset units c.requires))
    (λ x r f k. search (rules, of_calls))
