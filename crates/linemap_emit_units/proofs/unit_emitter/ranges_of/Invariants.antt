-- What was written, with the ranges that are left, is all of them.
use Rattle.std.proofs.Common.{◌≡◌, ◌++◌, drop, map}
use Rattle.linemap_emit_programs.specs.TableViews.{range_part}
use Rattle.linemap_emit_units.proofs.unit_emitter.ranges_of.Given as goal
use Rattle.linemap_emit_programs.specs.LookupAgreement.{lookup_range}

abbrev pub invariant-loop-range : goal.invariant-loop-range
invariant-loop-range l =
    l.list.items ++ map lookup_range (map range_part (drop l.range-index l.ranges))
    ≡ map lookup_range (map range_part l.ranges)
