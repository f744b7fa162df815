-- What was written, and the bytes of the ranges that are left, are those of all of them; each of those can be written.
use Rattle.std.proofs.Common.{◌≡◌, ◌++◌, drop}
use Rattle.std.specs.Prelude.{flat_map}
use Rattle.linemap_emit_parts.specs.EmittedRanges.{AllWritable, spelled_range}
use Rattle.linemap_emit_parts.proofs.range_lists.write_ranges.Given as goal

abbrev pub invariant-loop-range : goal.invariant-loop-range
invariant-loop-range l =
    (l.w.is_big ≡ l.fn.w.is_big)
    × (l.w.bytes ++ flat_map (spelled_range l.encoding l.fn.w.is_big) (drop l.range-index l.ranges)
    ≡ l.fn.w.bytes ++ flat_map (spelled_range l.encoding l.fn.w.is_big) l.ranges)
    × AllWritable l.encoding.address_size (drop l.range-index l.ranges)
