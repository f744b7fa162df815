-- No pair was skipped that ends above the one address and begins at or below the other.
use Rattle.std.proofs.Common.{◌≡◌, ◌+◌, ◌-◌, length, drop}
use Rattle.addr2line_index.specs.NumberedRanges.{overlapping_ranges}
use Rattle.addr2line_index.specs.BoundedRanges.{ranges_in}
use Rattle.addr2line_index.proofs.BoundedRangeLemmas.{all_left}
use Rattle.addr2line_index.proofs.next_range.next_overlapping.Given as goal

abbrev pub invariant-loop-place : goal.invariant-loop-place
invariant-loop-place l =
    overlapping_ranges l.low (l.last + 1) (all_left l.from (drop l.place l.entries))
    ≡ overlapping_ranges l.low (l.last + 1) (drop l.from (ranges_in l.entries))

abbrev pub decreases-loop-place : goal.decreases-loop-place
decreases-loop-place l = length l.entries - l.place
