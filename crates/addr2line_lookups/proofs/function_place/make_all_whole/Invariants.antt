use Rattle.std.proofs.Common.{◌≡◌, ◌-◌, length}
use Rattle.addr2line_lookups.proofs.function_place.make_all_whole.Given as goal

-- all units are as they were
abbrev pub invariant-loop-number : goal.invariant-loop-number
invariant-loop-number g l = l.units.items ≡ l.fn.units.items

abbrev pub decreases-loop-number : goal.decreases-loop-number
decreases-loop-number g l = length l.fn.units.items - l.number
