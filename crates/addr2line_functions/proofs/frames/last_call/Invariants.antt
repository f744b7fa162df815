-- The numbers that are left have the same calls.
use Rattle.std.proofs.Common.{◌≡◌, length}
use Rattle.addr2line_functions.specs.CallNumbers.{calls_of_numbers}
use Rattle.addr2line_functions.proofs.frames.last_call.Given as goal

abbrev pub invariant-loop-number : goal.invariant-loop-number
invariant-loop-number g l = calls_of_numbers l.calls l.numbers ≡ calls_of_numbers l.calls l.left

abbrev pub decreases-loop-number : goal.decreases-loop-number
decreases-loop-number g l = length l.left
