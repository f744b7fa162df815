-- The same of the remaining depths are shallower.
use Rattle.std.proofs.Common.{◌≡◌, reverse, vec_len}
use Rattle.addr2line_functions.specs.CallNesting.{shallower}
use Rattle.addr2line_functions.proofs.nesting.drop_deeper.Given as goal

abbrev pub invariant-loop-last : goal.invariant-loop-last
invariant-loop-last l = shallower l.depth (reverse l.calls.items) ≡ shallower l.depth (reverse l.initial.calls.items)

abbrev pub decreases-loop-last : goal.decreases-loop-last
decreases-loop-last l = vec_len l.calls
