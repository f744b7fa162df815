use Rattle.std.proofs.Common.{◌≡◌}
use Rattle.addr2line_unit.specs.KeptFunctions.{calls_of_none}
use Rattle.addr2line_unit.proofs.unit_functions.calls_of_none.Given as goal

abbrev pub invariant-loop-function : goal.invariant-loop-function
invariant-loop-function g l = l.calls.items ≡ calls_of_none l._function
