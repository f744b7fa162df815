use Rattle.std.proofs.Common.{rules}
use Rattle.linemap_check.proofs.NestedCallLemmas.{any_call_outside_levels}
use Rattle.linemap_check.proofs.calls.any_call_outside.Goals as goal

pub returns-then-any_sibling_outside : goal.returns-then-any_sibling_outside
returns-then-any_sibling_outside c = rw any_call_outside_levels (search rules)

pub returns-else-any_sibling_outside : goal.returns-else-any_sibling_outside
returns-else-any_sibling_outside c = rw any_call_outside_levels (search rules)
