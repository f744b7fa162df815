use Rattle.linemap_check.proofs.NestedCallLemmas.{sibling_ranges_calls}
use Rattle.linemap_check.proofs.calls.any_siblings_overlap.Goals as goal

pub returns : goal.returns
returns c = rw sibling_ranges_calls c.any_overlap.ensures
