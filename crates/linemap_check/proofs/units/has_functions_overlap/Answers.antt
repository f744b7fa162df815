use Rattle.std.proofs.Common.{rules}
use Rattle.linemap_check.proofs.RuleLemmas.{function_ranges}
use Rattle.linemap_check.proofs.units.has_functions_overlap.Goals as goal

pub returns : goal.returns
returns c = rw (function_ranges c.args.unit.now.functions.items) (search rules)
