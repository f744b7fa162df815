use Rattle.linemap_meaning.specs.TableViews.{function_part}
use Rattle.linemap_meaning.specs.TableWeight.{function_weight}
use Rattle.linemap_check.proofs.PartLists.{sum_by_map}
use Rattle.linemap_check.proofs.weight.functions_weight.Goals as goal

pub returns : goal.returns
returns c = rw (sum_by_map function_weight function_part c.args.functions.now) c.total.ensures
