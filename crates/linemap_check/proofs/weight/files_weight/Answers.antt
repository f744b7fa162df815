use Rattle.linemap_meaning.specs.TableViews.{file_part}
use Rattle.linemap_meaning.specs.TableWeight.{file_weight}
use Rattle.linemap_check.proofs.PartLists.{sum_by_map}
use Rattle.linemap_check.proofs.weight.files_weight.Goals as goal

pub returns : goal.returns
returns c = rw (sum_by_map file_weight file_part c.args.files.now) c.total.ensures
