use Rattle.linemap_meaning.specs.TableViews.{sequence_part}
use Rattle.linemap_meaning.specs.TableWeight.{sequence_weight}
use Rattle.linemap_check.proofs.PartLists.{sum_by_map}
use Rattle.linemap_check.proofs.weight.sequences_weight.Goals as goal

pub returns : goal.returns
returns c = rw (sum_by_map sequence_weight sequence_part c.args.sequences.now) c.total.ensures
