use Rattle.linemap_meaning.specs.TableViews.{range_part}
use Rattle.linemap_check.proofs.PartLists.{drop_map}
use Rattle.linemap_check.proofs.range_owners.range_at.Goals as goal

pub returns-in-Some-clause-found : goal.returns-in-Some-clause-found
returns-in-Some-clause-found c =
    drop_map range_part c.args.ranges.now c.args.index c.in-Some.range.now c.in-Some.ensures.lookup.3.0
    c.in-Some.ensures.lookup.1
