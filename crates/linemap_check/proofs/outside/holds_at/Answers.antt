use Rattle.std.proofs.Common.{sym, ◌∙◌}
use Rattle.linemap_meaning.specs.Conditions.{is_within}
use Rattle.linemap_meaning.specs.TableViews.{range_part}
use Rattle.linemap_check.proofs.PartLists.{list_any-get}
use Rattle.linemap_check.proofs.outside.holds_at.Goals as goal

pub returns-in-Some : goal.returns-in-Some
returns-in-Some c = λ holds.
    list_any-get (is_within (range_part c.args.range.now)) range_part c.args.parent.now c.args.index
    c.in-Some.whole.now
    c.in-Some.ensures.lookup.3.0 c.in-Some.ensures.lookup.1
    (sym c.is_within.ensures ∙ holds)
