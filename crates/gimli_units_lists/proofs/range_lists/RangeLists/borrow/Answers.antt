-- The readers that the function is lent are the sections' own.
use Rattle.std.proofs.Common.{rules, refl}
use Rattle.gimli_units_lists.proofs.range_lists.RangeLists.borrow.Goals as goal

pub returns : goal.returns
returns g c = (
  c.reader.result.now,
  c.reader-2.result.now,
  c.f.result,
  c.f-2.result,
  search rules,
  search rules,
  record { shown = c.reader.result; shows = refl; says = record { met = c.f.ensures } },
  record { shown = c.reader-2.result; shows = refl; says = record { met = c.f-2.ensures } },
  search rules,
)
