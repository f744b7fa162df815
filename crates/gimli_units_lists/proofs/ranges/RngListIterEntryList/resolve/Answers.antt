-- A range is seen as it is.
use Rattle.gimli_units_lists.proofs.ListRefusals.{seen_as_it_is}
use Rattle.gimli_units_lists.proofs.ranges.RngListIterEntryList.resolve.Goals as goal

pub returns-clause-value : goal.returns-clause-value
returns-clause-value g c = seen_as_it_is _ _ c.convert_raw.ensures.value
