-- How the ranges of a list go on by an entry, and end.
use Rattle.std.proofs.Common.{◌≡◌, ℕ, [], ◌∷◌, ◌++◌, unwrap_or, Option, Result, Ok, ap}
use Rattle.gimli_core_readers.specs.Error.{Error}
use Rattle.gimli_core_readers.specs.declared.range.Range.{Range}
use Rattle.gimli_units_lists.specs.ListResolutions.{answer_list}
use Rattle.gimli_units_lists.specs.ListEntries.{RawEntry, base_in, range_of}
use Rattle.gimli_units_lists.specs.RangeEntries.{range_lists, raw_ranges_to_come}
use Rattle.gimli_units_lists.specs.ListSections.{RemainingRanges, range_list, ranges_to_come}
use Rattle.gimli_units_lists.proofs.ListSteps.{list_step, list_end}

-- an entry e was read, between the states old and mid, and resolved to r, which left the state new
pub range_step : (limit : ℕ) (old mid new : RemainingRanges) (e : RawEntry) (r : Result (Option Range) Error)
    → raw_ranges_to_come limit old.raw ≡ Ok e ∷ raw_ranges_to_come limit mid.raw → mid.against ≡ old.against
    → range_of mid.against.setting mid.against.base e ≡ r → new.raw ≡ mid.raw
    → new.against.setting ≡ mid.against.setting
    → new.against.base ≡ unwrap_or (base_in mid.against.setting e) mid.against.base
    → ranges_to_come limit old ≡ answer_list r ++ ranges_to_come limit new
range_step limit old mid new e r is same resolves raw setting base =
    list_step range_lists limit (range_list old) (range_list mid) (range_list new) e r is same resolves
    (ap (raw_ranges_to_come limit) raw) setting base

-- the list ended
pub range_end : (limit : ℕ) (old : RemainingRanges) → raw_ranges_to_come limit old.raw ≡ []
    → ranges_to_come limit old ≡ []
range_end limit old is = list_end range_lists limit (range_list old) is
