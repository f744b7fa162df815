-- What was read, with what is left, is the whole.
use Rattle.std.proofs.Common.{◌≡◌, ◌++◌, length, Ok}
use Rattle.gimli_dwarf.specs.ListSections.{ranges_to_come}
use Rattle.gimli_lines_rows.specs.Results.{and_then}
use Rattle.addr2line_ranges.specs.RangeListReading.{ranges_or_refusal}
use Rattle.addr2line_ranges.proofs.lists.all_ranges.Given as goal

abbrev pub invariant-loop-ranges : goal.invariant-loop-ranges
invariant-loop-ranges g l =
    let limit = g.R.Offset.ReaderOffset.limit in
    and_then (ranges_or_refusal (ranges_to_come limit l.list)) (λ rs. Ok (l.ranges.items ++ rs))
    ≡ ranges_or_refusal (ranges_to_come limit l.fn.list)

abbrev pub decreases-loop-ranges : goal.decreases-loop-ranges
decreases-loop-ranges g l = length (ranges_to_come g.R.Offset.ReaderOffset.limit l.list)
