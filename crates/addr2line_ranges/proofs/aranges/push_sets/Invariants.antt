-- What was pushed, with the ranges of the sets that are left, is the whole, and the fault is theirs.
use Rattle.std.proofs.Common.{◌≡◌, ◌++◌, length}
use Rattle.gimli_lines_rows.specs.Repetition.{fault_of}
use Rattle.gimli_lines_rows.specs.ArangeSets.{sets_to_come}
use Rattle.addr2line_ranges.specs.ArangeIndexes.{aranges_of_sets}
use Rattle.addr2line_ranges.proofs.aranges.push_sets.Given as goal

abbrev pub invariant-loop-set : goal.invariant-loop-set
invariant-loop-set g l =
    let limit = g.R.Offset.ReaderOffset.limit in
    record {
      ranges : l.aranges.items ++ aranges_of_sets (sets_to_come limit l.sets).items
          ≡ l.initial.aranges.items ++ aranges_of_sets (sets_to_come limit l.initial.sets).items;
      fault : fault_of (sets_to_come limit l.sets) ≡ fault_of (sets_to_come limit l.initial.sets);
    }

abbrev pub decreases-loop-set : goal.decreases-loop-set
decreases-loop-set g l = length (sets_to_come g.R.Offset.ReaderOffset.limit l.sets).items
