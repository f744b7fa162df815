-- What was pushed, with the ranges of the entries that are left, is the whole.
use Rattle.std.proofs.Common.{◌≡◌, ◌++◌, length}
use Rattle.gimli_lines_rows.specs.ArangeSets.{aranges_to_come}
use Rattle.addr2line_ranges.specs.ArangeIndexes.{aranges_from}
use Rattle.addr2line_ranges.proofs.aranges.push_entries.Given as goal

abbrev pub invariant-loop-entries : goal.invariant-loop-entries
invariant-loop-entries g l =
    l.aranges.items ++ aranges_from l.offset l.entries
    ≡ l.initial.aranges.items ++ aranges_from l.offset l.initial.entries

abbrev pub decreases-loop-entries : goal.decreases-loop-entries
decreases-loop-entries g l = length (aranges_to_come l.entries)
