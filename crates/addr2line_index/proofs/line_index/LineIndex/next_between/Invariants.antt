-- What is left is what was left at first, and three looks are for the row at the cursor.
use Rattle.std.proofs.Common.{◌≡◌, ◌+◌, ◌≤◌, ◌-◌, length}
use Rattle.addr2line_index.specs.LineCursors.{sequences_by_start, lines_left, probes_from}
use Rattle.addr2line_index.proofs.line_index.LineIndex.next_between.Given as goal

abbrev pub invariant-sequence : goal.invariant-sequence
invariant-sequence l =
    let lines = l.lines.lines in
    record {
      same : lines_left lines l.low l.high l.left ≡ lines_left lines l.low l.high l.fn.cursor;
      counter : l.probes.name ≡ l.initial.probes.name;
      looks : l.probes.count + probes_from lines l.left.next
          ≤ l.initial.probes.count + probes_from lines l.fn.cursor.next;
    }

abbrev pub decreases-sequence : goal.decreases-sequence
decreases-sequence l = length (sequences_by_start l.lines.lines) - l.left.next
