-- No sequence was skipped that reaches between the ends, and each was looked at once.
use Rattle.std.proofs.Common.{◌≡◌, ◌+◌, ◌≤◌, ◌-◌, length}
use Rattle.addr2line_index.specs.LineCursors.{sequences_by_start, stretches_by_start, probes_from}
use Rattle.addr2line_index.proofs.line_cursor.next_sequence.Given as goal

abbrev pub invariant-loop-next : goal.invariant-loop-next
invariant-loop-next l =
    let lines = l.lines.lines in
    record {
      later : l.from ≤ l.next;
      same : stretches_by_start lines l.low l.high l.next ≡ stretches_by_start lines l.low l.high l.from;
      counter : l.probes.name ≡ l.initial.probes.name;
      looks : l.probes.count + probes_from lines l.next ≤ l.initial.probes.count + probes_from lines l.from;
    }

abbrev pub decreases-loop-next : goal.decreases-loop-next
decreases-loop-next l = length (sequences_by_start l.lines.lines) - l.next
