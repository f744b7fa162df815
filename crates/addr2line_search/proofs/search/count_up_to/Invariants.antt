-- What is looked for lies between the entries that are left, and the looks so far with those that
-- are left are at most as many as there may be.
use Rattle.std.proofs.Common.{◌≡◌, ◌+◌, ◌≤◌, length}
use Rattle.std.specs.List.{prefix_len}
use Rattle.addr2line_search.specs.Searches.{digit_count}
use Rattle.addr2line_search.proofs.search.count_up_to.Given as goal

abbrev pub invariant-loop-left : goal.invariant-loop-left
invariant-loop-left g l =
    let count = prefix_len (g.K.SearchKey.is_at_or_above l.key) l.list.entries in
    record {
      within : l.low + l.left ≤ length l.list.entries;
      not_after : l.low ≤ count;
      not_before : count ≤ l.low + l.left;
      counter : l.probes.name ≡ l.initial.probes.name;
      looks : l.probes.count + digit_count l.left
          ≤ l.initial.probes.count + digit_count (length l.list.entries);
    }

abbrev pub decreases-loop-left : goal.decreases-loop-left
decreases-loop-left g l = l.left
