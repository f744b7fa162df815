use Rattle.std.proofs.Common.{◌≡◌, ◌+◌, ◌≤◌, ◌∙◌, ap, sym, length, arith}
use Rattle.addr2line_search.specs.Searches.{digit_count}
use Rattle.addr2line_index.specs.LineCursors.{sequences_by_start, probes_from}
use Rattle.addr2line_index.proofs.SequenceWalks.{walk_ends, walk_skips, walk_enters, walk_probes-at, walk_probes-skip}
use Rattle.addr2line_index.proofs.line_cursor.next_sequence.Goals as goal

pub returns-then-high-range-clause-next : goal.returns-then-high-range-clause-next
returns-then-high-range-clause-next c =
    let lines = c.args.lines.now.lines in
    sym c.loop-next.invariant.same
    ∙ walk_ends c.args.low c.args.high lines.files lines.sequences c.loop-next.next c.range_at-range.result
    c.range_at-range.ensures.range c.if-high-range.true

pub returns-then-high-range-clause-cost : goal.returns-then-high-range-clause-cost
returns-then-high-range-clause-cost c =
    let lines = c.args.lines.now.lines in
    let n = c.loop-next.next in
    let skip : probes_from lines (n + 1) + 5 ≤ probes_from lines n =
    walk_probes-skip (sequences_by_start lines) n c.range_at-range.result c.range_at-range.ensures.range in
    let counted = ap (λ p. p.count) c.range_at-range.ensures.counted in
    let looks = c.loop-next.invariant.looks in
    (ap (λ p. p.name) c.range_at-range.ensures.counted ∙ c.loop-next.invariant.counter, omega arith)

pub returns-then-low-range-clause-next : goal.returns-then-low-range-clause-next
returns-then-low-range-clause-next c =
    let lines = c.args.lines.now.lines in
    sym c.loop-next.invariant.same
    ∙ walk_enters c.args.low c.args.high lines.files (sequences_by_start lines) c.loop-next.next
    c.first_from-row.result c.range_at-range.result c.at.result.now.sequence c.range_at-range.ensures.range
    c.at.ensures.sequence c.if-high-range.false c.if-low-range.true c.first_from-row.ensures.first

pub returns-then-low-range-clause-cost : goal.returns-then-low-range-clause-cost
returns-then-low-range-clause-cost c =
    let lines = c.args.lines.now.lines in
    let n = c.loop-next.next in
    let s = c.at.result.now.sequence in
    let here : probes_from lines n ≡ (digit_count (length s.rows) + 5) + probes_from lines (n + 1) =
    walk_probes-at (sequences_by_start lines) n s c.at.ensures.sequence in
    let first = ap (λ p. p.count) c.range_at-range.ensures.counted in
    let second = ap (λ p. p.count) c.at.ensures.counted in
    let third = c.first_from-row.ensures.cost.1 in
    let looks = c.loop-next.invariant.looks in (
      c.first_from-row.ensures.cost.0 ∙ ap (λ p. p.name) c.at.ensures.counted
          ∙ ap (λ p. p.name) c.range_at-range.ensures.counted
          ∙ c.loop-next.invariant.counter,
      omega arith,
    )

pub loop-next-preserved : goal.loop-next-preserved
loop-next-preserved c =
    let lines = c.args.lines.now.lines in
    let n = c.loop-next.next in
    let skip : probes_from lines (n + 1) + 5 ≤ probes_from lines n =
    walk_probes-skip (sequences_by_start lines) n c.range_at-range.result c.range_at-range.ensures.range in
    let counted = ap (λ p. p.count) c.range_at-range.ensures.counted in
    let looks = c.loop-next.invariant.looks in
    record {
      later = omega (arith, c.loop-next.invariant.later);
      same =
          sym (walk_skips c.args.low c.args.high lines.files (sequences_by_start lines) n c.range_at-range.result
          c.range_at-range.ensures.range c.if-low-range.false)
          ∙ c.loop-next.invariant.same;
      counter = ap (λ p. p.name) c.range_at-range.ensures.counted ∙ c.loop-next.invariant.counter;
      looks = omega arith;
    }
