use Rattle.std.proofs.Common.{◌-◌, sym, ap, subst, reverse, arith}
use Rattle.addr2line_index.proofs.BoundedRangeLemmas.{AreMade, count-last, made_more, reverse-push}
use Rattle.addr2line_index.proofs.unit_ranges.bounded.Goals as goal

pub overflow_sub-after : goal.overflow_sub-after
overflow_sub-after c =
    omega (
      arith,
      c.more.ensures,
      count-last c.loop-last.left.now c.in-Some.rest.now c.in-Some.last.now
          c.in-Some.ensures.cases.0,
    )

pub overflow_sub-after-in-Some : goal.overflow_sub-after-in-Some
overflow_sub-after-in-Some c =
    omega (
      arith,
      c.more.ensures,
      count-last c.loop-last.left.now c.in-Some.rest.now c.in-Some.last.now
          c.in-Some.ensures.cases.0,
    )

pub loop-last-preserved : goal.loop-last-preserved
loop-last-preserved c =
    let rest = c.in-Some.rest.now in
    let least = c.min-least_begin.result in
    let before = c.loop-last.after - c.more.result - 1 in
    subst (AreMade c.args.ranges.now rest least before)
    (sym (reverse-push c.loop-last.entries.items c.push.new.self.items _ c.in_ok-push.ensures.items))
    (made_more c.args.ranges.now rest c.loop-last.left.now c.in-Some.last.now c.loop-last.least_begin least
    c.loop-last.after before (reverse c.loop-last.entries.items) c.in-Some.ensures.cases.0 c.min-least_begin.ensures
    (ap (λ n. c.loop-last.after - n - 1) c.more.ensures) c.loop-last.invariant)
