use Rattle.std.proofs.Common.{◌∙◌, ap, Ok, rules}
use Rattle.addr2line_context.specs.LocationRanges.{left_in}
use Rattle.addr2line_context.specs.RangeItems.{stretch_of_item}
use Rattle.linemap_replay.proofs.CopiedStretches.{one_more_stretch}
use Rattle.linemap_replay.proofs.KeptReads.{keeps_step, still_between}
use Rattle.linemap_replay.proofs.copied_stretches.copy_stretches.Goals as goal

pub item-preserved : goal.item-preserved
item-preserved g c =
    let moved = c.next.follows.holds-at-none in
    let old = c.item.stretches in
    let new = c.next.follows.lender-at-none in
    let start = c.args.context.now.value in
    record {
      same_reference = moved.same_reference ∙ c.item.invariant.same_reference;
      value = moved.after.value ∙ c.item.invariant.value;
      between =
          still_between _ old.walk new.walk old.context.now new.context.now moved.after start c.item.invariant.value
          c.args.low c.args.high c.item.invariant.between;
      kept =
          keeps_step _ old.walk new.walk old.context.now new.context.now moved.after start c.item.invariant.value
          c.args.low c.args.high c.item.invariant.between c.args.context.now.units c.item.invariant.kept;
      copied =
          one_more_stretch stretch_of_item _ (left_in old.context.now old.walk) (left_in new.context.now new.walk)
          c.item.copies.items c.push.new.self.items c.in_ok-copy-in-Ok-Some.field-0
          c.in-Ok-Some.item c.next.result
          (c.in-Ok-Some.is ∙ ap Ok c.in-Ok-Some.field-0-is) moved.item c.in_ok-copy-in-Ok-Some.ensures
          c.in_ok-push-in-Ok-Some.ensures.items c.item.invariant.copied;
    }

pub returns-in_err-copy-in-Ok-Some-clause-kept : goal.returns-in_err-copy-in-Ok-Some-clause-kept
returns-in_err-copy-in-Ok-Some-clause-kept g c =
    let moved = c.next.follows.holds-at-none in
    let old = c.item.stretches in
    let new = c.next.follows.lender-at-none in
    let start = c.args.context.now.value in
    let kept = keeps_step _ old.walk new.walk old.context.now new.context.now moved.after start c.item.invariant.value
    c.args.low c.args.high c.item.invariant.between c.args.context.now.units c.item.invariant.kept in
    search (kept, rules)

pub returns-in_err-push-in-Ok-Some-clause-kept : goal.returns-in_err-push-in-Ok-Some-clause-kept
returns-in_err-push-in-Ok-Some-clause-kept g c =
    let moved = c.next.follows.holds-at-none in
    let old = c.item.stretches in
    let new = c.next.follows.lender-at-none in
    let start = c.args.context.now.value in
    let kept = keeps_step _ old.walk new.walk old.context.now new.context.now moved.after start c.item.invariant.value
    c.args.low c.args.high c.item.invariant.between c.args.context.now.units c.item.invariant.kept in
    search (kept, rules)

pub returns-in-Ok-None-clause-kept : goal.returns-in-Ok-None-clause-kept
returns-in-Ok-None-clause-kept g c =
    let moved = c.next.follows.holds-at-none in
    let old = c.item.stretches in
    let new = c.next.follows.lender-at-none in
    let start = c.args.context.now.value in
    let kept = keeps_step _ old.walk new.walk old.context.now new.context.now moved.after start c.item.invariant.value
    c.args.low c.args.high c.item.invariant.between c.args.context.now.units c.item.invariant.kept in
    search (kept, rules)

pub returns-in-Err-clause-kept : goal.returns-in-Err-clause-kept
returns-in-Err-clause-kept g c =
    let moved = c.next.follows.holds-at-none in
    let old = c.item.stretches in
    let new = c.next.follows.lender-at-none in
    let start = c.args.context.now.value in
    let kept = keeps_step _ old.walk new.walk old.context.now new.context.now moved.after start c.item.invariant.value
    c.args.low c.args.high c.item.invariant.between c.args.context.now.units c.item.invariant.kept in
    search (kept, rules)
