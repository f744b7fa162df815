use Rattle.std.proofs.Common.{◌+◌, ◌-◌, ◌/◌, refl, sym, ap, ◌∙◌, arith}
use Rattle.std.proofs.lemmas.List.Sums.{prefix_len-le-length}
use Rattle.addr2line_search.specs.Searches.{digit_count}
use Rattle.addr2line_search.proofs.SearchLemmas.{passes_before, fails_after, digit_count-half}
use Rattle.addr2line_search.proofs.search.count_up_to.Goals as goal

pub loop-left-init : goal.loop-left-init
loop-left-init g c =
    let entries = c.args.list.now.entries in
    let bound = prefix_len-le-length (g.K.SearchKey.is_at_or_above c.args.key.now) entries in
    record {
      within = omega arith;
      not_after = omega arith;
      not_before = omega arith;
      counter = refl;
      looks = omega (arith, ap digit_count c.len-left.ensures);
    }

pub loop-left-preserved-then-is_at_or_above : goal.loop-left-preserved-then-is_at_or_above
loop-left-preserved-then-is_at_or_above g c =
    let test = g.K.SearchKey.is_at_or_above c.args.key.now in
    let entries = c.args.list.now.entries in
    let left = c.loop-left.left in
    let half = left / 2 in
    let before =
    passes_before test entries (c.loop-left.low + half) c.at.result.now c.requires.sorted c.at.ensures.entry
    (sym c.is_at_or_above.ensures ∙ c.if-is_at_or_above.true) in
    let fewer = digit_count-half (left - (half + 1)) left (omega arith) (omega arith) in
    let counted = ap (λ p. p.count) c.at.ensures.counted in
    record {
      within = omega arith;
      not_after = omega arith;
      not_before = omega arith;
      counter = ap (λ p. p.name) c.at.ensures.counted ∙ c.loop-left.invariant.counter;
      looks = omega arith;
    }

pub loop-left-preserved : goal.loop-left-preserved
loop-left-preserved g c =
    let test = g.K.SearchKey.is_at_or_above c.args.key.now in
    let entries = c.args.list.now.entries in
    let left = c.loop-left.left in
    let after =
    fails_after test entries (c.loop-left.low + left / 2) c.at.result.now c.at.ensures.entry
    (sym c.is_at_or_above.ensures ∙ c.if-is_at_or_above.false) in
    let fewer = digit_count-half (left / 2) left (omega arith) (omega arith) in
    let counted = ap (λ p. p.count) c.at.ensures.counted in
    record {
      within = omega arith;
      not_after = omega arith;
      not_before = omega arith;
      counter = ap (λ p. p.name) c.at.ensures.counted ∙ c.loop-left.invariant.counter;
      looks = omega arith;
    }
