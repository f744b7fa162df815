use Rattle.std.proofs.Common.{nat_lt, rules, of_calls}
use Rattle.std.proofs.lemmas.List.Sorted.{answers_always}
use Rattle.addr2line_index.proofs.SharedRangeLemmas.{ends_rise-tested}
use Rattle.addr2line_index.proofs.unit_run.ends_rise.Goals as goal

pub returns : goal.returns
returns c =
    ends_rise-tested c.args.ranges.now c.is_sorted_by.result
    (c.is_sorted_by.ensures.cases (λ x y. nat_lt x.end y.end)
    (answers_always _ _ _ (λ f a r q k. search (rules, of_calls))))
