use Rattle.std.proofs.Common.{◌≡◌, ◌+◌, ◌-◌, ◌∙◌, sym, arith}
use Rattle.std.specs.List.{prefix_len}
use Rattle.std.proofs.lemmas.List.Sums.{prefix_len-le-length}
use Rattle.addr2line_search.proofs.SearchLemmas.{last_passing-none, last_passing-some}
use Rattle.addr2line_search.proofs.search.last_up_to.Goals as goal

pub at-requires-clause-within : goal.at-requires-clause-within
at-requires-clause-within g c =
    let bound =
    prefix_len-le-length (g.K.SearchKey.is_at_or_above c.args.key.now) c.args.list.now.entries in
    omega (arith, c.count_up_to-count.ensures.count)

pub returns-then-count-eq0-clause-entry : goal.returns-then-count-eq0-clause-entry
returns-then-count-eq0-clause-entry g c =
    sym (last_passing-none (g.K.SearchKey.is_at_or_above c.args.key.now) c.args.list.now.entries c.requires.sorted
    (sym c.count_up_to-count.ensures.count ∙ c.if-count-eq0.true))

pub returns-else-count-eq0-clause-entry : goal.returns-else-count-eq0-clause-entry
returns-else-count-eq0-clause-entry g c =
    let count = c.count_up_to-count.result in
    let whole : prefix_len (g.K.SearchKey.is_at_or_above c.args.key.now) c.args.list.now.entries ≡ count - 1 + 1 =
    omega (arith, c.count_up_to-count.ensures.count) in
    sym c.at.ensures.entry
    ∙ sym (last_passing-some (g.K.SearchKey.is_at_or_above c.args.key.now) c.args.list.now.entries (count - 1)
    c.requires.sorted whole)
