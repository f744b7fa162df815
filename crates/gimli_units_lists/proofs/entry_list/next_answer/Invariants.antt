use Rattle.std.proofs.Common.{◌≡◌, length}
use Rattle.gimli_units_lists.specs.Lists.{entries_of, answers_to_come, ReadsSome}
use Rattle.gimli_units_lists.specs.ListProgress.{Skips}
use Rattle.gimli_units_lists.proofs.entry_list.next_answer.Given as goal

-- what was to come is still to come, and what was taken stands for nothing and was read
abbrev pub invariant-loop-entry : goal.invariant-loop-entry
invariant-loop-entry g l =
    let t = g.L.EntryList in
    let first = t.remaining l.fn.list in
    let now = t.remaining l.list in
    (answers_to_come t.kind t.limit first ≡ answers_to_come t.kind t.limit now) × (now.how ≡ first.how)
    × (now.against.setting ≡ first.against.setting) × Skips t.kind t.limit first now
    × ReadsSome (t.kind.entry t.limit first.how) first.rest now.rest

abbrev pub decreases-loop-entry : goal.decreases-loop-entry
decreases-loop-entry g l =
    let t = g.L.EntryList in length (entries_of t.kind t.limit (t.remaining l.list))
