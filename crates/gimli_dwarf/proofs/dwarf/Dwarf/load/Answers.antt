use Rattle.std.proofs.Common.{[], refl, rules}
use Rattle.gimli_dwarf.proofs.SectionCalls.{IfErr-from_error, answers_both, refuses_among, refuses_to_load, loads}
use Rattle.gimli_dwarf.proofs.CachedTables.{no_offsets}
use Rattle.gimli_dwarf.proofs.dwarf.Dwarf.load.Goals as goal

pub returns-in_err-debug_abbrev-clause-refusal : goal.returns-in_err-debug_abbrev-clause-refusal
returns-in_err-debug_abbrev-clause-refusal g c =
    IfErr-from_error _ _ _ c.from_residual.ensures.1
    (refuses_to_load (goal.F-step g) g.R.Reader.view _ _
    (refuses_among (goal.F-step g) [] _ _ _ _ _ (record { each = refl }) c.in_err-debug_abbrev.ensures.refusal))

pub returns-in_err-debug_line-clause-refusal : goal.returns-in_err-debug_line-clause-refusal
returns-in_err-debug_line-clause-refusal g c =
    IfErr-from_error _ _ _ c.from_residual-in_err-debug_line.ensures.1
    (refuses_to_load (goal.F-step g) g.R.Reader.view _ _
    (refuses_among (goal.F-step g) _ _ _ _ _ _ c.in_ok-debug_abbrev.ensures.answers
    c.in_err-debug_line.ensures.refusal))

pub returns-in_err-debug_macinfo-clause-refusal : goal.returns-in_err-debug_macinfo-clause-refusal
returns-in_err-debug_macinfo-clause-refusal g c =
    let eight = answers_both (goal.F-step g) _ _ _ _ _ c.in_ok-debug_abbrev.ensures.answers
    c.in_ok-debug_line.ensures.answers in
    IfErr-from_error _ _ _ c.from_residual-in_err-debug_macinfo.ensures.1
    (refuses_to_load (goal.F-step g) g.R.Reader.view _ _
    (refuses_among (goal.F-step g) _ _ _ _ _ _ eight c.in_err-debug_macinfo.ensures.refusal))

pub returns-in_err-debug_rnglists-clause-refusal : goal.returns-in_err-debug_rnglists-clause-refusal
returns-in_err-debug_rnglists-clause-refusal g c =
    let eight = answers_both (goal.F-step g) _ _ _ _ _ c.in_ok-debug_abbrev.ensures.answers
    c.in_ok-debug_line.ensures.answers in
    let twelve = answers_both (goal.F-step g) _ _ _ _ _ eight c.in_ok-debug_macinfo.ensures.answers in
    IfErr-from_error _ _ _ c.from_residual-in_err-debug_rnglists.ensures.1
    (refuses_to_load (goal.F-step g) g.R.Reader.view _ _
    (refuses_among (goal.F-step g) _ _ _ _ _ _ twelve c.in_err-debug_rnglists.ensures.refusal))

pub invariant_of-result : goal.invariant_of-result
invariant_of-result g c = (
  (λ offset. rw (c.new-3.ensures.none offset) refl),
  (λ offset d found. let none = c.new-4.ensures.none offset in absurd cc),
  tt,
)

pub returns-clause-cache : goal.returns-clause-cache
returns-clause-cache g c = no_offsets _ c.new-3.ensures.empty

pub returns-clause-loaded : goal.returns-clause-loaded
returns-clause-loaded g c =
    let eight = answers_both (goal.F-step g) _ _ _ _ _ c.in_ok-debug_abbrev.ensures.answers
    c.in_ok-debug_line.ensures.answers in
    let twelve = answers_both (goal.F-step g) _ _ _ _ _ eight c.in_ok-debug_macinfo.ensures.answers in
    let all = answers_both (goal.F-step g) _ _ _ _ _ twelve c.in_ok-debug_rnglists.ensures.answers in
    loads (goal.F-step g) g.R.Reader.view g.R.Offset.ReaderOffset.limit _ _ _ _ refl all (search rules)
