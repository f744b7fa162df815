use Rattle.std.proofs.Common.{◌≡◌, ℕ, sym, ap, subst, ◌∙◌}
use Rattle.addr2line_ranges.specs.UnitFacts.{UnitInFile}
use Rattle.addr2line_root.specs.LastPrograms.{program_key}
use Rattle.addr2line_root.specs.RootRanges.{RunsForRanges}
use Rattle.addr2line_ranges.proofs.UnitRangeLemmas.{ok_ranges}
use Rattle.addr2line_root.proofs.SharedLines.{last_is, header_of_sharing, shared_ranges, runs_shared}
use Rattle.addr2line_root.proofs.ranges.ranges_by_program.Goals as goal

pub returns-in-Some-clause-ranges : goal.returns-in-Some-clause-ranges
returns-in-Some-clause-ranges g c =
    let u = c.args.unit.now.unit in
    let last = c.args.last.now in
    let p = c.in-Some.run'.now in
    let is = last_is u.file last p c.in-Some.ensures.0 c.requires.last.0 in
    let header = header_of_sharing u last p c.in-Some.ensures.0 c.requires.last in
    let key = c.in-Some.ensures.1 ∙ ap (λ (w : UnitInFile). program_key w.facts) c.unit_ref.ensures in
    let lent = c.ranges-in-Some.ensures in
    let was_shared = c.in_ok-share.ensures in
    let same : p.ranges ≡ c.in_ok-share.field-0.value.items = cc in
    ap ok_ranges (sym (shared_ranges u last.counters.name p is header key) ∙ same)

pub returns-in-Some-clause-lines : goal.returns-in-Some-clause-lines
returns-in-Some-clause-lines g c =
    let u = c.args.unit.now.unit in
    let last = c.args.last.now in
    let p = c.in-Some.run'.now in
    let ranges = c.in_ok-share.field-0.value.items in
    let lines = c.in_ok-lines_for.field-0 in
    let lent = c.ranges-in-Some.ensures in
    let was_shared = c.in_ok-share.ensures in
    let same : ranges ≡ p.ranges = cc in
    let is = last_is u.file last p c.in-Some.ensures.0 c.requires.last.0 in
    let header = header_of_sharing u last p c.in-Some.ensures.0 c.requires.last in
    let key = c.in-Some.ensures.1 ∙ ap (λ (w : UnitInFile). program_key w.facts) c.unit_ref.ensures in
    subst (λ (n : ℕ). RunsForRanges n ranges lines c.args.unit.now c.lines_for.new.unit) (sym c.requires.counter)
    (runs_shared c.args.unit.now c.lines_for.new.unit last.counters.name p is header key ranges lines same
    c.in_ok-lines_for.ensures.lines)
