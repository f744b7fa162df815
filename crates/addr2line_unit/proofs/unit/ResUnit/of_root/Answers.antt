use Rattle.std.proofs.Common.{sym, subst}
use Rattle.std.proofs.lemmas.Result.{err_from_is_err_and}
use Rattle.addr2line_functions.specs.FirstAnswers.{load_of}
use Rattle.addr2line_root.specs.CountedRuns.{without_runs}
use Rattle.addr2line_root.specs.RootRanges.{RootFacts, RunsForRanges}
use Rattle.addr2line_unit.proofs.KeptParses.{load_made, keeps_new, ranges_new}
use Rattle.addr2line_unit.proofs.unit.ResUnit.of_root.Goals as goal

pub returns-in_err-load-clause-unit : goal.returns-in_err-load-clause-unit
returns-in_err-load-clause-unit g c =
    let p = err_from_is_err_and c.from_residual.result c.from_residual.ensures.1 in
    rw (p.1, p.2) (λ m. cc (c.in_err-load.ensures m))

pub invariant_of-result : goal.invariant_of-result
invariant_of-result g c =
    let u = c.args.main in
    let root = c.root.inside in
    let counter = c.args.probes.name in
    keeps_new u root.ranges.value.items counter c.in_ok-load.load root.lines c.in_ok-lines.lines
    c.not_read.result c.in_ok-lines.ensures.ok
    (subst (λ (r : RootFacts). RunsForRanges counter r.ranges r.lines
    (without_runs u.counted) u.counted) (sym c.root.view_is)
    c.requires)
    (load_made c.in_ok-load.load (load_of u.counted.unit) c.in_ok-load.ensures)
    c.not_read.ensures

pub returns-clause-lines : goal.returns-clause-lines
returns-clause-lines g c =
    let u = c.args.main in
    let root = c.root.inside in
    let counter = c.args.probes.name in
    ranges_new u root.ranges.value.items counter root.lines c.in_ok-lines.lines c.in_ok-lines.ensures.ok
    (subst (λ (r : RootFacts). RunsForRanges counter r.ranges r.lines
    (without_runs u.counted) u.counted) (sym c.root.view_is)
    c.requires)
