use Rattle.std.proofs.Common.{rules, arith, [], ◌∷◌, length-append}
use Rattle.gimli_core_abbrev.proofs.SkippedDeclarations.{skipped_some, skipped_none}
use Rattle.gimli_core_abbrev.proofs.RunsInOrder.{run-none, run-more}
use Rattle.gimli_core_abbrev.proofs.checks.skip_in_order.Goals as goal

pub loop-passed-init : goal.loop-passed-init
loop-passed-init g c = (run-none c.args.first (g.R.Reader.view c.args.input.now), omega arith, c.requires)

pub returns : goal.returns
returns g c =
    let was = c.loop-passed.invariant in (was.0, omega (arith, was.1, was.2, c.loop-passed-test.false))

pub loop-passed-preserved : goal.loop-passed-preserved
loop-passed-preserved g c =
    let view = g.R.Reader.view in
    let was = c.loop-passed.invariant in
    let found = skipped_some (view c.loop-passed.input) (view c.skip.new.input) c.in-Some.code (search rules) in
    let is = c.if-code-passed.false in
    let next = run-more c.args.first (view c.args.input.now) (view c.loop-passed.input) (view c.skip.new.input)
    was.0 found.0 found.1 (omega (arith, found.2, is, was.1)) in
    let longer = length-append was.0.declarations (found.0 ∷ []) in
    (next, omega (arith, was.1, longer), omega (arith, c.loop-passed-test.true))

pub returns-in_default : goal.returns-in_default
returns-in_default g c =
    let view = g.R.Reader.view in
    let was = c.loop-passed.invariant in (
      view c.loop-passed.input,
      was.0,
      omega (arith, was.1, was.2),
      skipped_none (view c.loop-passed.input) (view c.skip.new.input) (search rules),
    )

pub returns-then-code-passed : goal.returns-then-code-passed
returns-then-code-passed g c =
    let view = g.R.Reader.view in
    let was = c.loop-passed.invariant in
    let found = skipped_some (view c.loop-passed.input) (view c.skip.new.input) c.in-Some.code (search rules) in
    let ne = c.if-code-passed.true in
    (view c.loop-passed.input, was.0, found.0, found.1, λ e. omega (arith, ne, e, found.2, was.1))
