use Rattle.gimli_core_readers.proofs.Listings.{item_smaller}
use Rattle.gimli_core_abbrev.specs.AbbreviationViews.{attribute_view}
use Rattle.gimli_core_abbrev.proofs.DeclarationSizes.{attributes-shrink}
use Rattle.gimli_core_abbrev.proofs.ExactRefusals.{exactly_refused}
use Rattle.gimli_core_abbrev.proofs.SkippedAttributes.{ending_after, ending_run, run_smaller, skipped_to, skip_refused, item_there, none_there}
use Rattle.gimli_core_abbrev.proofs.abbreviation.skip_attributes.Goals as goal

pub returns-then-is_none : goal.returns-then-is_none
returns-then-is_none g c =
    let view = g.R.Reader.view in
    let now = view c.advance.new.self in
    let run = ending_run (view c.args.input.now) (view c.skipping.input) now c.short_run-run.result
    c.as_bytes.result.now c.skipping.invariant c.short_run-run.ensures.run c.as_bytes.ensures.value
    c.advance.ensures in
    skipped_to (view c.args.input.now) now (view c.parse_attribute.new.input) run
    (none_there attribute_view c.in_ok-parse_attribute.field-0 now (view c.parse_attribute.new.input)
    c.if-is_none.ensures c.in_ok-parse_attribute.ensures)

pub returns-in_err-parse_attribute : goal.returns-in_err-parse_attribute
returns-in_err-parse_attribute g c =
    let view = g.R.Reader.view in
    let now = view c.advance.new.self in
    let run = ending_run (view c.args.input.now) (view c.skipping.input) now c.short_run-run.result
    c.as_bytes.result.now c.skipping.invariant c.short_run-run.ensures.run c.as_bytes.ensures.value
    c.advance.ensures in
    exactly_refused _ c.from_residual.result _ _ c.from_residual.ensures.1
    (skip_refused (view c.args.input.now) now _ run c.in_err-parse_attribute.ensures)

pub skipping-smaller : goal.skipping-smaller
skipping-smaller g c =
    let view = g.R.Reader.view in
    let now = view c.advance.new.self in
    let found = item_there attribute_view c.in_ok-parse_attribute.field-0 now (view c.parse_attribute.new.input)
    c.if-is_none.ensures c.in_ok-parse_attribute.ensures in
    run_smaller (view c.skipping.input) now (view c.parse_attribute.new.input) c.short_run-run.result c.advance.ensures
    (item_smaller attributes-shrink now found.0 (view c.parse_attribute.new.input) found.1)

pub skipping-preserved : goal.skipping-preserved
skipping-preserved g c =
    let view = g.R.Reader.view in
    let now = view c.advance.new.self in
    let run = ending_run (view c.args.input.now) (view c.skipping.input) now c.short_run-run.result
    c.as_bytes.result.now c.skipping.invariant c.short_run-run.ensures.run c.as_bytes.ensures.value
    c.advance.ensures in
    let found = item_there attribute_view c.in_ok-parse_attribute.field-0 now (view c.parse_attribute.new.input)
    c.if-is_none.ensures c.in_ok-parse_attribute.ensures in
    ending_after (view c.args.input.now) now (view c.parse_attribute.new.input) found.0 run found.1
