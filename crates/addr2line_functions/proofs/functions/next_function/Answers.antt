use Rattle.std.proofs.Common.{◌≡◌, ◌∙◌, true, false, sym, ap, arith}
use Rattle.std.proofs.lemmas.Bool.Decides.{nat_tests}
use Rattle.gimli_units_entries.proofs.RefusedCalls.{returns_refused}
use Rattle.gimli_units_entries.specs.EntryViews.{raw_attributes}
use Rattle.addr2line_ranges.specs.EntryRanges.{ranges_of_entry}
use Rattle.addr2line_ranges.specs.Functions.{is_subprogram}
use Rattle.addr2line_functions.proofs.NextFunctionSteps.{code_refused, null_entry, other_skipped, other_refused, attributes_refused, ranges_refused, function_read}
use Rattle.addr2line_functions.proofs.functions.next_function.Goals as goal

pub returns-in_err-abbreviation : goal.returns-in_err-abbreviation
returns-in_err-abbreviation g c =
    returns_refused _ c.from_residual.result _ _ c.from_residual.ensures.1
    (λ ne. code_refused g.R.Offset.ReaderOffset.limit c.args.unit.now c.args.entries.now _
    c.in_err-abbreviation.ensures.0)

pub returns-in_default : goal.returns-in_default
returns-in_default g c =
    null_entry g.R.Offset.ReaderOffset.limit c.args.unit.now c.args.entries.now _ _ c.in_ok-abbreviation.ensures
    c.in_default.is

pub returns-in_err-skip_entry : goal.returns-in_err-skip_entry
returns-in_err-skip_entry g c =
    let d = c.in-Some.abbreviation in
    let other : is_subprogram d.tag ≡ false = grind (arith, nat_tests, c.ne.ensures, c.tag.ensures, c.if-ne.true) in
    returns_refused _ c.from_residual-in_err-skip_entry.result _ _ c.from_residual-in_err-skip_entry.ensures.1
    (λ ne. other_refused g.R.Offset.ReaderOffset.limit c.args.unit.now c.args.entries.now _ _ d
    c.in_ok-abbreviation.ensures c.in-Some.is other _ c.in_err-skip_entry.ensures.0)

pub returns-then-ne : goal.returns-then-ne
returns-then-ne g c =
    let d = c.in-Some.abbreviation in
    let other : is_subprogram d.tag ≡ false = grind (arith, nat_tests, c.ne.ensures, c.tag.ensures, c.if-ne.true) in
    other_skipped g.R.Offset.ReaderOffset.limit c.args.unit.now c.args.entries.now _ _ d c.in_ok-abbreviation.ensures
    c.in-Some.is other _ c.in_ok-skip_entry.ensures

pub returns-in_err-read_range_attributes : goal.returns-in_err-read_range_attributes
returns-in_err-read_range_attributes g c =
    let limit = g.R.Offset.ReaderOffset.limit in
    let d = c.in-Some.abbreviation in
    let is : is_subprogram d.tag ≡ true = grind (arith, nat_tests, c.ne.ensures, c.tag.ensures, c.if-ne.false) in
    returns_refused _ c.from_residual-in_err-read_range_attributes.result _ _
    c.from_residual-in_err-read_range_attributes.ensures.1
    (λ ne. attributes_refused limit c.args.unit.now c.args.entries.now _ _ d c.in_ok-abbreviation.ensures
    c.in-Some.is is _ (c.in_err-read_range_attributes.ensures.0 ne))

pub returns-in_err-ranges : goal.returns-in_err-ranges
returns-in_err-ranges g c =
    let limit = g.R.Offset.ReaderOffset.limit in
    let d = c.in-Some.abbreviation in
    let is : is_subprogram d.tag ≡ true = grind (arith, nat_tests, c.ne.ensures, c.tag.ensures, c.if-ne.false) in
    returns_refused _ c.from_residual-in_err-ranges.result _ _ c.from_residual-in_err-ranges.ensures.1
    (λ ne. ranges_refused limit c.args.unit.now c.args.entries.now _ _ d c.in_ok-abbreviation.ensures c.in-Some.is is
    _ _ _
    c.in_ok-read_range_attributes.ensures
    (ap (λ xs. ranges_of_entry c.args.unit.now (raw_attributes g.R.Reader.view g.R.Offset.ReaderOffset.count xs))
    (sym c.deref.ensures.value) ∙ c.in_err-ranges.ensures ne))

pub returns : goal.returns
returns g c =
    let limit = g.R.Offset.ReaderOffset.limit in
    let d = c.in-Some.abbreviation in
    let is : is_subprogram d.tag ≡ true = grind (arith, nat_tests, c.ne.ensures, c.tag.ensures, c.if-ne.false) in
    function_read limit c.args.unit.now c.args.entries.now _ _ d c.in_ok-abbreviation.ensures c.in-Some.is is _ _
    c.in_ok-ranges.ranges.items _ c.if_has_range.result
    c.in_ok-read_range_attributes.ensures
    (ap (λ xs. ranges_of_entry c.args.unit.now (raw_attributes g.R.Reader.view g.R.Offset.ReaderOffset.count xs))
    (sym c.deref.ensures.value) ∙ c.in_ok-ranges.ensures)
    c.next_offset-offset.ensures.value c.if_has_range.ensures
