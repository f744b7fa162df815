use Rattle.std.proofs.Common.{arith}
use Rattle.gimli_units_forms.proofs.SkippingLemmas.{ReturnsAs-equal}
use Rattle.gimli_units_forms.proofs.FixedRuns.{skip_with_widths, widths_within}
use Rattle.gimli_units_forms.proofs.skipping.skip_declared.Goals as goal

pub slice_bounds-left-count : goal.slice_bounds-left-count
slice_bounds-left-count g c =
    let within = widths_within c.args.encoding c.fixed_widths-widths.result c.attributes-2.result
    c.attributes.result.now _ c.attributes-2.ensures c.attributes.ensures c.fixed_widths-widths.ensures in
    omega (arith, within)

pub slice_bounds-left-start : goal.slice_bounds-left-start
slice_bounds-left-start g c =
    let within = widths_within c.args.encoding c.fixed_widths-widths.result c.attributes-2.result
    c.attributes.result.now _ c.attributes-2.ensures c.attributes.ensures c.fixed_widths-widths.ensures in
    omega (arith, within)

pub returns : goal.returns
returns g c =
    ReturnsAs-equal _ _ _ _
    (skip_with_widths c.args.encoding c.fixed_widths-widths.result c.attributes-2.result _ c.attributes.result.now _ _
    c.attributes-2.ensures c.bytes.ensures c.attributes.ensures c.fixed_widths-widths.ensures)
    c.skip_bytes_and_values.ensures
