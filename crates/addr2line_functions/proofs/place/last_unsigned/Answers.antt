use Rattle.std.proofs.Common.{◌==◌}
use Rattle.gimli_units_entries.specs.AttributeValues.{raw_attribute_of}
use Rattle.addr2line_ranges.specs.InlinedCalls.{unsigned_in}
use Rattle.addr2line_ranges.proofs.LastValueStep.{from_index-more}
use Rattle.addr2line_functions.proofs.UnsignedValues.{number, ok_number}
use Rattle.addr2line_functions.proofs.place.last_unsigned.Goals as goal

pub loop-attribute-preserved : goal.loop-attribute-preserved
loop-attribute-preserved g c =
    let name = c.args.name in
    from_index-more (raw_attribute_of g.R.Reader.view g.R.Offset.ReaderOffset.count) number
    (unsigned_in (λ n. n == name.0))
    c.loop-attribute.found c.unsigned_in.result _ c.args.attributes.now c.loop-attribute.attribute-index
    c.attribute-item.result _
    c.loop-attribute-test.true c.attribute-item.is
    (ok_number _ _ c.unsigned_in.ensures) c.or-found.ensures c.loop-attribute.invariant
