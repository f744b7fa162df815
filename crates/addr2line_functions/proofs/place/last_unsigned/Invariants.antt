-- The last number among the attributes to come, or else the one so far, is that of all.
use Rattle.std.proofs.Common.{◌≡◌, ◌==◌}
use Rattle.gimli_units_entries.specs.AttributeValues.{raw_attribute_of}
use Rattle.gimli_units_entries.specs.EntryViews.{raw_attributes}
use Rattle.addr2line_ranges.specs.InlinedCalls.{unsigned_in, last_unsigned}
use Rattle.addr2line_names.proofs.LastAttributes.{from_index}
use Rattle.addr2line_functions.proofs.place.last_unsigned.Given as goal

abbrev pub invariant-loop-attribute : goal.invariant-loop-attribute
invariant-loop-attribute g l =
    let view = raw_attribute_of g.R.Reader.view g.R.Offset.ReaderOffset.count in
    from_index view (λ n. n) (unsigned_in (λ n. n == l.name.0)) l.found l.attributes l.attribute-index
    ≡ last_unsigned (λ n. n == l.name.0) (raw_attributes g.R.Reader.view g.R.Offset.ReaderOffset.count l.attributes)
