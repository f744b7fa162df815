-- The name so far with that of the attributes to come is the name of all.
use Rattle.std.proofs.Common.{◌≡◌, None, option_map}
use Rattle.gimli_units_entries.specs.AttributeValues.{raw_attribute_of}
use Rattle.gimli_units_entries.specs.EntryViews.{raw_attributes}
use Rattle.addr2line_ranges.specs.InlinedCalls.{name_by}
use Rattle.addr2line_functions.proofs.NameFolds.{name_from_place}
use Rattle.addr2line_functions.proofs.naming.name_by.Given as goal

abbrev pub invariant-loop-attribute : goal.invariant-loop-attribute
invariant-loop-attribute g l =
    let view = g.R.Reader.view in
    let count = g.R.Offset.ReaderOffset.count in
    let naming = g.N.Names.naming l.names in
    name_from_place naming (raw_attribute_of view count) (option_map view l.found) l.attributes l.attribute-index
    ≡ name_by naming None (raw_attributes view count l.attributes)
