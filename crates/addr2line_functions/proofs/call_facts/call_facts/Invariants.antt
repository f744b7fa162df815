-- The name and the facts so far, with those of the attributes to come, are those of all.
use Rattle.std.proofs.Common.{◌≡◌, option_map}
use Rattle.gimli_units_entries.specs.AttributeValues.{raw_attribute_of}
use Rattle.gimli_units_entries.specs.EntryViews.{raw_attributes}
use Rattle.addr2line_functions.specs.LastCallFacts.{last_call_facts}
use Rattle.addr2line_functions.proofs.CallFactSteps.{last_from_place}
use Rattle.addr2line_functions.proofs.call_facts.call_facts.Given as goal

abbrev pub invariant-loop-attribute : goal.invariant-loop-attribute
invariant-loop-attribute g l =
    let view = g.R.Reader.view in
    let count = g.R.Offset.ReaderOffset.count in
    let naming = g.N.Names.naming l.names in
    last_from_place l.unit naming (raw_attribute_of view count) (option_map view l.name) l.ranges l.attributes
    l.attribute-index
    ≡ last_call_facts l.unit naming (raw_attributes view count l.attributes)
