-- The name so far with that of the attributes to come is the name of all.
use Rattle.std.proofs.Common.{◌≡◌, option_map}
use Rattle.gimli_dwarf.specs.AttributeValues.{raw_attribute_of}
use Rattle.gimli_dwarf.specs.EntryViews.{raw_attributes}
use Rattle.addr2line_names.specs.FunctionNames.{name_by_reference, name_of, most_references}
use Rattle.addr2line_names.proofs.NameSteps.{name_from_place}
use Rattle.addr2line_names.proofs.names.KnownUnits.name_of.Given as goal

abbrev pub invariant-loop-attribute : goal.invariant-loop-attribute
invariant-loop-attribute g l =
    let view = g.R.Reader.view in
    let count = g.R.Offset.ReaderOffset.count in
    name_from_place l.holder (name_by_reference l.self most_references l.holder)
    (raw_attribute_of view count)
    (option_map view l.found) l.attributes l.attribute-index
    ≡ name_of l.self l.holder (raw_attributes view count l.attributes)
