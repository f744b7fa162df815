-- What was found, and then what the attributes that are left say, is what all say.
use Rattle.std.proofs.Common.{◌≡◌, drop, map}
use Rattle.gimli_dwarf_spec.specs.AttributeValues.{raw_attribute_of}
use Rattle.gimli_dwarf_spec.specs.EntryViews.{raw_attributes}
use Rattle.gimli_dwarf.specs.RootValues.{root_values}
use Rattle.gimli_dwarf.proofs.RootValueSteps.{values_from}
use Rattle.gimli_dwarf.proofs.root.RootAttributes.read.Given as goal

abbrev pub invariant-loop-attr : goal.invariant-loop-attr
invariant-loop-attr g l =
    let view = raw_attribute_of g.R.Reader.view g.R.Offset.ReaderOffset.count in
    values_from l.found (map view (drop l.attr-index l.attrs))
    ≡ root_values (raw_attributes g.R.Reader.view g.R.Offset.ReaderOffset.count l.attrs)
