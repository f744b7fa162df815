use Rattle.std.proofs.Common.{option_map}
use Rattle.gimli_dwarf.proofs.RefusedCalls.{returns_refused}
use Rattle.gimli_dwarf.specs.AttributeValues.{raw_attribute_of}
use Rattle.addr2line_names.specs.FunctionNames.{name_by_reference, most_references}
use Rattle.addr2line_names.proofs.NameSteps.{name_from_place-more, name_from_place-refused}
use Rattle.addr2line_names.proofs.names.KnownUnits.name_of.Goals as goal

pub returns-in_err-found : goal.returns-in_err-found
returns-in_err-found g c =
    returns_refused _ c.from_residual.result _ _ c.from_residual.ensures.1
    (λ ne. name_from_place-refused c.args.holder.now
    (name_by_reference c.args.self.now most_references c.args.holder.now)
    (raw_attribute_of g.R.Reader.view g.R.Offset.ReaderOffset.count)
    (option_map g.R.Reader.view c.loop-attribute.found) _ c.args.attributes.now c.loop-attribute.attribute-index
    c.attribute-item.result _ c.loop-attribute-test.true c.attribute-item.is
    (c.in_err-found.ensures ne) c.loop-attribute.invariant)

pub loop-attribute-preserved : goal.loop-attribute-preserved
loop-attribute-preserved g c =
    name_from_place-more c.args.holder.now
    (name_by_reference c.args.self.now most_references c.args.holder.now)
    (raw_attribute_of g.R.Reader.view g.R.Offset.ReaderOffset.count)
    (option_map g.R.Reader.view c.loop-attribute.found) _ c.args.attributes.now c.loop-attribute.attribute-index
    c.attribute-item.result _ c.loop-attribute-test.true c.attribute-item.is c.in_ok-found.ensures
    c.loop-attribute.invariant
