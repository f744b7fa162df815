use Rattle.std.proofs.Common.{option_map}
use Rattle.gimli_units_entries.proofs.RefusedCalls.{returns_refused}
use Rattle.gimli_units_entries.specs.AttributeValues.{raw_attribute_of}
use Rattle.addr2line_functions.proofs.NameFolds.{name_from_place-more, name_from_place-refused, name_from_place-end}
use Rattle.addr2line_functions.proofs.naming.name_by.Goals as goal

pub returns-in_err-take_name : goal.returns-in_err-take_name
returns-in_err-take_name g c =
    returns_refused _ c.from_residual.result _ _ c.from_residual.ensures.1
    (λ m. name_from_place-refused (g.N.Names.naming c.args.names.now)
    (raw_attribute_of g.R.Reader.view g.R.Offset.ReaderOffset.count)
    (option_map g.R.Reader.view c.loop-attribute.found) _ c.args.attributes.now c.loop-attribute.attribute-index
    c.attribute-item.result _ c.loop-attribute-test.true c.attribute-item.is
    (c.in_err-take_name.ensures m) c.loop-attribute.invariant)

pub loop-attribute-preserved : goal.loop-attribute-preserved
loop-attribute-preserved g c =
    name_from_place-more (g.N.Names.naming c.args.names.now)
    (raw_attribute_of g.R.Reader.view g.R.Offset.ReaderOffset.count)
    (option_map g.R.Reader.view c.loop-attribute.found) _ c.args.attributes.now c.loop-attribute.attribute-index
    c.attribute-item.result _ c.loop-attribute-test.true c.attribute-item.is c.in_ok-take_name.ensures
    c.loop-attribute.invariant

pub returns : goal.returns
returns g c =
    name_from_place-end (g.N.Names.naming c.args.names.now)
    (raw_attribute_of g.R.Reader.view g.R.Offset.ReaderOffset.count)
    (option_map g.R.Reader.view c.loop-attribute.found) c.args.attributes.now c.loop-attribute.attribute-index _
    c.loop-attribute-test.false c.loop-attribute.invariant
