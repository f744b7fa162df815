use Rattle.std.proofs.Common.{◌∙◌, ap, option_map, None}
use Rattle.gimli_units_entries.proofs.RefusedCalls.{returns_refused}
use Rattle.gimli_units_entries.specs.AttributeValues.{raw_attribute_of}
use Rattle.gimli_units_entries.specs.EntryViews.{raw_attributes}
use Rattle.addr2line_functions.proofs.CallFactSteps.{last_from, from_start, last_from_place-more, name-refused, fact-refused, last_from_place-end}
use Rattle.addr2line_functions.proofs.call_facts.call_facts.Goals as goal

pub loop-attribute-init : goal.loop-attribute-init
loop-attribute-init g c =
    let naming = g.N.Names.naming c.args.names.now in
    let attributes = raw_attributes g.R.Reader.view g.R.Offset.ReaderOffset.count c.args.attributes.now in
    ap (λ last. last_from c.args.unit.now naming None last attributes) c.none-ranges.ensures
    ∙ from_start c.args.unit.now naming attributes

pub returns-in_err-take_name : goal.returns-in_err-take_name
returns-in_err-take_name g c =
    returns_refused _ c.from_residual.result _ _ c.from_residual.ensures.1
    (λ m. name-refused c.args.unit.now (g.N.Names.naming c.args.names.now)
    (raw_attribute_of g.R.Reader.view g.R.Offset.ReaderOffset.count)
    (option_map g.R.Reader.view c.loop-attribute.name) c.loop-attribute.ranges _ c.args.attributes.now
    c.loop-attribute.attribute-index c.attribute-item.result _ c.loop-attribute-test.true c.attribute-item.is
    (c.in_err-take_name.ensures m) c.loop-attribute.invariant)

pub returns-in_err-take_fact : goal.returns-in_err-take_fact
returns-in_err-take_fact g c =
    returns_refused _ c.from_residual-in_err-take_fact.result _ _ c.from_residual-in_err-take_fact.ensures.1
    (λ m. fact-refused c.args.unit.now (g.N.Names.naming c.args.names.now)
    (raw_attribute_of g.R.Reader.view g.R.Offset.ReaderOffset.count)
    (option_map g.R.Reader.view c.loop-attribute.name) _ c.loop-attribute.ranges _ c.args.attributes.now
    c.loop-attribute.attribute-index c.attribute-item.result _ c.loop-attribute-test.true c.attribute-item.is
    c.in_ok-take_name.ensures (c.in_err-take_fact.ensures m) c.loop-attribute.invariant)

pub loop-attribute-preserved : goal.loop-attribute-preserved
loop-attribute-preserved g c =
    last_from_place-more c.args.unit.now (g.N.Names.naming c.args.names.now)
    (raw_attribute_of g.R.Reader.view g.R.Offset.ReaderOffset.count)
    (option_map g.R.Reader.view c.loop-attribute.name) _ c.loop-attribute.ranges _ c.args.attributes.now
    c.loop-attribute.attribute-index c.attribute-item.result _ c.loop-attribute-test.true c.attribute-item.is
    c.in_ok-take_name.ensures c.in_ok-take_fact.ensures c.loop-attribute.invariant

pub returns : goal.returns
returns g c =
    last_from_place-end c.args.unit.now (g.N.Names.naming c.args.names.now)
    (raw_attribute_of g.R.Reader.view g.R.Offset.ReaderOffset.count)
    (option_map g.R.Reader.view c.loop-attribute.name) c.loop-attribute.ranges c.args.attributes.now
    c.loop-attribute.attribute-index _ c.loop-attribute-test.false c.loop-attribute.invariant
