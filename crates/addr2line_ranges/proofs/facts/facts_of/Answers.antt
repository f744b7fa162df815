use Rattle.std.proofs.lemmas.Result.{err_from_is_err_and}
use Rattle.gimli_lines_rows.specs.AttributeValues.{raw_attribute_of}
use Rattle.gimli_dwarf.specs.EntryViews.{raw_attributes}
use Rattle.addr2line_index.specs.UnitRanges.{fact_of}
use Rattle.addr2line_ranges.specs.LastFacts.{range_fact, facts_of}
use Rattle.addr2line_ranges.proofs.LastFactLemmas.{from_index-more, from_index-refused}
use Rattle.addr2line_ranges.proofs.facts.facts_of.Goals as goal

pub returns-in_err-fact_of : goal.returns-in_err-fact_of
returns-in_err-fact_of g c =
    let p = err_from_is_err_and c.from_residual.result c.from_residual.ensures.1 in
    rw (p.1, p.2) (λ m.
    from_index-refused (raw_attribute_of g.R.Reader.view g.R.Offset.ReaderOffset.count)
    (fact_of c.args.unit.now)
    c.loop-attribute.found c.in_err-fact_of.field-0.0 c.args.attributes.now c.loop-attribute.attribute-index
    c.attribute-item.result
    (facts_of c.args.unit.now
    (raw_attributes g.R.Reader.view g.R.Offset.ReaderOffset.count c.args.attributes.now))
    c.loop-attribute-test.true c.attribute-item.is (c.in_err-fact_of.ensures m) c.loop-attribute.invariant)

pub loop-attribute-preserved : goal.loop-attribute-preserved
loop-attribute-preserved g c =
    from_index-more (raw_attribute_of g.R.Reader.view g.R.Offset.ReaderOffset.count)
    (fact_of c.args.unit.now)
    c.loop-attribute.found c.take.new.self
    (range_fact g.R.Offset.ReaderOffset.count c.in_ok-fact_of.field-0) c.args.attributes.now
    c.loop-attribute.attribute-index c.attribute-item.result _
    c.loop-attribute-test.true c.attribute-item.is c.in_ok-fact_of.ensures c.take.ensures c.loop-attribute.invariant
