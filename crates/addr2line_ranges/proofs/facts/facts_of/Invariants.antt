-- What was found, with what the attributes that are left say, is what all say.
use Rattle.std.proofs.Common.{◌≡◌}
use Rattle.gimli_lines_rows.specs.AttributeValues.{raw_attribute_of}
use Rattle.gimli_dwarf.specs.EntryViews.{raw_attributes}
use Rattle.addr2line_index.specs.UnitRanges.{fact_of}
use Rattle.addr2line_ranges.specs.LastFacts.{facts_of}
use Rattle.addr2line_ranges.proofs.LastFactLemmas.{from_index}
use Rattle.addr2line_ranges.proofs.facts.facts_of.Given as goal

abbrev pub invariant-loop-attribute : goal.invariant-loop-attribute
invariant-loop-attribute g l =
    let view = raw_attribute_of g.R.Reader.view g.R.Offset.ReaderOffset.count in
    let limit = g.R.Offset.ReaderOffset.limit in
    from_index view (fact_of l.unit) l.found l.attributes l.attribute-index
    ≡ facts_of l.unit (raw_attributes g.R.Reader.view g.R.Offset.ReaderOffset.count l.attributes)
