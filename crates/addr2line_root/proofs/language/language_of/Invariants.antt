-- What was found, or else what the attributes that are left give, is what all give.
use Rattle.std.proofs.Common.{◌≡◌}
use Rattle.addr2line_ranges.specs.AttributeValues.{raw_attribute_of}
use Rattle.addr2line_ranges.specs.EntryViews.{raw_attributes}
use Rattle.addr2line_ranges.specs.UnitFacts.{value_of_kind}
use Rattle.addr2line_ranges.specs.UnitRanges.{language_of, is_language, language_in}
use Rattle.addr2line_ranges.proofs.LastAttributes.{from_index}
use Rattle.addr2line_root.proofs.language.language_of.Given as goal

abbrev pub invariant-loop-attribute : goal.invariant-loop-attribute
invariant-loop-attribute g l =
    let view = raw_attribute_of g.R.Reader.view g.R.Offset.ReaderOffset.count in
    from_index view (λ language. language.0)
    (value_of_kind language_of is_language) l.found l.attributes l.attribute-index
    ≡ language_in (raw_attributes g.R.Reader.view g.R.Offset.ReaderOffset.count l.attributes)
