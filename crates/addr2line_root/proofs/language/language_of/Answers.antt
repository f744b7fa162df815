use Rattle.addr2line_ranges.specs.DwLang.{DwLang}
use Rattle.std.proofs.Common.{ℕ}
use Rattle.addr2line_ranges.specs.AttributeValues.{raw_attribute_of}
use Rattle.addr2line_ranges.specs.UnitFacts.{value_of_kind}
use Rattle.addr2line_ranges.specs.UnitRanges.{language_of, is_language}
use Rattle.addr2line_ranges.proofs.LastValueStep.{from_index-more}
use Rattle.addr2line_root.proofs.language.language_of.Goals as goal

-- the number of a language
abbrev number : DwLang → ℕ
number language = language.0

pub loop-attribute-preserved : goal.loop-attribute-preserved
loop-attribute-preserved g c =
    from_index-more (raw_attribute_of g.R.Reader.view g.R.Offset.ReaderOffset.count) number
    (value_of_kind language_of is_language)
    c.loop-attribute.found c.in_ok-language_in_attribute.field-0 _ c.args.attributes.now
    c.loop-attribute.attribute-index c.attribute-item.result _
    c.loop-attribute-test.true c.attribute-item.is c.in_ok-language_in_attribute.ensures c.or-found.ensures
    c.loop-attribute.invariant
