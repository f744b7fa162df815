use Rattle.std.proofs.Common.{sym, ap, ◌∙◌}
use Rattle.gimli_units_forms.specs.AttributeValues.{raw_attribute_of}
use Rattle.gimli_units_entries.specs.NamedAttributes.{is_name_of}
use Rattle.gimli_units_entries.proofs.NamedAttributeLemmas.{push-named, push-other}
use Rattle.gimli_units_entries.proofs.named.push_named.Goals as goal

pub returns-then-not-is_one_of : goal.returns-then-not-is_one_of
returns-then-not-is_one_of g c =
    push-other g.R.Offset.ReaderOffset.limit c.args.names.now c.args.encoding
    (raw_attribute_of g.R.Reader.view g.R.Offset.ReaderOffset.count) _ c.args.attrs.now.items
    c.push_attribute.new.attributes.items _ _ _ _
    (ap (is_name_of c.args.names.now) (sym c.name.ensures) ∙ sym c.is_one_of.ensures ∙ c.if-not-is_one_of.true)
    c.in_ok-push_attribute.ensures.value c.push_attribute.new.attributes.ok.0 c.pop.ensures.rest

pub returns-else-not-is_one_of : goal.returns-else-not-is_one_of
returns-else-not-is_one_of g c =
    push-named g.R.Offset.ReaderOffset.limit c.args.names.now c.args.encoding _ _ _ _ _
    (ap (is_name_of c.args.names.now) (sym c.name.ensures) ∙ sym c.is_one_of.ensures ∙ c.if-not-is_one_of.false)
    c.in_ok-push_attribute.ensures.value
