use Rattle.std.proofs.Common.{arith, rules, sym, ◌∙◌}
use Rattle.gimli_units_forms.proofs.WayWidths.{way_width}
use Rattle.gimli_units_forms.proofs.SkippingLemmas.{skip_ways-width}
use Rattle.gimli_units_forms.proofs.skipping.widened.Goals as goal

pub returns : goal.returns
returns g c = λ ways.
    skip_ways-width _ _ c.from.result _ ways _ c.checked_add.result _
    (omega (arith, c.as_bytes-bytes.ensures.indexable.length_fits)) (c.requires ∙ sym (way_width _ _)) (search rules)
    c.checked_add.ensures
    c.ok_or.ensures.value
