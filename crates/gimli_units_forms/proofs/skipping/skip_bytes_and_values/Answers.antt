use Rattle.std.proofs.Common.{arith, sym, ◌∙◌, ap}
use Rattle.std.specs.Prelude.{map}
use Rattle.std.proofs.lemmas.List.{drop_all}
use Rattle.gimli_core_abbrev.specs.AbbreviationViews.{attribute_view}
use Rattle.gimli_units_forms.specs.AttributeSkipping.{way_of}
use Rattle.gimli_units_forms.proofs.SkippingLemmas.{ReturnsAs-equal, skip_ways-end}
use Rattle.gimli_units_forms.proofs.skipping.skip_bytes_and_values.Goals as goal

pub returns : goal.returns
returns g c =
    let none_left = ap (λ ss. map (λ s. way_of c.args.encoding s.form) (map attribute_view ss))
    (drop_all 0 c.loop-left.left.now (omega (arith, c.in_default.len_below))) in
    ReturnsAs-equal _ _ _ _ (sym (skip_ways-end _ _ _ none_left) ∙ c.loop-left.invariant.same) c.skip_run.ensures
