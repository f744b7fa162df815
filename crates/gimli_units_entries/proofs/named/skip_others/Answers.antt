use Rattle.std.proofs.Common.{map, ap, ◌∙◌}
use Rattle.gimli_units_forms.specs.AbbreviationViews.{attribute_view}
use Rattle.gimli_units_entries.specs.NamedAttributes.{named_attributes}
use Rattle.gimli_units_entries.proofs.PassedAttributeLemmas.{named-passed}
use Rattle.gimli_units_entries.proofs.named.skip_others.Goals as goal

pub returns-clause-same : goal.returns-clause-same
returns-clause-same g c limit wide =
    let left = map attribute_view c.run_of_others-run.result.1.now in
    ap (named_attributes limit c.args.names.now c.args.encoding left) c.advance.ensures
    ∙ named-passed _ _ _ _ _ _ _ (c.run_of_others-run.ensures.passes limit wide)
