use Rattle.std.proofs.Common.{refl, ◌∙◌}
use Rattle.gimli_units_forms.proofs.AfterLemmas.{read_values_are_skipped, skip_leaves_as_read}
use Rattle.gimli_units_forms.proofs.skipping.skip_attributes.Goals as goal

pub returns-in_err-count-clause-as_read : goal.returns-in_err-count-clause-as_read
returns-in_err-count-clause-as_read g c = λ limit all rest h.
    absurd (read_values_are_skipped limit _ _ all _ rest _ h c.in_err-count.ensures.value)

pub returns-clause-as_read : goal.returns-clause-as_read
returns-clause-as_read g c = λ limit all rest h.
    (refl, c.advance.ensures ∙ skip_leaves_as_read limit _ _ all _ _ rest h c.in_ok-count.ensures.value)
