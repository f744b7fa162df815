use Rattle.addr2line_names.proofs.PassedSteps.{passes_others}
use Rattle.addr2line_names.proofs.passing.skip.Goals as goal

pub returns-clause-passes : goal.returns-clause-passes
returns-clause-passes g c =
    passes_others _ _ _ _ _ _ c.naming_names-names.ensures c.skip_other_attributes.ensures.passes
