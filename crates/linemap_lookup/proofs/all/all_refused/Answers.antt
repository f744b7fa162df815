use Rattle.std.proofs.Common.{◌∙◌}
use Rattle.std.specs.Prelude.{codes}
use Rattle.gimli_core_base.specs.ErrorText.{error_text}
use Rattle.linemap_lookup.proofs.ProgramSteps.{line_written}
use Rattle.linemap_lookup.proofs.all.all_refused.Goals as goal

pub returns-in-Ok : goal.returns-in-Ok
returns-in-Ok g c =
    line_written _ _ _ (codes "failed to find all addresses: ") c.deref.result.now (error_text c.args.error) _
    (c.deref.ensures ∙ c.in-Ok.ensures.ok) c.fail.ensures.ending c.fail.ensures.memory
