use Rattle.std.proofs.Common.{◌∙◌}
use Rattle.std.specs.Prelude.{codes}
use Rattle.addr2line_split.specs.LoadErrors.{text_of}
use Rattle.linemap_lookup.proofs.ProgramSteps.{line_written}
use Rattle.linemap_lookup.proofs.program.load_refused.Goals as goal

pub returns-in-Ok : goal.returns-in-Ok
returns-in-Ok g c =
    line_written _ _ _ (codes "failed to load debug info: ") c.deref.result.now (text_of c.args.error) _
    (c.deref.ensures ∙ c.in-Ok.ensures.ok) c.fail.ensures.ending c.fail.ensures.memory
