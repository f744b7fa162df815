use Rattle.std.proofs.Common.{ap, ◌∙◌, option_map, slice_get}
use Rattle.addr2line_lookups.specs.ResolvedUnits.{runs_of_unit}
use Rattle.addr2line_context.specs.KeptContexts.{ResolvedContext}
use Rattle.addr2line_context.proofs.context.Context.line_runs.Goals as goal

pub returns-clause-runs : goal.returns-clause-runs
returns-clause-runs g c =
    c.runs_at.ensures.runs
    ∙ ap (λ us. option_map runs_of_unit (slice_get us c.number.result))
    (c.as_slice.ensures ∙ ap (λ (x : ResolvedContext). x.units) c.self.view_is)
    ∙ ap (λ n. option_map runs_of_unit (slice_get c.args.self.now.units n)) c.number.ensures
