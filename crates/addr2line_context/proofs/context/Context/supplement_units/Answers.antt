use Rattle.std.proofs.Common.{◌∙◌, ap}
use Rattle.addr2line_context.specs.KeptContexts.{ResolvedContext}
use Rattle.addr2line_context.proofs.context.Context.supplement_units.Goals as goal

pub returns : goal.returns
returns g c =
    c.as_slice.ensures.value ∙ ap (λ (x : ResolvedContext). x.value.plain.context.supplement_units) c.self.view_is
