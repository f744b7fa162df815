use Rattle.std.proofs.Common.{◌∙◌, ap, sym, option_map}
use Rattle.addr2line_root.proofs.HolderViews.{map-now}
use Rattle.addr2line_unit.specs.KeptFunctions.{kept_at, plain_calls}
use Rattle.addr2line_unit.specs.ResolvedUnits.{ResolvedUnit}
use Rattle.addr2line_unit.proofs.FunctionParses.{kept_at-map}
use Rattle.addr2line_unit.proofs.unit.ResUnit.kept_calls.Goals as goal

pub returns : goal.returns
returns g c =
    map-now plain_calls c.calls.result
    ∙ ap (option_map plain_calls) c.calls.ensures
    ∙ sym (kept_at-map plain_calls c.self.inside.functions.calls c.args.function)
    ∙ ap (λ (u : ResolvedUnit). kept_at u.calls c.args.function) c.self.view_is
