use Rattle.std.proofs.Common.{◌∙◌, ap, option_map}
use Rattle.addr2line_root.proofs.HolderViews.{map-now}
use Rattle.addr2line_unit.specs.KeptFunctions.{plain_functions}
use Rattle.addr2line_unit.specs.ResolvedUnits.{ResolvedUnit, functions_of, if_kept}
use Rattle.addr2line_unit.proofs.FunctionParses.{kept_are, kept_functions_are}
use Rattle.addr2line_unit.proofs.unit.ResUnit.kept_functions.Goals as goal

pub returns : goal.returns
returns g c =
    let i = c.self.inside in
    map-now plain_functions c.functions.result
    ∙ ap (option_map plain_functions) c.functions.ensures
    ∙ kept_functions_are i.functions.functions _
    (kept_are i.main.counted.unit i.load i.first i.functions i.probes.name
    c.self.invariant.load_is c.self.invariant.functions_are)
    ∙ ap (λ (u : ResolvedUnit). if_kept u.keeps_functions (functions_of u.value)) c.self.view_is
