use Rattle.std.proofs.Common.{◌∙◌, ap, subst, sym, ℕ, ◌≤◌}
use Rattle.gimli_units_entries.specs.View.{bytes_left}
use Rattle.gimli_units_entries.specs.EntryWalks.{Walk}
use Rattle.addr2line_functions.specs.NextFunctions.{functions_from}
use Rattle.addr2line_functions.proofs.OtherEntrySteps.{others_within}
use Rattle.addr2line_functions.proofs.FunctionEntrySteps.{is_function, functions-found}
use Rattle.addr2line_functions.proofs.functions.find_function.Goals as goal

pub returns-clause-functions : goal.returns-clause-functions
returns-clause-functions g c =
    λ u. ap (functions_from g.R.Offset.ReaderOffset.limit u) c.skip_others.ensures
    ∙ functions-found g.R.Offset.ReaderOffset.limit u _ c.args.entries.now

pub returns-clause-within : goal.returns-clause-within
returns-clause-within g c =
    let P : Walk → Type 0 = λ x. bytes_left x.rest ≤ bytes_left c.args.entries.now.rest in
    subst P (sym c.skip_others.ensures) (others_within is_function _ c.args.entries.now)
