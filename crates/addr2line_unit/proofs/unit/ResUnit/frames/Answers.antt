use Rattle.std.proofs.Common.{ℕ, List, Result, option_map, subst, ap, ◌∙◌}
use Rattle.std.specs.Prelude.{option_and_then}
use Rattle.addr2line_functions.specs.Error.{Error}
use Rattle.addr2line_functions.specs.Calls.{ReturnsAs}
use Rattle.addr2line_functions.specs.BorrowedFrames.{frames_left}
use Rattle.addr2line_functions.specs.BorrowedLocations.{location_value}
use Rattle.addr2line_functions.specs.Frames.{Frame}
use Rattle.addr2line_unit.specs.KeptFunctions.{function_at_number, frames_by_numbers}
use Rattle.addr2line_unit.specs.ResolvedUnits.{ResolvedUnit, functions_of}
use Rattle.addr2line_unit.proofs.FunctionParses.{kept_are, function_is_any}
use Rattle.addr2line_unit.proofs.unit.ResUnit.frames.Goals as goal

pub returns : goal.returns
returns g c =
    let i = c.self.inside in
    let numbers = c.as_slice-chain.result.now in
    let now = c.args.self.now in
    let files = c.args.lines.now.lines.files in
    let place = option_map location_value c.args.place in
    let P : Result (List Frame) Error → Type 0 = λ r. ReturnsAs frames_left c.frames.result r in
    subst P
    (ap (λ f. frames_by_numbers (option_map (λ l. l.0) i.language) files place f numbers)
    (function_is_any i.functions _ c.args.function
    (kept_are i.main.counted.unit i.load i.first i.functions i.probes.name
    c.self.invariant.load_is c.self.invariant.functions_are)
    c.self.invariant.functions_are.count_is)
    ∙ ap (λ (u : ResolvedUnit).
    frames_by_numbers u.value.unit.language files place
    (option_and_then (function_at_number (functions_of u.value) u.calls) c.args.function) numbers) c.self.view_is
    ∙ ap (λ (ns : List ℕ). frames_by_numbers now.value.unit.language files place
    (option_and_then (function_at_number (functions_of now.value) now.calls) c.args.function) ns)
    (c.as_slice-chain.ensures.value ∙ ap (λ (u : ResolvedUnit). u.chain) c.self.view_is))
    c.frames.ensures
