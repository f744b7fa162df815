use Rattle.std.proofs.Common.{◌≡◌, ◌++◌, ◌∷◌, [], List, ap, subst, option_map}
use Rattle.addr2line_ranges.specs.BorrowedLocations.{location_value}
use Rattle.addr2line_ranges.specs.InlinedCalls.{Call}
use Rattle.addr2line_functions.specs.BorrowedLines.{files_in}
use Rattle.addr2line_functions.specs.BorrowedFrames.{function_value, frames_left}
use Rattle.addr2line_functions.specs.CallNumbers.{calls_of_numbers}
use Rattle.addr2line_functions.proofs.FrameLists.{call_next_in, made_next, same_left}
use Rattle.addr2line_functions.proofs.frames.FrameIter.next.Goals as goal

pub returns-in-Some-last_call-clause-frame : goal.returns-in-Some-last_call-clause-frame
returns-in-Some-last_call-clause-frame g c =
    let i = c.args.self.now in
    let language = option_map (λ l. l.0) i.language in
    let here = option_map location_value i.place in
    let numbers = i.chain.now in
    let before = c.in-Some-last_call.before.now in
    let call = c.in-Some-last_call.call.now in
    let P : List Call → Type 0 =
    λ cs. calls_of_numbers cs numbers ≡ calls_of_numbers cs before ++ call ∷ [] in
    made_next _ _ _ _ _ c.next_call.ensures.frame c.next_call.ensures.left
    (same_left c.next_call.result frames_left c.next_call.new.self i c.next_call.ensures.err)
    (call_next_in language (files_in (option_map (λ l. l.now) i.lines)) here (option_map function_value i.function)
    (function_value c.in-Some.at) numbers before call (ap (option_map function_value) c.in-Some.is)
    (subst P c.calls.ensures c.in-Some-last_call.ensures))
