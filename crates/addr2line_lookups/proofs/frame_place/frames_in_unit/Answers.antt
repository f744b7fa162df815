use Rattle.std.proofs.Common.{List, None, Some, Ok, Option, Result, refl, sym, ap, ◌∙◌, subst}
use Rattle.std.specs.Prelude.{option_and_then}
use Rattle.addr2line_unit.specs.Error.{Error}
use Rattle.addr2line_unit.specs.Calls.{ReturnsAs}
use Rattle.addr2line_unit.specs.BorrowedFrames.{frames_left}
use Rattle.addr2line_unit.specs.LineIndexes.{CountedLines}
use Rattle.addr2line_unit.specs.Lines.{Lines, Location}
use Rattle.addr2line_unit.specs.Frames.{Frame}
use Rattle.addr2line_unit.specs.KeptFunctions.{function_at_number, frames_by_numbers}
use Rattle.addr2line_unit.specs.ResolvedUnits.{functions_of}
use Rattle.addr2line_lookups.proofs.FoundFrames.{lines_are, lines_refused, lines_there, frames_with_lines, frames_refused}
use Rattle.addr2line_lookups.proofs.frame_place.frames_in_unit.Goals as goal

abbrev ok_lines : CountedLines → Result Lines Error
ok_lines l = Ok l.lines

pub returns-in-Some-Ok : goal.returns-in-Some-Ok
returns-in-Some-Ok g c = λ keeps.
    let u = c.args.unit.now in
    let place = c.args.place in
    let chain = u.chain in
    let kept = c.in-Some-Ok.lines in
    let l = c.index-lines.result.now in
    let P : Result (List Frame) Error → Type 0 = λ m. ReturnsAs frames_left c.frames.result m in
    let Q : Option Location → Type 0 = λ here.
    ReturnsAs frames_left c.frames.result
    (frames_by_numbers u.value.unit.language l.lines.files here
    (option_and_then (function_at_number (functions_of u.value) u.calls) place.function) chain) in
    subst P
    (sym (frames_with_lines u place chain l.lines
    (lines_are u keeps _ c.in-Some-Ok.ensures kept (ap Some c.in-Some-Ok.field-0-is)
    ∙ ap ok_lines (sym c.index-lines.ensures))))
    (subst Q c.location_of_row-here.ensures c.frames.ensures)

pub returns-in-Some-Err : goal.returns-in-Some-Err
returns-in-Some-Err g c = λ keeps.
    let u = c.args.unit.now in
    frames_refused u c.args.place u.chain _
    (lines_refused u keeps _ c.in-Some-Err.ensures _ (ap Some c.in-Some-Err.field-0-is))

pub returns-in-None : goal.returns-in-None
returns-in-None g c = λ keeps. absurd (lines_there c.args.unit.now keeps None c.in-None.ensures refl)
