-- Functions and frames that borrow from what is kept of a unit, as contracts see them.
use Rattle.std.specs.Prelude.{ℕ, List, Option, Some, None, option_map}
use Rattle.addr2line_ranges.specs.BorrowedLocations.{location_value}
use Rattle.addr2line_ranges.specs.Lines.{Location}
use Rattle.addr2line_ranges.specs.Frames.{Frame, FunctionAt as FunctionPart, frames_in, frame_without_function}
use Rattle.addr2line_functions.specs.BorrowedLines.{files_in}
use Rattle.addr2line_functions.specs.CallNumbers.{calls_of_numbers}
use Rattle.addr2line_functions.specs.declared.function_at.FunctionAt.{FunctionAt}
use Rattle.addr2line_functions.specs.declared.frames.FrameIter.{FrameIter}

-- a function that holds an address, with its calls
abbrev pub function_value : {R E O : Type 0} → FunctionAt R E O → FunctionPart
function_value f = record { offset = f.function.now.offset; calls = f.calls.now.function }

-- the frames of a function and of the calls of these numbers in it, at a place
abbrev pub frames_of_calls : Option ℕ → List (List ℕ) → Option Location → FunctionPart → List ℕ
    → List Frame
frames_of_calls language files here f numbers =
    frames_in language files here f.offset f.calls.name (calls_of_numbers f.calls.calls numbers)

-- the same in a function or in none
abbrev pub frames_at_place : Option ℕ → List (List ℕ) → Option Location → Option FunctionPart
    → List ℕ → List Frame
frames_at_place language files here None numbers = frame_without_function here
frames_at_place language files here (Some f) numbers =
    frames_of_calls language files here f numbers

-- the frames that remain, the innermost first
abbrev pub frames_left : {R E O : Type 0} → FrameIter R E O → List Frame
frames_left i =
    frames_at_place (option_map (λ l. l.0) i.language)
    (files_in (option_map (λ l. l.now) i.lines))
    (option_map location_value i.place) (option_map function_value i.function) i.chain.now
