-- Where the frames of an address are: the unit of a number, a function of it with the calls that
-- the address is in, and a row of its lines.
use Rattle.std.specs.Prelude.{◌≡◌, ◌≢◌, ℕ, true, List, [], slice_get, Option, Some, None, option_map, option_and_then, Result, Ok, Err}
use Rattle.addr2line_unit.specs.Error.{Error}
use Rattle.addr2line_unit.specs.Error.TheVariants.{Memory, NoSuchUnit}
use Rattle.addr2line_unit.specs.Results.{◌>>=◌}
use Rattle.addr2line_unit.specs.Lines.{LineRow, row_location}
use Rattle.addr2line_unit.specs.Frames.{Frame, frames_of_unit}
use Rattle.addr2line_unit.specs.Lookups.{has_frames}
use Rattle.addr2line_unit.specs.EntryReferences.{KnownUnits}
use Rattle.addr2line_unit.specs.KeptFunctions.{function_at_number, frames_by_numbers}
use Rattle.addr2line_unit.specs.ResolvedUnits.{ResolvedUnit, AnsweredUnit, main_unit, first_answer, unit_of_functions, functions_of}
use Rattle.addr2line_unit.specs.ContextNames.{naming_from}
use Rattle.addr2line_lookups.specs.KeptUnits.{KeepsAt}
use Rattle.addr2line_lookups.specs.declared.frame_place.FramePlace.{FramePlace}

-- ---- what a unit answers

-- the frames of an address in a unit, under what decides it
abbrev pub frames_of_answered : KnownUnits → ℕ → AnsweredUnit → Result (List Frame) Error
frames_of_answered known a v = do
  holder ← unit_of_functions (main_unit v) (first_answer v)
  frames_of_unit holder.unit (naming_from known holder) v.unit.language v.unit.lines a

abbrev pub frames_of_any : KnownUnits → ℕ → Option AnsweredUnit → Result (List Frame) Error
frames_of_any known a None = Ok []
frames_of_any known a (Some v) = frames_of_answered known a v

-- those in the unit of a number
abbrev pub frames_at_number : KnownUnits → List AnsweredUnit → ℕ → ℕ → Result (List Frame) Error
frames_at_number known vs a n = frames_of_any known a (slice_get vs n)

-- ---- places

-- a place with a function or a row
abbrev pub place_if_any : ℕ → Option ℕ → Option LineRow → Option FramePlace
place_if_any n None None = None
place_if_any n None (Some row) = Some (record { unit = n; function = None; row = Some row })
place_if_any n (Some k) row = Some (record { unit = n; function = Some k; row = row })

-- the frames at a place in a unit, by the numbers of the calls there
abbrev pub frames_in_unit : FramePlace → List ℕ → ResolvedUnit → Result (List Frame) Error
frames_in_unit p chain u = do
  l ← u.value.unit.lines
  frames_by_numbers u.value.unit.language l.files (option_map (row_location l.files) p.row)
      (option_and_then (function_at_number (functions_of u.value) u.calls) p.function) chain

-- those in a unit that is there, by the numbers that were found last
abbrev pub frames_in_any : FramePlace → Option ResolvedUnit → Result (List Frame) Error
frames_in_any p None = Err NoSuchUnit
frames_in_any p (Some u) = frames_in_unit p u.chain u

-- those at a place in the unit that it names
abbrev pub frames_at_place : List ResolvedUnit → FramePlace → Result (List Frame) Error
frames_at_place us p = frames_in_any p (slice_get us p.unit)

-- The frames at a place, some, are what is answered, and the lines of its unit are kept.
pub record HoldsFrames (us : List ResolvedUnit) (answer : Result (List Frame) Error)
    (p : FramePlace) : Type 0 where
  pub frames_are : frames_at_place us p ≡ answer
  pub has_some : has_frames answer ≡ true
  pub keeps_lines : KeepsAt us p.unit

-- A unit answers the frames at the place that was found, or else none, or its refusal.
abbrev pub FindsFrames : List ResolvedUnit → Result (List Frame) Error
    → Result (Option FramePlace) Error → Type 0
FindsFrames us answer (Ok None) = answer ≡ Ok []
FindsFrames us answer (Ok (Some p)) = HoldsFrames us answer p
FindsFrames us answer (Err e) = e ≢ Memory → answer ≡ Err e

-- These are the frames at a place, if there are some, where the lines of its unit are kept.
abbrev pub LendsFrames : List ResolvedUnit → FramePlace → List Frame → Type 0
LendsFrames us p lent =
    KeepsAt us p.unit → (fs : List Frame) → frames_at_place us p ≡ Ok fs → lent ≡ fs
