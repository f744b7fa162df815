-- What a lookup found: the frames at a place, or a unit.
use Rattle.std.proofs.Common.{◌≡◌, ℕ, true, List, [], ◌∷◌, Option, None, Result, Ok, Err, sym, ap, ◌∙◌}
use Rattle.addr2line_lookups.specs.Error.{Error}
use Rattle.addr2line_lookups.specs.Frames.{Frame}
use Rattle.addr2line_lookups.specs.FirstAnswers.{Lookup, output}
use Rattle.addr2line_lookups.specs.UnitFacts.{UnitInFile}
use Rattle.addr2line_lookups.specs.Lookups.{has_frames, map_output}
use Rattle.addr2line_lookups.specs.ResolvedUnits.{AnsweredUnit, ResolvedUnit}
use Rattle.addr2line_lookups.specs.KeptUnits.{KeepsAt}
use Rattle.addr2line_lookups.specs.FramePlaces.{LendsFrames, frames_at_place}
use Rattle.addr2line_lookups.specs.UnitLookups.{IsPending, FoundFrames, FoundUnit, unit_at_number}
use Rattle.addr2line_lookups.specs.declared.frame_place.FramePlace.{FramePlace}

module _ (us : List ResolvedUnit) (meaning : Lookup (Result (List Frame) Error)) (p : FramePlace) (left : List Frame)
    (lends : LendsFrames us p left) where
  by_answer : (answer : Result (List Frame) Error) → has_frames answer ≡ true → frames_at_place us p ≡ answer
      → KeepsAt us p.unit → answer ≡ Ok left
  by_answer (Ok []) some is keeps = absurd cc
  by_answer (Ok (f ∷ fs)) some is keeps = ap Ok (sym (lends keeps (f ∷ fs) is))
  by_answer (Err e) some is keeps = absurd cc

  pub frames_lent : FoundFrames us meaning p → meaning ≡ output (Ok left)
  frames_lent f =
      f.is_found ∙ ap output (by_answer f.answer f.holds.has_some f.holds.frames_are f.holds.keeps_lines)

-- the unit that a lookup found
abbrev pub ok_unit : Option UnitInFile → Result (Option UnitInFile) Error
ok_unit u = Ok u

pub unit_lent : (vs : List AnsweredUnit) (us : List ResolvedUnit) (meaning : Lookup (Option UnitInFile)) (n : ℕ)
    (u : Option UnitInFile) → FoundUnit vs us meaning n → u ≡ unit_at_number vs n
    → map_output ok_unit meaning ≡ output (Ok u)
unit_lent vs us meaning n u f is = ap (map_output ok_unit) (f.is_found ∙ ap output (sym is))

pub no_unit : (meaning : Lookup (Option UnitInFile)) → meaning ≡ output None
    → map_output ok_unit meaning ≡ output (ok_unit None)
no_unit meaning is = ap (map_output ok_unit) is

-- one that waits does so as one that may be refused
pub pending_unit : (meaning : Lookup (Option UnitInFile)) → IsPending meaning → IsPending (map_output ok_unit meaning)
pending_unit meaning h = (h.0, ap (map_output ok_unit) h.1)
