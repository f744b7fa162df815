-- What follows for frames and locations, for every table.
use Rattle.std.specs.Prelude.{◌≡◌, ℕ, List, [], ◌∷◌, map, reverse, Option, Some, None, IsSome}
use Rattle.linemap_meaning.specs.TableParts.{Site, UnitPart}
use Rattle.linemap_meaning.specs.Conditions.{IsSound}
use Rattle.linemap_meaning.specs.Meaning.{Location, Frame, call_location, frames_in, frames_at, location_at, row_at, sequence_at}

-- frames carry the names of the calls, innermost first, and then the function's
abbrev pub FramesInOrder : Type 0
FramesInOrder =
    (u : UnitPart) (here : Option Location) (name : List ℕ) (calls : List Site)
    → map (λ f. f.function) (frames_in u here name calls)
    ≡ map Some (reverse (name ∷ map (λ s. s.name) calls))

-- the first frame is at the address's own location, and each next one where the call before it was
-- written
abbrev pub FramesAtCalls : Type 0
FramesAtCalls =
    (u : UnitPart) (here : Option Location) (name : List ℕ) (calls : List Site)
    → map (λ f. f.location) (frames_in u here name calls)
    ≡ (here ∷ map (λ s. Some (call_location u s)) (reverse calls))

-- the first frame of an address has the address's location
abbrev pub FirstFrame : Type 0
FirstFrame =
    (us : List UnitPart) (a : ℕ) (f : Frame) (fs : List Frame) → frames_at us a ≡ (f ∷ fs)
    → f.location ≡ location_at us a

-- an address without frames has no location
abbrev pub NoFrame : Type 0
NoFrame = (us : List UnitPart) (a : ℕ) → frames_at us a ≡ [] → location_at us a ≡ None

-- a sequence that holds an address has a row for it
abbrev pub RowThere : Type 0
RowThere = (u : UnitPart) (a : ℕ) → IsSome (sequence_at u a) → IsSome (row_at u a)

-- each location of a sound table has its file
abbrev pub FileThere : Type 0
FileThere =
    (us : List UnitPart) (a : ℕ) (l : Location) → IsSound us → location_at us a ≡ Some l
    → IsSome l.file
