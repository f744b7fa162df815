-- The function, the calls and the frames of an address that lookups find in debug information that
-- agrees with a sound table are the table's.
use Rattle.std.specs.Prelude.{◌≡◌, ℕ, List, map, Option, option_map, Contains, Result, Ok}
use Rattle.linemap_places_laws.specs.Error.{Error}
use Rattle.linemap_places_laws.specs.Range.{Range}
use Rattle.linemap_places_laws.specs.Lines.{Lines}
use Rattle.linemap_places_laws.specs.Functions.{Function, function_at}
use Rattle.linemap_places_laws.specs.InlinedCalls.{Call, FunctionCalls, chain_at}
use Rattle.linemap_places_laws.specs.TableParts.{FunctionPart, UnitPart}
use Rattle.linemap_places_laws.specs.Conditions.{IsSound}
use Rattle.linemap_places_laws.specs.Meaning as table
use Rattle.linemap_places_laws.specs.LookupAgreement.{lookup_range, UnitAgrees, lookup_location}
use Rattle.linemap_frames_laws.specs.CallAgreement.{OneByOne, Likewise, CallsAgree, ChainAgrees, EntryAgrees, FunctionAgrees, FunctionsAgree}
use Rattle.linemap_places_laws.specs.Frames.{Frame, FunctionAt, function_of_offset_if_any, frames_of}
use Rattle.linemap_places_laws.specs.FrameLookups.{frames_at}

-- at every address, for each function
abbrev pub ChainsMeet : Type 0
ChainsMeet =
    (number : ℕ → ℕ) (us : List UnitPart) (u : UnitPart) (f : FunctionPart) (flat : List Call)
    (a : ℕ)
    → IsSound us → Contains us u → Contains u.functions f → CallsAgree number 0 f.calls flat
    → ChainAgrees number 0 (table.chain a f.calls) (chain_at flat a)

-- at every address, for each unit
abbrev pub FunctionsMeet : Type 0
FunctionsMeet =
    (number : ℕ → ℕ) (at : ℕ → Result FunctionCalls Error) (us : List UnitPart) (u : UnitPart)
    (gs : List Function) (a : ℕ)
    → IsSound us → Contains us u → FunctionsAgree number at u.functions gs
    → Likewise (FunctionAgrees number at) (table.function_at u a) (function_at gs a)

-- at every address, for each unit: the entry that lookups read is that of the table's function, if
-- there is one
abbrev pub EntriesMeet : Type 0
EntriesMeet =
    (number : ℕ → ℕ) (at : ℕ → Result FunctionCalls Error) (us : List UnitPart) (u : UnitPart)
    (gs : List Function) (a : ℕ)
    → IsSound us → Contains us u → FunctionsAgree number at u.functions gs
    → (entry : Option FunctionAt) × (function_of_offset_if_any at (function_at gs a) ≡ Ok entry)
    × Likewise (λ f x. EntryAgrees number f x.calls) (table.function_at u a) entry

-- a frame says what the table says of it, wherever its entry is
pub record FrameAgrees (f : table.Frame) (g : Frame) : Type 0 where
  pub name_is : option_map (λ n. n.name.bytes) g.function ≡ f.function
  pub location_is : g.location ≡ option_map lookup_location f.location

-- at every address, for each unit that agrees with the table's, and whose function of the address
-- does, if there is one
abbrev pub FramesMeet : Type 0
FramesMeet =
    (us : List UnitPart) (u : UnitPart) (ranges : List Range) (l : Lines)
    (agrees : UnitAgrees u ranges (Ok l)) (language : Option ℕ)
    (entry : Option FunctionAt) (a : ℕ)
    → IsSound us → Contains us u
    → Likewise (λ f x. EntryAgrees agrees.number f x.calls) (table.function_at u a) entry
    → OneByOne FrameAgrees (table.frames_of_function u a (table.function_at u a))
    (frames_of language l a entry)

-- the answer of a unit at an address is its frames there
abbrev pub UnitFramesAgree : UnitPart → ℕ → Result (List Frame) Error → Type 0
UnitFramesAgree u a answer =
    (fs : List Frame) × (answer ≡ Ok fs)
    × OneByOne FrameAgrees (table.frames_of_function u a (table.function_at u a)) fs

-- what lookups know of a unit: its ranges, and its frames at an address
abbrev pub UnitAnswerAgrees : {U : Type 0} → (U → List Range)
    → (U → ℕ → Result (List Frame) Error) → ℕ → UnitPart → U → Type 0
UnitAnswerAgrees ranges frames a u x =
    (ranges x ≡ map lookup_range u.ranges) × UnitFramesAgree u a (frames x a)

-- at every address, for the whole table
abbrev pub TablesMeet : Type 0 → Type 0
TablesMeet U =
    (ranges : U → List Range) (frames : U → ℕ → Result (List Frame) Error) (us : List UnitPart)
    (xs : List U) (a : ℕ)
    → IsSound us → OneByOne (UnitAnswerAgrees ranges frames a) us xs
    → (fs : List Frame) × (frames_at ranges frames xs a ≡ Ok fs)
    × OneByOne FrameAgrees (table.frames_at us a) fs
