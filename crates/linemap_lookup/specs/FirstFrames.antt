-- Frames that are taken one after the other, until there is none or memory for one is refused.
use Rattle.std.specs.Prelude.{◌≡◌, ℕ, Bool, false, List, [], ◌∷◌, ◌++◌, Option, Some, None}
use Rattle.addr2line_context.specs.Frames.{Frame}
use Rattle.linemap_output.specs.declared.options.Options.{Options}
use Rattle.linemap_lookup.specs.FrameTexts.{frames_text, outer_frames_text}

-- these are the first of the frames, and all of them unless one was refused
pub record AreFirstFrames (all frames : List Frame) (is_refused : Bool) : Type 0 where
  pub rest : List Frame
  pub whole : frames ++ rest ≡ all
  pub ends : is_refused ≡ false → rest ≡ []

-- The next of the frames that are left, or none: then none is left, or one was refused.
abbrev pub TakesNext : {A : Type 0} → (A → Frame) → Option A → List Frame → Bool → List Frame
    → Bool → Type 0
TakesNext see (Some x) old old_refused new new_refused =
    (old ≡ see x ∷ new) × (new_refused ≡ old_refused)
TakesNext see None old old_refused new new_refused =
    (new ≡ old) × AreFirstFrames new [] new_refused

-- the text grows by that of a frame after the first, and of those after it that were read
pub record PrintsOuter (o : Options) (symbol : Option (List ℕ)) (f : Frame) (left : List Frame)
    (is_refused : Bool) (old new : List ℕ) : Type 0 where
  pub frames : List Frame
  pub are_first : AreFirstFrames left frames is_refused
  pub text : new ≡ old ++ outer_frames_text o symbol (f ∷ frames)

-- the text grows by that of all frames that were read
pub record PrintsFrames (o : Options) (symbol : Option (List ℕ)) (all : List Frame)
    (is_refused : Bool) (old new : List ℕ) : Type 0 where
  pub frames : List Frame
  pub are_first : AreFirstFrames all frames is_refused
  pub text : new ≡ old ++ frames_text o symbol frames
