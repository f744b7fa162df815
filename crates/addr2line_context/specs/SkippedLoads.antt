-- Lookups whose loads are all skipped: each load that has no answer is answered by no file.
use Rattle.std.specs.Prelude.{◌≡◌, ℕ, List, length, map, Option, Some, None, Result, Ok}
use Rattle.std.specs.Option.{option_or}
use Rattle.addr2line_lookups.specs.Error.{Error}
use Rattle.addr2line_lookups.specs.UnitFacts.{UnitInFile}
use Rattle.addr2line_lookups.specs.Frames.{Frame}
use Rattle.addr2line_lookups.specs.FirstAnswers.{FirstAnswers}
use Rattle.addr2line_lookups.specs.Lookups.{map_output, frames, unit, without_loads}
use Rattle.addr2line_lookups.specs.ContextNames.{naming_in}
use Rattle.addr2line_context.specs.AnsweredContexts.{AnsweredContext}
use Rattle.addr2line_context.specs.FrameLoads.{GivesDecided}
use Rattle.addr2line_context.specs.SettledLookups.{frames_in, unit_in}

-- the first answers, where each load that has none is answered by no file: no split unit
abbrev pub answers_without_files : FirstAnswers → FirstAnswers
answers_without_files answers = map (λ first. option_or first (Some (Ok None))) answers

-- a context with them
abbrev pub without_files : AnsweredContext → AnsweredContext
without_files c = record c { answers = answers_without_files c.answers }

-- the frames of an address in it, or out of memory
abbrev pub FindsFrames : {X : Type 0} → (X → List Frame) → AnsweredContext → ℕ
    → Result X Error → Type 0
FindsFrames see c a found = GivesDecided see found (frames_in (without_files c) a)

-- the unit of an address in it, or out of memory
abbrev pub FindsUnit : AnsweredContext → ℕ → Result (Option UnitInFile) Error → Type 0
FindsUnit c a found =
    GivesDecided (λ u. u) found (map_output (λ u. Ok u) (unit_in (without_files c) a))

-- Resumed with no file for each load that it waits for, one after the other, a lookup of frames
-- finds what it finds there.
abbrev pub SkipsToFrames : Type 0
SkipsToFrames =
    (c : AnsweredContext) (a : ℕ) → length c.answers ≡ length c.plain.context.units
    → (without_loads c.plain (λ answers. frames c.plain (naming_in c.plain) answers a) c.answers).0
    ≡ frames_in (without_files c) a

-- so does a lookup of a unit
abbrev pub SkipsToUnit : Type 0
SkipsToUnit =
    (c : AnsweredContext) (a : ℕ) → length c.answers ≡ length c.plain.context.units
    → (without_loads c.plain (λ answers. unit c.plain (naming_in c.plain) answers a) c.answers).0
    ≡ unit_in (without_files c) a
