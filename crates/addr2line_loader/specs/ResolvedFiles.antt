-- A loaded file with what is kept of its units, and what lookups leave of that.
use Rattle.std.specs.Prelude.{◌≡◌, ℕ, List, map, Result}
use Rattle.addr2line_context.specs.AnsweredContexts.{AnsweredContext}
use Rattle.addr2line_context.specs.ContextCosts.{location_looks, AsksForPlace, AsksForFrames, AfterReading, AfterStep}
use Rattle.addr2line_context.specs.Error.{Error}
use Rattle.addr2line_context.specs.KeptContexts.{ResolvedContext}
use Rattle.addr2line_context.specs.KeptUnits.{KeepsMore, KeepMoreFunctions, ReadsAsked, ReadsAskedFunctions}
use Rattle.addr2line_context.specs.LookupCosts.{counters_of}
use Rattle.addr2line_context.specs.ResolvedUnits.{ResolvedUnit}
use Rattle.addr2line_context.specs.RangeWalk.{RangeWalk}
use Rattle.addr2line_loader.specs.LoadedFiles.{LoadedFile}

-- a loaded file, and its units with what was read of them and is kept
pub record ResolvedFile : Type 0 where
  pub file : LoadedFile
  pub units : List ResolvedUnit

-- the context of a loaded file, with the first answers
abbrev pub answered_context : LoadedFile → AnsweredContext
answered_context f = record { plain = f.context; answers = f.answers }

-- the same with what is kept
abbrev pub resolved_context : ResolvedFile → ResolvedContext
resolved_context f = record { value = answered_context f.file; units = f.units }

-- ---- what a lookup leaves

-- After a lookup of the place of an address, with this result, the file is what it was, and its
-- context is as `Context::find_location` leaves it: unless out of memory, the lines of the units
-- that the lookup asks are kept; it reads no others.
pub record AfterPlace {A : Type 0} (a : ℕ) (result : Result A Error) (old new : ResolvedFile)
    : Type 0 where
  pub file : new.file ≡ old.file
  pub context : AfterReading (AsksForPlace (answered_context old.file) a)
      (location_looks (answered_context old.file) a) result
      (resolved_context old) (resolved_context new)

-- the same after a step of a walk between two ends
pub record AfterStretch {A : Type 0} (result : Result A Error) (old_walk new_walk : RangeWalk)
    (old new : ResolvedFile) : Type 0 where
  pub file : new.file ≡ old.file
  pub context : AfterStep result old_walk new_walk (resolved_context old) (resolved_context new)

-- Lookups of the frames of an address, which leave a context of this value, read lines and
-- functions of no units but those that a lookup asks then. Lines, functions and calls that were
-- kept are kept still, so that no line number program is run again. Each unit has the counters that
-- it had.
pub record ReadsForFrames (c : AnsweredContext) (a : ℕ) (old new : List ResolvedUnit) : Type 0 where
  pub counters : map counters_of new ≡ map counters_of old
  pub lines : KeepsMore old new
  pub functions : KeepMoreFunctions old new
  pub reads : ReadsAsked (AsksForFrames c a) old new
  pub reads_functions : ReadsAskedFunctions (AsksForFrames c a) old new
