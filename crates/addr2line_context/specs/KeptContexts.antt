-- A context's units with what is kept of them.
use Rattle.std.specs.Prelude.{List, map}
use Rattle.addr2line_lookups.specs.DwarfFiles.{DwarfFile}
use Rattle.addr2line_lookups.specs.UnitFacts.{UnitFacts}
use Rattle.addr2line_lookups.specs.ResolvedUnits.{ResolvedUnit, value_of_unit}
use Rattle.addr2line_lookups.specs.AnsweredUnits.{AreOfFile}
use Rattle.addr2line_lookups.specs.KeptCalls.{known_among, HoldCalls}
use Rattle.addr2line_context.specs.AnsweredContexts.{AnsweredContext}
use Rattle.addr2line_context.specs.Progresses.{PassFramesIn, PassUnitsIn, PassedAreKeptIn}
use Rattle.addr2line_context.specs.declared.progress.Progress.{Progress}

-- a context with its first answers, and its units with what was read of them and is kept
pub record ResolvedContext : Type 0 where
  pub value : AnsweredContext
  pub units : List ResolvedUnit

-- The units are those of a file, and the calls that are kept of their functions are the
-- definition's, with names that are looked for in these units and in those of the supplement. Both
-- are in the order of their offsets. The last lookup of frames found nothing in the units before
-- its index, and neither did the last lookup of a unit; the functions of these units are kept.
pub record HoldsUnits (file : DwarfFile) (supplement_units : List UnitFacts)
    (us : List ResolvedUnit) (frames unit : Progress) : Type 0 where
  pub are_of_file : AreOfFile file (map value_of_unit us)
  pub calls_are_kept : HoldCalls (known_among us supplement_units) us
  pub pass_frames : PassFramesIn supplement_units us frames.probe frames.index
  pub pass_units : PassUnitsIn supplement_units us unit.probe unit.index
  pub frames_are_kept : PassedAreKeptIn us frames.probe frames.index
  pub units_are_kept : PassedAreKeptIn us unit.probe unit.index
