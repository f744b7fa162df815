-- The copies so far, and the stretches that are left, are all; and the context's value is the same. Lines are read of
-- units between the ends alone.
use Rattle.std.proofs.Common.{◌≡◌, length, map}
use Rattle.addr2line_context.specs.ContextCosts.{AsksForRange}
use Rattle.addr2line_context.specs.Contexts.{stretches}
use Rattle.addr2line_context.specs.LocationRanges.{left_in}
use Rattle.addr2line_context.specs.Repetition.{prepend}
use Rattle.addr2line_context.specs.OwnedPlaces.{stretch_of}
use Rattle.linemap_replay.specs.CallEffects.{KeepsAndReads}
use Rattle.linemap_replay.proofs.KeptReads.{AsksBetween}
use Rattle.linemap_replay.proofs.copied_stretches.copy_stretches.Given as goal

abbrev pub invariant-item : goal.invariant-item
invariant-item g l = record {
  same_reference : l.stretches.context.ghost_name ≡ l.initial.stretches.context.ghost_name;
  value : l.stretches.context.now.value ≡ l.fn.context.value;
  between : AsksBetween l.fn.context.value l.fn.low l.fn.high l.stretches.walk;
  kept :
      KeepsAndReads (AsksForRange l.fn.context.value l.fn.low l.fn.high) (λ n. ⊥) l.fn.context.units
      l.stretches.context.now.units;
  copied :
      prepend (map stretch_of l.copies.items) (left_in l.stretches.context.now l.stretches.walk)
      ≡ stretches l.fn.context.value.plain.context l.fn.low l.fn.high;
}

abbrev pub decreases-item : goal.decreases-item
decreases-item g l = length (left_in l.stretches.context.now l.stretches.walk).items
