-- The stretches between two ends that an iterator over a loader has left, and what each call of it
-- does.
use Rattle.std.specs.Prelude.{◌≡◌, ℕ, Option, Result}
use Rattle.std.specs.Borrow.{MutBor}
use Rattle.addr2line_context.specs.Error.{Error}
use Rattle.addr2line_context.specs.Lines.{Stretch}
use Rattle.addr2line_context.specs.Location.{Location}
use Rattle.addr2line_context.specs.RangeItems.{stretch_of_item}
use Rattle.addr2line_context.specs.RangeWalk.{RangeWalk}
use Rattle.addr2line_context.specs.RangeWalks.{stretches_left}
use Rattle.addr2line_context.specs.Repetition.{Listing}
use Rattle.addr2line_context.specs.StretchesLeft.{StretchComesNext}
use Rattle.addr2line_loader.specs.ResolvedFiles.{ResolvedFile, AfterStretch}

-- the stretches that are left of a walk over the units of a file
abbrev pub left_in : ResolvedFile → RangeWalk → Listing (Unit {0}) Stretch
left_in f w = stretches_left f.file.context.context.units w

-- What an iterator's next item leaves of it: it holds the same loader, as a step of its walk leaves
-- it, and what was left is the item, and then what is left now.
pub record MovesOn (result : Result (Option (ℕ × ℕ × Location)) Error)
    (old : MutBor ResolvedFile) (old_walk : RangeWalk) (new : MutBor ResolvedFile)
    (new_walk : RangeWalk) : Type 0 where
  pub same_reference : new.ghost_name ≡ old.ghost_name
  pub item : StretchComesNext stretch_of_item result (left_in old.now old_walk)
      (left_in new.now new_walk)
  pub after : AfterStretch result old_walk new_walk old.now new.now
