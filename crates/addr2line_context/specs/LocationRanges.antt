-- The stretches between two ends that an iterator has left, and what each call of it does.
use Rattle.std.specs.Prelude.{◌≡◌, ℕ, Option, Result}
use Rattle.std.specs.Borrow.{MutBor}
use Rattle.addr2line_lookups.specs.Error.{Error}
use Rattle.addr2line_lookups.specs.Repetition.{Listing}
use Rattle.addr2line_lookups.specs.Lines.{Stretch}
use Rattle.addr2line_lookups.specs.Location.{Location}
use Rattle.addr2line_lookups.specs.StretchesLeft.{StretchComesNext}
use Rattle.addr2line_lookups.specs.RangeWalks.{stretches_left}
use Rattle.addr2line_lookups.specs.declared.range_walk.RangeWalk.{RangeWalk}
use Rattle.addr2line_context.specs.KeptContexts.{ResolvedContext}
use Rattle.addr2line_context.specs.ContextCosts.{AfterStep}
use Rattle.addr2line_context.specs.RangeItems.{stretch_of_item}

-- the stretches that are left of a walk over the units of a context
abbrev pub left_in : ResolvedContext → RangeWalk → Listing (Unit {0}) Stretch
left_in c w = stretches_left c.value.plain.context.units w

-- What an iterator's next item leaves of it: it holds the same context, of which more lines may be
-- kept, those of units that it asked for this item, and what was left is the item, and then what is
-- left now.
pub record MovesOn (result : Result (Option (ℕ × ℕ × Location)) Error)
    (old : MutBor ResolvedContext) (old_walk : RangeWalk) (new : MutBor ResolvedContext)
    (new_walk : RangeWalk) : Type 0 where
  pub same_reference : new.ghost_name ≡ old.ghost_name
  pub item : StretchComesNext stretch_of_item result (left_in old.now old_walk)
      (left_in new.now new_walk)
  pub after : AfterStep result old_walk new_walk old.now new.now
