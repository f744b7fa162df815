-- The stretches that are kept so far, and those that are left, are all that were left before.
use Rattle.std.proofs.Common.{◌≡◌, ◌≤◌, ◌-◌, length, map}
use Rattle.addr2line_context.specs.OwnedPlaces.{stretch_of}
use Rattle.addr2line_context.specs.Repetition.{prepend}
use Rattle.addr2line_c.specs.Answers.{SameButWalk, left_of}
use Rattle.addr2line_c.proofs.open_file.OpenFile.next_stretches.Given as goal

abbrev pub invariant-stretch : goal.invariant-stretch
invariant-stretch l =
    SameButWalk l.fn.self l.self
    × (left_of l.fn.self ≡ prepend (map stretch_of l.self.stretches.items) (left_of l.self))
    × (length l.self.stretches.items ≤ l.fn.count)

abbrev pub decreases-stretch : goal.decreases-stretch
decreases-stretch l = l.fn.count - length l.self.stretches.items
