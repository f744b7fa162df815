use Rattle.std.proofs.Common.{◌≡◌, length}
use Rattle.gimli_units_entries.specs.OtherEntries.{is_tag_of}
use Rattle.gimli_units_entries.proofs.others.is_one_of.Given as goal

-- none of the tags so far is it
abbrev pub invariant-loop-left : goal.invariant-loop-left
invariant-loop-left l = is_tag_of l.left l.tag.0 ≡ is_tag_of l.tags l.tag.0

abbrev pub decreases-loop-left : goal.decreases-loop-left
decreases-loop-left l = length l.left
