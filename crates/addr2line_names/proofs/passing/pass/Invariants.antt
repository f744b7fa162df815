-- Those so far are passed.
use Rattle.std.proofs.Common.{◌≤◌, length, map}
use Rattle.gimli_dwarf.specs.AbbreviationViews.{attribute_view}
use Rattle.addr2line_names.specs.PassedAttributes.{Passes}
use Rattle.addr2line_names.proofs.passing.pass.Given as goal

abbrev pub invariant-loop-left : goal.invariant-loop-left
invariant-loop-left g l = record {
  passes :
      Passes g.R.Offset.ReaderOffset.limit (map attribute_view l.specifications) l.fn.entries
      (map attribute_view l.left) l.entries;
  fewer : length l.left ≤ length l.specifications;
}

abbrev pub decreases-loop-left : goal.decreases-loop-left
decreases-loop-left g l = length l.left
