use Rattle.std.proofs.Common.{◌≡◌, ◌≤◌, length}
use Rattle.std.specs.Prelude.{map}
use Rattle.gimli_core_abbrev.specs.AbbreviationViews.{attribute_view}
use Rattle.gimli_units_forms.specs.SkippingLaws.{skip_bytes_and_values}
use Rattle.gimli_units_forms.proofs.skipping.run_to_look.Given as goal

-- The values that were passed are in the run.
abbrev pub invariant-loop-left : goal.invariant-loop-left
invariant-loop-left g l = record {
  same : skip_bytes_and_values l.run l.encoding (map attribute_view l.left) (g.R.Reader.view l.place)
      ≡ skip_bytes_and_values l.initial.run l.encoding (map attribute_view l.specifications) (g.R.Reader.view l.place);
  fewer : length l.left ≤ length l.specifications;
}

abbrev pub decreases-loop-left : goal.decreases-loop-left
decreases-loop-left g l = length l.left
