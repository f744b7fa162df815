use Rattle.std.proofs.Common.{◌≡◌, length}
use Rattle.std.specs.Prelude.{map}
use Rattle.gimli_core_abbrev.specs.AbbreviationViews.{attribute_view}
use Rattle.gimli_units_forms.specs.SkippingLaws.{BeginsWithLook, skip_bytes_and_values}
use Rattle.gimli_units_forms.proofs.skipping.skip_bytes_and_values.Given as goal

-- What is left to skip, with the run before it, is what was to be skipped.
abbrev pub invariant-loop-left : goal.invariant-loop-left
invariant-loop-left g l = record {
  same : skip_bytes_and_values l.run l.encoding (map attribute_view l.left) (g.R.Reader.view l.place)
      ≡ skip_bytes_and_values l.count l.encoding (map attribute_view l.specifications)
      (g.R.Reader.view l.initial.place);
  looks : BeginsWithLook l.encoding (map attribute_view l.left);
}

abbrev pub decreases-loop-left : goal.decreases-loop-left
decreases-loop-left g l = length l.left
