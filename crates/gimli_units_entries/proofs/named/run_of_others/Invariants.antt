use Rattle.std.proofs.Common.{ℕ, ◌^◌, ◌≤◌, length, map}
use Rattle.gimli_core_base.specs.View.{after, bytes_left}
use Rattle.gimli_units_forms.specs.AbbreviationViews.{attribute_view}
use Rattle.gimli_units_forms.specs.AttributeReading.{attributes}
use Rattle.gimli_units_entries.specs.NamedAttributes.{PassesOthers}
use Rattle.gimli_units_entries.proofs.named.run_of_others.Given as goal

-- the run so far is of attributes with other names
abbrev pub invariant-loop-left : goal.invariant-loop-left
invariant-loop-left g l = record {
  passes : (limit : ℕ) → 2 ^ 32 ≤ limit
      → PassesOthers l.names (attributes limit l.encoding) (map attribute_view l.specifications) l.place
      (map attribute_view l.left) (after l.run l.place);
  within : l.run ≤ bytes_left l.place;
  fewer : length l.left ≤ length l.specifications;
}

abbrev pub decreases-loop-left : goal.decreases-loop-left
decreases-loop-left g l = length l.left
