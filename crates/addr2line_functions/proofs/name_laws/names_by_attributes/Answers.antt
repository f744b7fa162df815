use Rattle.std.proofs.Common.{◌≡◌, List, [], ◌∷◌, Option, Some, None, Result, Ok, Err, refl, sym, ◌∙◌}
use Rattle.gimli_units_entries.specs.Error.{Error}
use Rattle.gimli_units_entries.specs.View.{View}
use Rattle.gimli_units_entries.specs.AttributeValues.{RawValue, RawAttribute}
use Rattle.gimli_units_entries.specs.Results.{and_then}
use Rattle.addr2line_ranges.specs.InlinedCalls.{name_by}
use Rattle.addr2line_names.specs.EntryReferences.{HoldingUnit}
use Rattle.addr2line_names.specs.FunctionNames.{name_with, name_by_reference, most_references}
use Rattle.addr2line_names.proofs.NameSteps.{name_from, name_from-first}
use Rattle.addr2line_functions.specs.ContextNames.{known_units, holding_unit}
use Rattle.addr2line_functions.proofs.name_laws.names_by_attributes.Goals as goal

module _ (h : HoldingUnit) (follow : RawValue → Result (Option View) Error) where
  at_end : (found : Option View) → name_by (name_with h follow) found [] ≡ name_from h follow found []
  at_end None = refl
  at_end (Some name) = refl

  then_same : (r : Result (Option View) Error) (f g : Option View → Result (Option View) Error)
      → ((name : Option View) → f name ≡ g name) → and_then r f ≡ and_then r g
  then_same (Ok name) f g same = same name
  then_same (Err e) f g same = refl

  one_by_one : (found : Option View) (attributes : List RawAttribute)
      → name_by (name_with h follow) found attributes ≡ name_from h follow found attributes
  one_by_one found [] = at_end found
  one_by_one found (a ∷ others) =
      then_same (name_with h follow found a) (λ name. name_by (name_with h follow) name others)
      (λ name. name_from h follow name others) (λ name. one_by_one name others)
      ∙ sym (name_from-first h follow found a others)

pub returns : goal.returns
returns _ c f attributes =
    one_by_one (holding_unit f) (name_by_reference (known_units c) most_references (holding_unit f)) None attributes
