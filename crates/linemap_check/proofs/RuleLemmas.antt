-- The rules, a unit at a time.
use Rattle.std.proofs.Common.{◌≡◌, ◌||◌, List, [], ◌∷◌, flat_map, map, refl, ap, ◌∙◌}
use Rattle.std.proofs.lemmas.List.Folds.{list_any-append, flat_map-map}
use Rattle.std.specs.List.{list_any}
use Rattle.linemap_meaning.specs.TableParts.{RangePart, FunctionPart, UnitPart}
use Rattle.linemap_meaning.specs.Conditions.{any_outside, is_outside, span, breaks}
use Rattle.linemap_meaning.specs.TableViews.{range_part, function_part, sequence_part}
use Rattle.linemap_meaning.specs.declared.rule.Rule.{Rule}
use Rattle.linemap_meaning.specs.declared.rule.Rule.TheVariants.{EmptyRange, Bounds, NoRange, UnitsOverlap, FunctionOutside, FunctionsOverlap, CallOutside, CallsOverlap, SequenceOutside, SequencesOverlap, Rows, LineOrColumn, FileNumber, Text, NotRooted, Nesting, Discriminator}
use Rattle.linemap_meaning.specs.declared.table.TableFunction.{TableFunction}
use Rattle.linemap_meaning.specs.declared.table.TableSequence.{TableSequence}
use Rattle.linemap_check.specs.UnitRules.{unit_breaks}

-- functions with a range outside, all at once
pub any_outside_functions : (parent : List RangePart) (fs : List TableFunction)
    → any_outside parent (flat_map (λ f. map range_part f.ranges.items) fs)
    ≡ list_any (λ f. any_outside parent f.ranges) (map function_part fs)
any_outside_functions parent [] = refl
any_outside_functions parent (f ∷ fs) =
    list_any-append (is_outside parent) (map range_part f.ranges.items)
    (flat_map (λ f. map range_part f.ranges.items) fs)
    ∙ ap (λ b. any_outside parent (map range_part f.ranges.items) || b) (any_outside_functions parent fs)

pub function_ranges : (fs : List TableFunction)
    → flat_map (λ f. f.ranges) (map function_part fs) ≡ flat_map (λ f. map range_part f.ranges.items) fs
function_ranges fs = flat_map-map (λ (f : FunctionPart). f.ranges) function_part fs

pub sequence_spans : (ss : List TableSequence)
    → flat_map span (map sequence_part ss) ≡ flat_map (λ s. span (sequence_part s)) ss
sequence_spans ss = flat_map-map span sequence_part ss

-- but for the overlaps of units each rule is broken by a unit
pub breaks_units : (us : List UnitPart) (rule : Rule) → (rule ≡ UnitsOverlap → ⊥)
    → breaks us rule ≡ list_any (unit_breaks rule) us
breaks_units us UnitsOverlap other = absurd (other refl)
breaks_units us EmptyRange other = refl
breaks_units us Bounds other = refl
breaks_units us NoRange other = refl
breaks_units us FunctionOutside other = refl
breaks_units us FunctionsOverlap other = refl
breaks_units us CallOutside other = refl
breaks_units us CallsOverlap other = refl
breaks_units us SequenceOutside other = refl
breaks_units us SequencesOverlap other = refl
breaks_units us Rows other = refl
breaks_units us LineOrColumn other = refl
breaks_units us FileNumber other = refl
breaks_units us Text other = refl
breaks_units us NotRooted other = refl
breaks_units us Nesting other = refl
breaks_units us Discriminator other = refl
