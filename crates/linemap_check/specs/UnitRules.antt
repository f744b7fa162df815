-- The rules, a unit at a time.
use Rattle.std.specs.Prelude.{Bool, false}
use Rattle.linemap_meaning.specs.TableParts.{UnitPart}
use Rattle.linemap_meaning.specs.Conditions.{has_empty_range, has_out_of_bounds, has_no_range, has_function_outside, has_functions_overlap, has_call_outside, has_calls_overlap, has_sequence_outside, has_sequences_overlap, has_sequence_with_bad_rows, has_bad_line_or_column, has_bad_file_number, has_bad_text, is_not_rooted, has_deep_calls, has_bad_discriminator}
use Rattle.linemap_meaning.specs.declared.rule.Rule.{Rule}
use Rattle.linemap_meaning.specs.declared.rule.Rule.TheVariants.{EmptyRange, Bounds, NoRange, UnitsOverlap, FunctionOutside, FunctionsOverlap, CallOutside, CallsOverlap, SequenceOutside, SequencesOverlap, Rows, LineOrColumn, FileNumber, Text, NotRooted, Nesting, Discriminator}

-- the unit breaks the rule by itself
abbrev pub unit_breaks : Rule → UnitPart → Bool
unit_breaks EmptyRange u = has_empty_range u
unit_breaks Bounds u = has_out_of_bounds u
unit_breaks NoRange u = has_no_range u
unit_breaks UnitsOverlap u = false
unit_breaks FunctionOutside u = has_function_outside u
unit_breaks FunctionsOverlap u = has_functions_overlap u
unit_breaks CallOutside u = has_call_outside u
unit_breaks CallsOverlap u = has_calls_overlap u
unit_breaks SequenceOutside u = has_sequence_outside u
unit_breaks SequencesOverlap u = has_sequences_overlap u
unit_breaks Rows u = has_sequence_with_bad_rows u
unit_breaks LineOrColumn u = has_bad_line_or_column u
unit_breaks FileNumber u = has_bad_file_number u
unit_breaks Text u = has_bad_text u
unit_breaks NotRooted u = is_not_rooted u
unit_breaks Nesting u = has_deep_calls u
unit_breaks Discriminator u = has_bad_discriminator u
