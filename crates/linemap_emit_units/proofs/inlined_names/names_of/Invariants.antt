-- With the names of the calls in the functions that are left, the names are all.
use Rattle.std.proofs.Common.{◌≡◌, [], drop, map}
use Rattle.gimli_lines_write_tables.specs.StringSections.{IsText}
use Rattle.linemap_emit_programs.specs.TableViews.{function_part}
use Rattle.linemap_emit_units.specs.InlinedNames.{called_names, with_texts, FunctionNamesAre}
use Rattle.linemap_emit_units.proofs.inlined_names.names_of.Given as goal

abbrev pub invariant-loop-function : goal.invariant-loop-function
invariant-loop-function l =
    FunctionNamesAre IsText (map function_part (drop l.function-index l.functions))
    × (with_texts l.names (called_names (map function_part (drop l.function-index l.functions)))
    ≡ with_texts [] (called_names (map function_part l.functions)))
