-- With the names of the calls that are left, the names are all.
use Rattle.std.proofs.Common.{◌≡◌, drop}
use Rattle.gimli_lines_write_tables.specs.StringSections.{IsText}
use Rattle.linemap_emit_programs.specs.TableViews.{calls_part}
use Rattle.linemap_emit_units.specs.InlinedNames.{call_names, with_texts, NamesAre}
use Rattle.linemap_emit_units.proofs.inlined_names.+add_names.Given as goal

abbrev pub invariant-loop-call : goal.invariant-loop-call
invariant-loop-call l =
    NamesAre IsText (calls_part (drop l.call-index l.calls))
    × (with_texts l.names (call_names (calls_part (drop l.call-index l.calls)))
    ≡ with_texts l.fn.names (call_names (calls_part l.calls)))
