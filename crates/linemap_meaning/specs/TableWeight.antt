-- The weight of a table, which bounds the size of its image. It has no upper bound.
use Rattle.std.specs.Prelude.{ℕ, ◌+◌, ◌*◌, List, length, sum_by}
use Rattle.linemap_meaning.specs.TableParts.{FilePart, SequencePart, Site, Calls, no_calls, more_calls, FunctionPart, UnitPart}

abbrev pub text_weight : List ℕ → ℕ
text_weight text = 4 * length text

abbrev pub file_weight : FilePart → ℕ
file_weight f = 256 + text_weight f.directory + text_weight f.name

-- one call without the calls in it: its entry, and at most one abstract entry of its name
abbrev pub site_weight : Site → ℕ
site_weight s = 192 + 64 * length s.ranges + text_weight s.name

abbrev pub calls_weight : Calls → ℕ
calls_weight no_calls = 0
calls_weight (more_calls site inner others) =
    site_weight site + calls_weight inner + calls_weight others

abbrev pub function_weight : FunctionPart → ℕ
function_weight f = 64 + 64 * length f.ranges + text_weight f.name + calls_weight f.calls

abbrev pub sequence_weight : SequencePart → ℕ
sequence_weight s = 64 + 160 * length s.rows

abbrev pub unit_weight : UnitPart → ℕ
unit_weight u =
    1024 + 64 * length u.ranges + text_weight u.directory + text_weight u.name
    + sum_by file_weight u.files + sum_by function_weight u.functions
    + sum_by sequence_weight u.sequences

abbrev pub table_weight : List UnitPart → ℕ
table_weight us = 8192 + sum_by unit_weight us
