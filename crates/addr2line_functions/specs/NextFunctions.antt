-- The functions of a unit, one entry after the other.
use Rattle.std.specs.Prelude.{ℕ, List, Option, Some, None, Result, Ok, if◌then◌else◌}
use Rattle.gimli_units_entries.specs.Error.{Error}
use Rattle.gimli_units_entries.specs.Parsers.{Step, ◌>>=◌, lift}
use Rattle.gimli_units_entries.specs.EntryWalks.{Walk}
use Rattle.gimli_units_entries.specs.EntryRows.{Row, row_choosing, rows}
use Rattle.gimli_units_entries.specs.Results.{and_then}
use Rattle.addr2line_names.specs.UnitFacts.{UnitInFile}
use Rattle.addr2line_ranges.specs.Functions.{Function, is_subprogram, has_range, function_of, functions_of_rows}

-- a function that has a range
abbrev pub if_has_range : Function → Option Function
if_has_range f = if has_range f then Some f else None

-- the function of a row, if it is one that has a range
abbrev pub function_of_row : UnitInFile → Row → Result (Option Function) Error
function_of_row u r =
    if is_subprogram r.tag then and_then (function_of u r) (λ f. Ok (if_has_range f))
    else Ok None

-- that of the next row
abbrev pub next_function : ℕ → UnitInFile → Step Walk (Option Function)
next_function limit u =
    row_choosing limit is_subprogram >>= λ r. lift (function_of_row u r)

-- the functions of the rows to come
abbrev pub functions_from : ℕ → UnitInFile → Walk → Result (List Function) Error
functions_from limit u w = functions_of_rows u (rows limit is_subprogram w)
