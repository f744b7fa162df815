-- The functions of a unit (DWARF 5, 3.3).
use Rattle.std.specs.Prelude.{ℕ, ◌==◌, Bool, not, List, length, filter, Option, option_map, Result, Ok}
use Rattle.gimli_lines_machine.specs.Error.{Error}
use Rattle.gimli_lines_machine.specs.Repetition.{Listing, fault_of}
use Rattle.gimli_lines_machine.specs.TheConstants.{DW_TAG_subprogram}
use Rattle.gimli_lines_machine.specs.Range.{Range}
use Rattle.gimli_dwarf_spec.specs.EntryWalks.{Walk}
use Rattle.gimli_dwarf_spec.specs.EntryRows.{Row, rows}
use Rattle.gimli_dwarf_spec.specs.UnitEntries.{walk_before}
use Rattle.gimli_lines_machine.specs.Results.{unless, each, ◌>>=◌}
use Rattle.gimli_dwarf_spec.specs.UnitFacts.{UnitInFile}
use Rattle.addr2line_spec.specs.Choice.{holder}
use Rattle.addr2line_spec.specs.Pairs.{Pair, pairs_from}
use Rattle.addr2line_spec.specs.EntryRanges.{ranges_of_entry}

-- ---- functions

-- a function: the offset of its entry in the unit, and its ranges
pub record Function : Type 0 where
  pub offset : ℕ
  pub ranges : List Range

-- the tag of a function (DWARF 5, 7.5.3)
abbrev pub is_subprogram : ℕ → Bool
is_subprogram tag = tag == DW_TAG_subprogram.0

-- a function of an entry, or the refusal of its ranges
abbrev pub function_of : UnitInFile → Row → Result Function Error
function_of u r = do
  rs ← ranges_of_entry u r.attributes
  Ok (record { offset = r.offset; ranges = rs })

abbrev pub has_range : Function → Bool
has_range f = not (length f.ranges == 0)

-- The functions among rows, those that have a range, or the first refusal by place: of a function's
-- ranges, or of what ends the rows.
abbrev pub functions_of_rows : UnitInFile → Listing Walk Row
    → Result (List Function) Error
functions_of_rows u l = do
  fs ← each (function_of u) (filter (λ r. is_subprogram r.tag) l.items)
  unless (fault_of l) (Ok (filter has_range fs))

-- those of a unit, whose other entries are skipped
abbrev pub functions_of_unit : UnitInFile → Result (List Function) Error
functions_of_unit u =
    functions_of_rows u
    (rows u.file.offset_limit is_subprogram
    (walk_before u.facts.header u.facts.table u.facts.header.entries))

-- ---- the function of an address

abbrev pub ranges_of_function : Function → List Range
ranges_of_function f = f.ranges

-- each range with its function, in order of appearance
abbrev pub function_ranges : List Function → List (Pair Function)
function_ranges fs = pairs_from ranges_of_function 0 fs

-- the range that holds an address, with its function
abbrev pub range_at : List Function → ℕ → Option (Pair Function)
range_at fs a = holder (λ p. p.range) a (function_ranges fs)

-- the function of an address, and its number
abbrev pub function_at : List Function → ℕ → Option Function
function_at fs a = option_map (λ p. p.unit) (range_at fs a)

abbrev pub function_number : List Function → ℕ → Option ℕ
function_number fs a = option_map (λ p. p.number) (range_at fs a)
