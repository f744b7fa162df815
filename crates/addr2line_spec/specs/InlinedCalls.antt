-- The calls that are inlined into a function (DWARF 5, 3.3.8).
use Rattle.std.specs.Prelude.{ℕ, ℤ, pos, ◌+◌, ◌-◌, ◌%◌, ◌^◌, ◌==◌, ◌&&◌, not, nat_lt, max, int_lt, Bool, List, [], ◌∷◌, ◌++◌, length, map, filter, Option, Some, None, option_map, option_and_then, unwrap_or, Result, Ok, Err, if◌then◌else◌}
use Rattle.std.specs.List.{filter_map, last_or, list_any, range_with_len}
use Rattle.gimli_lines_machine.specs.Error.{Error}
use Rattle.gimli_lines_machine.specs.View.{View, bytes_left}
use Rattle.gimli_lines_machine.specs.Parsers.{Step}
use Rattle.gimli_lines_machine.specs.Repetition.{Listing, listing_in, fault_of}
use Rattle.gimli_lines_machine.specs.TheConstants.{DW_TAG_inlined_subroutine, DW_AT_call_file, DW_AT_call_line, DW_AT_call_column}
use Rattle.gimli_lines_machine.specs.Range.{Range}
use Rattle.gimli_dwarf_spec.specs.AttributeMeanings.{unsigned_of}
use Rattle.gimli_dwarf_spec.specs.AttributeValues.{RawAttribute}
use Rattle.gimli_dwarf_spec.specs.EntryWalks.{Walk}
use Rattle.gimli_dwarf_spec.specs.EntryRows.{Row, row, row_choosing, not_null}
use Rattle.gimli_dwarf_spec.specs.UnitEntries.{walk_from}
use Rattle.gimli_lines_machine.specs.Results.{unless, each, ◌>>=◌}
use Rattle.gimli_dwarf_spec.specs.UnitFacts.{UnitInFile}
use Rattle.addr2line_spec.specs.Choice.{holder}
use Rattle.addr2line_spec.specs.Pairs.{Pair, pairs_from}
use Rattle.addr2line_spec.specs.EntryRanges.{ranges_of_facts}
use Rattle.addr2line_spec.specs.Functions.{is_subprogram}
use Rattle.addr2line_spec.specs.UnitRanges.{RangeFact, fact_of, list_in, last_of}

-- ---- enclosing entries

-- the tag of a call (DWARF 5, 7.5.3)
abbrev pub is_inlined : ℕ → Bool
is_inlined tag = tag == DW_TAG_inlined_subroutine.0

-- The entries that enclose one of a depth, from those before it, both the nearest first: the
-- nearest that is less deep, and those that enclose that one.
abbrev pub enclosing_rows : ℤ → List Row → List Row
enclosing_rows depth [] = []
enclosing_rows depth (r ∷ before) =
    if int_lt r.depth depth then r ∷ enclosing_rows r.depth before else enclosing_rows depth before

-- an entry below a function's, and the entries between them that enclose it, the nearest first
pub record NestedEntry : Type 0 where
  pub row : Row
  pub outer : List Row

-- an entry in these is one of a nested function
abbrev pub is_nested : List Row → Bool
is_nested outer = list_any (λ r. is_subprogram r.tag) outer

-- a call of the function itself
abbrev pub is_call_in : List Row → ℕ → Bool
is_call_in outer tag = not (is_nested outer) && is_inlined tag

abbrev pub is_call : NestedEntry → Bool
is_call b = is_call_in b.outer b.row.tag

-- how many of the enclosing entries are calls
abbrev pub calls_above : List Row → ℕ
calls_above outer = length (filter (λ r. is_inlined r.tag) outer)

-- ---- the entries below a function's

-- a walk below a function: the entries to come, and those before them, the nearest first
pub record FunctionWalk : Type 0 where
  pub walk : Walk
  pub before : List Row

abbrev pub entry_of_row : FunctionWalk → Result (Row × Walk) Error
    → Result (Option NestedEntry × FunctionWalk) Error
entry_of_row i (Ok r) =
    Ok (
      Some (record { row = r.0; outer = enclosing_rows i.walk.depth i.before }),
      record { walk = r.1; before = r.0 ∷ i.before },
    )
entry_of_row i (Err e) = Err e

-- the next entry, read where it is a call of the function, else skipped; none where the function's
-- own level is reached
abbrev pub entry_below : ℕ → Step FunctionWalk (Option NestedEntry)
entry_below limit i =
    if int_lt (pos 0) i.walk.depth
    then entry_of_row i
    (row_choosing limit (is_call_in (enclosing_rows i.walk.depth i.before)) i.walk)
    else Ok (None, i)

-- all of them, and what ends them: the end of the function's level, or the fault of an entry, also
-- where the unit ends before
unfoldable pub entries_below : ℕ → FunctionWalk → Listing FunctionWalk NestedEntry
entries_below limit i =
    listing_in (λ (x : FunctionWalk). bytes_left x.walk.rest) (entry_below limit) i

-- those after the function's entry, which is at depth 0
abbrev pub entries_of : ℕ → Walk → Listing FunctionWalk NestedEntry
entries_of limit w = entries_below limit (record { walk = w; before = [] })

-- ---- calls

-- A call: how many others enclose it, the offset of its entry in the unit, its ranges, the name of
-- the function that is called, and the place that calls: the number of a file, a line and a column,
-- 0 where they aren't known.
pub record Call : Type 0 where
  pub depth : ℕ
  pub offset : ℕ
  pub ranges : List Range
  pub name : Option View
  pub file : Option ℕ
  pub line : ℕ
  pub column : ℕ

-- ---- names (DWARF 5, 7.5.4)

abbrev pub is_call_file : ℕ → Bool
is_call_file n = n == DW_AT_call_file.0

abbrev pub is_call_line : ℕ → Bool
is_call_line n = n == DW_AT_call_line.0

abbrev pub is_call_column : ℕ → Bool
is_call_column n = n == DW_AT_call_column.0

-- the unsigned number of the last attribute of a name that has one
abbrev pub unsigned_in : (ℕ → Bool) → RawAttribute → Option ℕ
unsigned_in is_name a = if is_name a.name then unsigned_of a.value else None

abbrev pub last_unsigned : (ℕ → Bool) → List RawAttribute → Option ℕ
last_unsigned is_name attributes = last_or None (filter_map (unsigned_in is_name) attributes)

-- a file's number; before version 5 the number 0 stands for none
abbrev pub file_number : ℕ → ℕ → Option ℕ
file_number version n = if nat_lt version 5 && n == 0 then None else Some n

abbrev pub call_file : ℕ → List RawAttribute → Option ℕ
call_file version attributes =
    option_and_then (file_number version) (last_unsigned is_call_file attributes)

-- lines and columns are numbers of 32 bits
abbrev pub number_or_0 : (ℕ → Bool) → List RawAttribute → ℕ
number_or_0 is_name attributes = unwrap_or (last_unsigned is_name attributes) 0 % 2 ^ 32

-- ---- names and facts, attribute by attribute

-- how a name is found: that of an entry with some attributes and one more, from what those give
abbrev pub Naming : Type 0
Naming = Option View → RawAttribute → Result (Option View) Error

-- the name by further attributes, or the first refusal
abbrev pub name_by : Naming → Option View → List RawAttribute → Result (Option View) Error
name_by naming name [] = Ok name
name_by naming name (a ∷ rest) = do
  more ← naming name a
  name_by naming more rest

-- what attributes say of a call: the name of the function that is called, and its ranges
pub record CallFacts : Type 0 where
  pub name : Option View
  pub ranges : List RangeFact

abbrev pub no_call_facts : CallFacts
no_call_facts = record { name = None; ranges = [] }

-- with one more attribute, whose name is refused before its fact
abbrev pub with_attribute : UnitInFile → Naming → CallFacts → RawAttribute → Result CallFacts Error
with_attribute u naming facts a = do
  name ← naming facts.name a
  fact ← fact_of u a
  Ok (record { name = name; ranges = facts.ranges ++ fact ∷ [] })

-- with further attributes, or the first refusal
abbrev pub call_facts : UnitInFile → Naming → CallFacts → List RawAttribute
    → Result CallFacts Error
call_facts u naming facts [] = Ok facts
call_facts u naming facts (a ∷ rest) = do
  more ← with_attribute u naming facts a
  call_facts u naming more rest

-- The call of an entry of a depth, or the first refusal of its attributes, in their order, or else
-- that of its range list.
abbrev pub call_at : UnitInFile → Naming → ℕ → Row → Result Call Error
call_at u naming depth r = do
  facts ← call_facts u naming no_call_facts r.attributes
  rs ← ranges_of_facts u facts.ranges (last_of list_in facts.ranges)
  Ok (record {
    depth = depth;
    offset = r.offset;
    ranges = rs;
    name = facts.name;
    file = call_file u.facts.header.encoding.version r.attributes;
    line = number_or_0 is_call_line r.attributes;
    column = number_or_0 is_call_column r.attributes;
  })

abbrev pub call_of : UnitInFile → Naming → NestedEntry → Result Call Error
call_of u naming b = call_at u naming (calls_above b.outer) b.row

-- The calls among entries, or the first refusal by place: of a call, or of what ends the entries.
abbrev pub calls_among : UnitInFile → Naming → Listing FunctionWalk NestedEntry
    → Result (List Call) Error
calls_among u naming l = do
  cs ← each (call_of u naming) (filter is_call l.items)
  unless (fault_of l) (Ok cs)

-- ---- a function with its calls

-- the name of a function, and the calls that are inlined into it, in order of appearance, whatever
-- encloses each
pub record FunctionCalls : Type 0 where
  pub name : Option View
  pub calls : List Call

-- a function whose entry is read
abbrev pub function_calls : UnitInFile → Naming → Row → Walk
    → Result FunctionCalls Error
function_calls u naming r w = do
  name ← name_by naming None r.attributes
  calls ← calls_among u naming (entries_of u.file.offset_limit w)
  Ok (record { name = name; calls = calls })

abbrev pub calls_of_row : UnitInFile → Naming → ℕ → Result (Row × Walk) Error
    → Result FunctionCalls Error
calls_of_row u naming offset (Err e) = Err e
calls_of_row u naming offset (Ok r) = do
  row ← not_null offset r.0
  function_calls u naming row r.1

-- The function whose entry is at an offset of a unit: refused by the walk from there or by its own
-- entry, its name, or its calls.
abbrev pub calls_of_function : UnitInFile → Naming → ℕ → Result FunctionCalls Error
calls_of_function u naming offset = do
  w ← walk_from u.facts.header u.facts.table (Some offset)
  calls_of_row u naming offset (row u.file.offset_limit w)

-- ---- the calls of an address

abbrev pub ranges_of_call : Call → List Range
ranges_of_call c = c.ranges

-- each range of the calls of a depth with its call, in order of appearance, whatever encloses the
-- calls
abbrev pub call_ranges : ℕ → List Call → List (Pair Call)
call_ranges depth cs = filter (λ p. p.unit.depth == depth) (pairs_from ranges_of_call 0 cs)

-- the call of a depth that holds an address
abbrev pub call_at_depth : List Call → ℕ → ℕ → Option Call
call_at_depth cs a depth =
    option_map (λ p. p.unit) (holder (λ p. p.range) a (call_ranges depth cs))

-- the first depth that no call has
abbrev pub depth_count : List Call → ℕ
depth_count [] = 0
depth_count (c ∷ cs) = max (c.depth + 1) (depth_count cs)

-- the values before the first that is missing
abbrev pub up_to_none : {A : Type 0} → List (Option A) → List A
up_to_none [] = []
up_to_none (None ∷ os) = []
up_to_none (Some x ∷ os) = x ∷ up_to_none os

-- the calls that hold an address at a depth, the next one, and so on, as long as there is one
abbrev pub chain_from : List Call → ℕ → ℕ → List Call
chain_from cs a depth =
    up_to_none (map (call_at_depth cs a) (range_with_len depth (depth_count cs - depth)))

-- the calls that an address is in, the outermost first
abbrev pub chain_at : List Call → ℕ → List Call
chain_at cs a = chain_from cs a 0
