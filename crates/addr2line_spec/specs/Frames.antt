-- The frames of an address: the calls that are inlined there, and the function that they are
-- inlined into (DWARF 5, 3.3 and 3.3.8).
use Rattle.std.specs.Prelude.{ℕ, ◌==◌, List, [], ◌∷◌, ◌++◌, slice_get, Option, Some, None, option_map, option_and_then, Result, Ok, if◌then◌else◌}
use Rattle.gimli_lines_machine.specs.Error.{Error}
use Rattle.gimli_lines_machine.specs.View.{View}
use Rattle.gimli_lines_machine.specs.Results.{some_of, ◌>>=◌}
use Rattle.gimli_dwarf_spec.specs.UnitFacts.{UnitInFile}
use Rattle.addr2line_spec.specs.Lines.{Lines, Location, place_in}
use Rattle.addr2line_spec.specs.Functions.{Function, functions_of_unit, function_at}
use Rattle.addr2line_spec.specs.InlinedCalls.{Call, FunctionCalls, Naming, calls_of_function, chain_at}

-- the name of a function, and the language of its unit, where that is known
pub record FunctionName : Type 0 where
  pub name : View
  pub language : Option ℕ

-- One function or call at work: the offset of its entry in the unit, its name, and its place, each
-- if known.
pub record Frame : Type 0 where
  pub offset : Option ℕ
  pub function : Option FunctionName
  pub location : Option Location

-- ---- one function

-- a line or a column that is known, which 0 is not
abbrev pub nonzero : ℕ → Option ℕ
nonzero n = if n == 0 then None else Some n

-- the place that calls, in the files of the unit's lines
abbrev pub call_site : List (List ℕ) → Call → Location
call_site files c =
    record {
      file = option_and_then (slice_get files) c.file;
      line = nonzero c.line;
      column = nonzero c.column;
      statement = None;
      discriminator = None;
    }

abbrev pub function_name : Option ℕ → Option View → Option FunctionName
function_name language name = option_map (λ n. record { name = n; language = language }) name

abbrev pub frame : Option ℕ → ℕ → Option View → Option Location → Frame
frame language offset name location =
    record { offset = Some offset; function = function_name language name; location = location }

-- The frames of a function or a call with the calls that an address is in there, the outermost
-- first: those of the calls, and then its own, at the place that calls the outermost of them, or at
-- the address's own where there is none.
abbrev pub frames_in : Option ℕ → List (List ℕ) → Option Location → ℕ → Option View
    → List Call → List Frame
frames_in language files here offset name [] = frame language offset name here ∷ []
frames_in language files here offset name (c ∷ inside) =
    frames_in language files here c.offset c.name inside
    ++ frame language offset name (Some (call_site files c)) ∷ []

-- a place in no function is one frame without a function
abbrev pub frame_without_function : Option Location → List Frame
frame_without_function None = []
frame_without_function (Some l) = record { offset = None; function = None; location = Some l } ∷ []

-- ---- one unit

-- a function that was found: the offset of its entry, and its name with its calls
pub record FunctionAt : Type 0 where
  pub offset : ℕ
  pub calls : FunctionCalls

-- that of the entry at an offset, where this is found at entries
abbrev pub function_of_offset : (ℕ → Result FunctionCalls Error) → ℕ
    → Result FunctionAt Error
function_of_offset at offset = do
  calls ← at offset
  Ok (record { offset = offset; calls = calls })

abbrev pub function_of_offset_if_any : (ℕ → Result FunctionCalls Error) → Option Function
    → Result (Option FunctionAt) Error
function_of_offset_if_any at None = Ok None
function_of_offset_if_any at (Some f) = some_of (function_of_offset at f.offset)

-- the function of an address in a unit, with its calls
abbrev pub function_with_calls : UnitInFile → Naming → ℕ
    → Result (Option FunctionAt) Error
function_with_calls u naming a = do
  fs ← functions_of_unit u
  function_of_offset_if_any (calls_of_function u naming) (function_at fs a)

-- the frames of an address in a unit of a language, from its lines
abbrev pub frames_of : Option ℕ → Lines → ℕ → Option FunctionAt → List Frame
frames_of language l a None = frame_without_function (place_in l a)
frames_of language l a (Some f) =
    frames_in language l.files (place_in l a) f.offset f.calls.name (chain_at f.calls.calls a)

-- The frames of an address in a unit, innermost call first. Refused by its functions, by the
-- function that holds the address, or by its lines, in this order.
abbrev pub frames_of_unit : UnitInFile → Naming → Option ℕ → Result Lines Error → ℕ
    → Result (List Frame) Error
frames_of_unit u naming language lines a = do
  f ← function_with_calls u naming a
  l ← lines
  Ok (frames_of language l a f)
