-- What a table answers for an address, and between two ends, whatever bytes, encoding and order of
-- search are used.
use Rattle.std.specs.Prelude.{ℕ, ◌+◌, ◌-◌, Bool, ◌&&◌, nat_lt, nat_le, List, [], ◌∷◌, ◌++◌, filter, find, flat_map, slice_get, Option, Some, None, option_map, option_and_then, if◌then◌else◌}
use Rattle.std.specs.List.{list_any, last_or}
use Rattle.linemap_meaning.specs.TableParts.{RangePart, RowPart, SequencePart, Site, Calls, no_calls, more_calls, FunctionPart, UnitPart}
use Rattle.linemap_meaning.specs.FileText.{file_text}
use Rattle.linemap_meaning.specs.Conditions.{span}

-- a place in the source: the file's text, if the unit has that file, with line and column. Of an
-- address it is known whether a statement is recommended to begin there, and which of several
-- blocks of the place it is; of a call neither is.
pub record Location : Type 0 where
  pub file : Option (List ℕ)
  pub line : ℕ
  pub column : ℕ
  pub statement : Option Bool
  pub discriminator : Option ℕ

-- a function or call that is running: its name and its location, each if known
pub record Frame : Type 0 where
  pub function : Option (List ℕ)
  pub location : Option Location

-- the addresses of a row: the first, their number, and their location
pub record Stretch : Type 0 where
  pub address : ℕ
  pub length : ℕ
  pub location : Location

-- ---- what holds an address

-- the address is at or above the begin and below the end
abbrev pub holds : ℕ → RangePart → Bool
holds a r = nat_le r.begin a && nat_lt a r.end

abbrev pub any_holds : ℕ → List RangePart → Bool
any_holds a rs = list_any (holds a) rs

-- the unit with a range that holds the address
abbrev pub unit_at : List UnitPart → ℕ → Option UnitPart
unit_at us a = find (λ u. any_holds a u.ranges) us

-- the function of a unit with such a range
abbrev pub function_at : UnitPart → ℕ → Option FunctionPart
function_at u a = find (λ f. any_holds a f.ranges) u.functions

-- the calls that hold the address, outermost first: the first of the list that does, and then those
-- inlined into it
abbrev pub chain : ℕ → Calls → List Site
chain a no_calls = []
chain a (more_calls site inner others) =
    if any_holds a site.ranges then site ∷ chain a inner else chain a others

-- the sequence of a unit that holds it, from its first row to its end
abbrev pub sequence_at : UnitPart → ℕ → Option SequencePart
sequence_at u a = find (λ s. any_holds a (span s)) u.sequences

-- the last row at or below the address
abbrev pub last_row : List RowPart → ℕ → Option RowPart
last_row rows a = last_or None (filter (λ r. nat_le r.address a) rows)

-- the unit's row for an address
abbrev pub row_at : UnitPart → ℕ → Option RowPart
row_at u a = option_and_then (λ s. last_row s.rows a) (sequence_at u a)

-- ---- places

-- the text of the unit's file of a number
abbrev pub file_numbered : UnitPart → ℕ → Option (List ℕ)
file_numbered u n = option_map (file_text u) (slice_get u.files n)

abbrev pub row_location : UnitPart → RowPart → Location
row_location u r =
    record {
      file = file_numbered u r.file;
      line = r.line;
      column = r.column;
      statement = Some r.statement;
      discriminator = Some r.discriminator;
    }

-- where a call was written
abbrev pub call_location : UnitPart → Site → Location
call_location u s =
    record {
      file = file_numbered u s.file;
      line = s.line;
      column = s.column;
      statement = None;
      discriminator = None;
    }

-- the place of an address in a unit
abbrev pub place_in : UnitPart → ℕ → Option Location
place_in u a = option_map (row_location u) (row_at u a)

-- the place of an address
abbrev pub location_at : List UnitPart → ℕ → Option Location
location_at us a = option_and_then (λ u. place_in u a) (unit_at us a)

-- ---- frames

abbrev pub frame : List ℕ → Option Location → Frame
frame name location = record { function = Some name; location = location }

-- the frames of a function or call, innermost first: those of the calls in it, and then its own, at
-- the site of the outermost of them, or at the address's own place where there are none
abbrev pub frames_in : UnitPart → Option Location → List ℕ → List Site → List Frame
frames_in u here name [] = frame name here ∷ []
frames_in u here name (s ∷ inside) =
    frames_in u here s.name inside ++ frame name (Some (call_location u s)) ∷ []

-- a place in no function is one frame without a function
abbrev pub frame_without_function : Option Location → List Frame
frame_without_function None = []
frame_without_function (Some l) = record { function = None; location = Some l } ∷ []

abbrev pub frames_of_function : UnitPart → ℕ → Option FunctionPart → List Frame
frames_of_function u a None = frame_without_function (place_in u a)
frames_of_function u a (Some f) = frames_in u (place_in u a) f.name (chain a f.calls)

abbrev pub frames_of_unit : ℕ → Option UnitPart → List Frame
frames_of_unit a None = []
frames_of_unit a (Some u) = frames_of_function u a (function_at u a)

-- the frames of an address, innermost call first
abbrev pub frames_at : List UnitPart → ℕ → List Frame
frames_at us a = frames_of_unit a (unit_at us a)

-- ---- two ends

-- where the code of a row ends: at the next row, or at the sequence's end
abbrev pub next_address : List RowPart → ℕ → ℕ
next_address [] end = end
next_address (r ∷ rs) end = r.address

-- the stretches of a sequence: of its rows the last of each address, up to the next
abbrev pub row_stretches : UnitPart → ℕ → List RowPart → List Stretch
row_stretches u end [] = []
row_stretches u end (r ∷ rs) =
    let next = next_address rs end in
    let later = row_stretches u end rs in
    if nat_lt r.address next
    then record { address = r.address; length = next - r.address; location = row_location u r }
    ∷ later else later

abbrev pub unit_stretches : UnitPart → List Stretch
unit_stretches u = flat_map (λ s. row_stretches u s.end s.rows) u.sequences

-- the stretch begins below the high end, and ends above the low one
abbrev pub is_between : ℕ → ℕ → Stretch → Bool
is_between low high s = nat_lt s.address high && nat_lt low (s.address + s.length)

-- a stretch inserted before the first that doesn't begin below it, so that stretches of one address
-- keep their order
abbrev pub put_in_order : Stretch → List Stretch → List Stretch
put_in_order s [] = s ∷ []
put_in_order s (t ∷ ts) =
    if nat_le s.address t.address then s ∷ t ∷ ts else t ∷ put_in_order s ts

abbrev pub in_order : List Stretch → List Stretch
in_order [] = []
in_order (s ∷ ss) = put_in_order s (in_order ss)

-- the table's stretches between two ends, ascending
abbrev pub stretches_between : List UnitPart → ℕ → ℕ → List Stretch
stretches_between us low high = in_order (filter (is_between low high) (flat_map unit_stretches us))
