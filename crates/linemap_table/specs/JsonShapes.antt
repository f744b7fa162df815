-- Which part of a table a JSON value holds: each object has exactly the keys that are named here,
-- but for those of a row that may be missing, each with a value of its kind.
use Rattle.std.specs.Prelude.{ℕ, ◌+◌, ◌==◌, List, [], ◌∷◌, codes, Bool, true, false, Option, Some, None, option_and_then, if◌then◌else◌}
use Rattle.std.specs.Option.{option_map_or}
use Rattle.std.specs.Ordering.{nat_cmp, match_ordering}
use Rattle.std.specs.Cmp.Lexicographic.{slice_cmp}
use Rattle.serde_json.specs.Data.{Data, null, boolean, number, string, array, object, Items, no_items, item, Members, no_members, member}
use Rattle.serde_json.specs.Events.{members_len}
use Rattle.serde_json.specs.Find.{get, as_bool, as_number, as_u64, as_str, as_array, as_object}
use Rattle.linemap_check.specs.TableParts.{RangePart, FilePart, RowPart, SequencePart, Calls, no_calls, more_calls, CallPart, FunctionPart, UnitPart}

infixl 20 ◌>>=◌
-- what the second makes of the first, if there is one
abbrev pub ◌>>=◌ : {A B : Type 0} → Option A → (A → Option B) → Option B
o >>= next = option_and_then next o

-- an object with this number of keys
abbrev pub has_keys : ℕ → Data → Bool
has_keys count d = option_map_or (λ members. members_len members == count) (as_object d) false

abbrev pub text_at : List ℕ → Data → Option (List ℕ)
text_at key d = do
  value ← get key d
  as_str value

-- the number of a value that serde_json reads as a `u64`
abbrev pub number_in : Data → Option ℕ
number_in d = do
  n ← as_number d
  as_u64 n

abbrev pub number_at : List ℕ → Data → Option ℕ
number_at key d = do
  value ← get key d
  number_in value

-- what the value at a key holds, or `missing` where there is none
abbrev pub at_or : {A : Type 0} → A → (Data → Option A) → List ℕ → Data → Option A
at_or missing shape key d = option_map_or shape (get key d) (Some missing)

-- 1 if there is a value at a key, else 0
abbrev pub count_at : List ℕ → Data → ℕ
count_at key d = option_map_or (λ value. 1) (get key d) 0

abbrev pub items_at : List ℕ → Data → Option Items
items_at key d = do
  value ← get key d
  as_array value

-- the parts that items hold, if each holds one
abbrev pub each : {A : Type 0} → (Data → Option A) → Items → Option (List A)
each shape no_items = Some []
each shape (item d ds) = do
  x ← shape d
  xs ← each shape ds
  Some (x ∷ xs)

-- an array whose items hold parts
abbrev pub list_in : {A : Type 0} → (Data → Option A) → Data → Option (List A)
list_in shape d = do
  ds ← as_array d
  each shape ds

abbrev pub list_at : {A : Type 0} → (Data → Option A) → List ℕ → Data → Option (List A)
list_at shape key d = do
  value ← get key d
  list_in shape value

-- an array of two numbers
abbrev pub ends_in : Items → Option RangePart
ends_in (item b (item e no_items)) = do
  begin ← number_in b
  end ← number_in e
  Some (record { begin = begin; end = end })
ends_in ds = None

abbrev pub range_in : Data → Option RangePart
range_in d = do
  ds ← as_array d
  ends_in ds

abbrev pub file_in : Data → Option FilePart
file_in d = if has_keys 2 d then (do
  directory ← text_at (codes "directory") d
  name ← text_at (codes "name") d
  Some (record { directory = directory; name = name })) else None

-- the number of keys of a row, of which two may be missing
abbrev pub row_keys : Data → ℕ
row_keys d = 4 + count_at (codes "statement") d + count_at (codes "discriminator") d

abbrev pub row_in : Data → Option RowPart
row_in d = if has_keys (row_keys d) d then (do
  address ← number_at (codes "address") d
  file ← number_at (codes "file") d
  line ← number_at (codes "line") d
  column ← number_at (codes "column") d
  statement ← at_or true as_bool (codes "statement") d
  discriminator ← at_or 0 number_in (codes "discriminator") d
  Some (record {
    address = address;
    file = file;
    line = line;
    column = column;
    statement = statement;
    discriminator = discriminator;
  })) else None

abbrev pub sequence_in : Data → Option SequencePart
sequence_in d = if has_keys 2 d then (do
  rows ← list_at row_in (codes "rows") d
  end ← number_at (codes "end") d
  Some (record { rows = rows; end = end })) else None

-- a call, whose calls at the key "calls" are read
abbrev pub call_with : Data → Calls → Option CallPart
call_with d inner = if has_keys 6 d then (do
  name ← text_at (codes "name") d
  ranges ← list_at range_in (codes "ranges") d
  file ← number_at (codes "file") d
  line ← number_at (codes "line") d
  column ← number_at (codes "column") d
  Some (record {
    site = record {
      name = name;
      ranges = ranges;
      file = file;
      line = line;
      column = column;
    };
    inner = inner;
  })) else None

abbrev mutual
  pub call_in : Data → Option CallPart
  call_in null = None
  call_in (boolean b) = None
  call_in (number n) = None
  call_in (string s) = None
  call_in (array ds) = None
  call_in (object ms) = do
    inner ← calls_at ms
    call_with (object ms) inner

  -- the calls at the key "calls"
  pub calls_at : Members → Option Calls
  calls_at no_members = None
  calls_at (member key d ms) =
      match_ordering (slice_cmp nat_cmp (codes "calls") key) (calls_at ms) (calls_in d)
      (calls_at ms)

  -- an array of calls
  pub calls_in : Data → Option Calls
  calls_in null = None
  calls_in (boolean b) = None
  calls_in (number n) = None
  calls_in (string s) = None
  calls_in (array ds) = each_call ds
  calls_in (object ms) = None

  pub each_call : Items → Option Calls
  each_call no_items = Some no_calls
  each_call (item d ds) = do
    c ← call_in d
    others ← each_call ds
    Some (more_calls c.site c.inner others)

-- the calls at the key "calls" of a function
abbrev pub calls_of : Data → Option Calls
calls_of d = do
  ds ← items_at (codes "calls") d
  each_call ds

abbrev pub function_in : Data → Option FunctionPart
function_in d = if has_keys 3 d then (do
  name ← text_at (codes "name") d
  ranges ← list_at range_in (codes "ranges") d
  calls ← calls_of d
  Some (record { name = name; ranges = ranges; calls = calls })) else None

abbrev pub unit_in : Data → Option UnitPart
unit_in d = if has_keys 6 d then (do
  directory ← text_at (codes "directory") d
  name ← text_at (codes "name") d
  ranges ← list_at range_in (codes "ranges") d
  files ← list_at file_in (codes "files") d
  functions ← list_at function_in (codes "functions") d
  sequences ← list_at sequence_in (codes "sequences") d
  Some (record {
    directory = directory;
    name = name;
    ranges = ranges;
    files = files;
    functions = functions;
    sequences = sequences;
  })) else None

abbrev pub units_in : Data → Option (List UnitPart)
units_in d = if has_keys 1 d then list_at unit_in (codes "units") d else None
