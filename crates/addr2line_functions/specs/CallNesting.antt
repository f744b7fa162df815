-- The entries below a function, one after the other, by the calls and the nested function that each
-- is in.
use Rattle.std.specs.Prelude.{ℕ, ℤ, pos, ◌&&◌, int_lt, Bool, List, [], ◌∷◌, length, Option, Some, None, is_none, Result, Ok, if◌then◌else◌}
use Rattle.gimli_units_entries.specs.Error.{Error}
use Rattle.gimli_units_entries.specs.Parsers.{Step}
use Rattle.gimli_units_entries.specs.DwTag.{DwTag}
use Rattle.gimli_units_entries.specs.TheConstants.{DW_TAG_inlined_subroutine, DW_TAG_subprogram}
use Rattle.gimli_units_entries.specs.EntryWalks.{Walk}
use Rattle.gimli_units_entries.specs.OtherEntries.{is_tag_of, skip_others}
use Rattle.gimli_units_entries.specs.EntryRows.{Row, row_choosing}
use Rattle.gimli_units_entries.specs.Results.{and_then}
use Rattle.addr2line_names.specs.UnitFacts.{UnitInFile}
use Rattle.addr2line_ranges.specs.Functions.{is_subprogram}
use Rattle.addr2line_ranges.specs.InlinedCalls.{Naming, Call, FunctionWalk, is_inlined, call_at, calls_among, entries_below}

-- The depths of the calls that an entry is in, the nearest first, and of the nested function that
-- it is in, if it is in one.
pub record Nesting : Type 0 where
  pub calls : List ℤ
  pub nested : Option ℤ

abbrev pub no_nesting : Nesting
no_nesting = record { calls = []; nested = None }

-- what of them an entry of a depth is in
abbrev pub shallower : ℤ → List ℤ → List ℤ
shallower depth [] = []
shallower depth (x ∷ xs) = if int_lt x depth then x ∷ xs else shallower depth xs

abbrev pub if_shallower : ℤ → Option ℤ → Option ℤ
if_shallower depth None = None
if_shallower depth (Some x) = if int_lt x depth then Some x else None

abbrev pub leave : ℤ → Nesting → Nesting
leave depth o = record { calls = shallower depth o.calls; nested = if_shallower depth o.nested }

-- what the entries in an entry of a tag and a depth are in
abbrev pub with_call : ℕ → ℤ → Nesting → Nesting
with_call tag depth o =
    if is_inlined tag then record { calls = depth ∷ o.calls; nested = o.nested } else o

abbrev pub with_entry : ℕ → ℤ → Nesting → Nesting
with_entry tag depth o =
    if is_subprogram tag then record { calls = o.calls; nested = Some depth }
    else with_call tag depth o

abbrev pub inside_of : ℕ → ℤ → Nesting → Nesting
inside_of tag depth o = if is_none o.nested then with_entry tag depth o else o

-- the tags of calls and of functions
abbrev pub nesting_tags : List DwTag
nesting_tags = DW_TAG_inlined_subroutine ∷ DW_TAG_subprogram ∷ []

-- the depth of the nearest call, or else that of the function
abbrev pub nearest : List ℤ → ℤ
nearest [] = pos 0
nearest (x ∷ xs) = x

-- Entries skipped up to one that the entries after it may be in, or, in a nested function, up to
-- the function's end.
abbrev pub skip_inside_of : List ℤ → Option ℤ → Walk → Walk
skip_inside_of calls None w = skip_others (is_tag_of nesting_tags) (nearest calls) w
skip_inside_of calls (Some depth) w = skip_others (is_tag_of []) depth w

abbrev pub skip_inside : Nesting → Walk → Walk
skip_inside o w = skip_inside_of o.calls o.nested w

-- the tag is that of a call, and the entry is in no nested function
abbrev pub is_call_where : Nesting → ℕ → Bool
is_call_where o tag = is_none o.nested && is_inlined tag

-- how many calls a call is in
abbrev pub call_depth : Nesting → ℕ → Option ℕ
call_depth o tag = if is_call_where o tag then Some (length o.calls) else None

-- the depth of an entry, if it is a call, and what the entries in it are in
abbrev pub enter : ℕ → ℤ → Nesting → Result (Option ℕ × Nesting) Error
enter tag depth o = Ok (call_depth o tag, inside_of tag depth o)

-- a walk below a function, and what its last entry is in
pub record CallWalk : Type 0 where
  pub walk : Walk
  pub nesting : Nesting

-- the call of an entry, if it is one
abbrev pub call_if : UnitInFile → Naming → Row → Option ℕ → Result (Option Call) Error
call_if u naming r None = Ok None
call_if u naming r (Some depth) = and_then (call_at u naming depth r) (λ c. Ok (Some c))

-- the call of an entry, if it is one, and the walk after the entry
abbrev pub call_and_walk
    : UnitInFile → Naming → Nesting → Row → Walk → Result (Option Call × CallWalk) Error
call_and_walk u naming o r w =
    and_then (call_if u naming r (call_depth o r.tag)) (λ c.
    Ok (c, record { walk = w; nesting = inside_of r.tag r.depth o }))

-- the same of the next entry, by what it is in
abbrev pub next_call_in
    : ℕ → UnitInFile → Naming → Walk → Nesting → Result (Option Call × CallWalk) Error
next_call_in limit u naming w o =
    and_then (row_choosing limit (is_call_where o) w) (λ r. call_and_walk u naming o r.0 r.1)

-- the same of the next entry, which isn't in all that the entry before it was in
abbrev pub next_call : ℕ → UnitInFile → Naming → Step CallWalk (Option Call)
next_call limit u naming x =
    next_call_in limit u naming x.walk (leave x.walk.depth x.nesting)

-- the calls to come
abbrev pub calls_from : ℕ → UnitInFile → Naming → FunctionWalk → Result (List Call) Error
calls_from limit u naming i = calls_among u naming (entries_below limit i)
