-- Walks over the entries of a unit, from the first entry or from an offset.
use Rattle.std.specs.Prelude.{ℕ, pos, List, Option, Some, None, Result, Ok, Err}
use Rattle.gimli_core_base.specs.declared.error.Error.{Error}
use Rattle.gimli_core_base.specs.View.{View}
use Rattle.gimli_units_forms.specs.Declarations.{Declaration}
use Rattle.gimli_units_headers.specs.UnitHeaders.{DebugUnit, length_including_self}
use Rattle.gimli_units_headers.specs.UnitOffsets.{bytes_from}
use Rattle.gimli_units_entries.specs.EntryWalks.{Walk}

-- the walk over some last bytes of a unit, from depth 0 on
abbrev pub walk_before : DebugUnit → List Declaration → View → Walk
walk_before u table v = record {
  encoding = u.encoding;
  table = table;
  end_offset = length_including_self u;
  depth = pos 0;
  rest = v;
}

-- the same over bytes that may be refused
abbrev pub walk_of : DebugUnit → List Declaration → Result View Error → Result Walk Error
walk_of u table (Ok v) = Ok (walk_before u table v)
walk_of u table (Err e) = Err e

-- all bytes of the entries, or those from an offset on, which must be among the entries
abbrev pub bytes_at : DebugUnit → Option ℕ → Result View Error
bytes_at u None = Ok u.entries
bytes_at u (Some offset) = bytes_from u offset

-- the walk from an offset on, or over all entries
abbrev pub walk_from : DebugUnit → List Declaration → Option ℕ → Result Walk Error
walk_from u table offset = walk_of u table (bytes_at u offset)
