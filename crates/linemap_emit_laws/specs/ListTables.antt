-- The table of range lists that is written is read again (DWARF 5, 7.28).
use Rattle.std.specs.Prelude.{◌≡◌, ℕ, ◌+◌, ◌<◌, Bool, List, ◌++◌, length, Ok}
use Rattle.linemap_emit_units.specs.BytesAt.{bytes_at}
use Rattle.linemap_emit_units.specs.Encoding.{Encoding}
use Rattle.linemap_emit_units.specs.NumberBytes.{length_limit}
use Rattle.linemap_emit_units.specs.ListSections.{lists_header}
use Rattle.linemap_emit_units.specs.EmittedRanges.{lists_start, spelled_lists}
use Rattle.linemap_emit_units.specs.EmittedUnits.{IsWritten}

-- From version 5 on the section of lists is one table: its header says the encoding and that there
-- are no offsets, and is followed by the lists, whatever comes after the table.
abbrev pub ListTablesAgain : Type 0
ListTablesAgain =
    (limit : ℕ) (e : Encoding) (is_big : Bool) (first : ℕ) (lists rest : List ℕ)
    → IsWritten e → 4 < e.version
    → 8 + length lists < length_limit e.format → 8 + length lists < limit
    → lists_header limit (bytes_at is_big first (spelled_lists e is_big lists ++ rest))
    ≡ Ok (
      record { encoding = e; offset_entry_count = 0 },
      bytes_at is_big (first + lists_start e) lists,
    )
