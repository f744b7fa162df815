-- Offsets of a unit's entries, counted from the start of the unit or of the section (DWARF 5,
-- 7.5.1, and 7.5.5, references).
use Rattle.std.specs.Prelude.{ℕ, ◌+◌, ◌-◌, Bool, ◌&&◌, nat_lt, nat_le, Option, Some, None, Result, Ok, Err, if◌then◌else◌}
use Rattle.gimli_core_base.specs.declared.error.Error.{Error}
use Rattle.gimli_core_base.specs.declared.error.Error.TheVariants.{OffsetOutOfBounds}
use Rattle.gimli_core_base.specs.View.{View, after, prefix}
use Rattle.gimli_units_headers.specs.UnitHeaders.{DebugUnit, header_size, length_including_self}

-- an offset from the start of the unit that is among its entries
abbrev pub is_in_bounds : DebugUnit → ℕ → Bool
is_in_bounds u offset = nat_le (header_size u) offset && nat_lt offset (length_including_self u)

-- an offset of the section as one of the unit, where it is among the unit's entries
abbrev pub to_unit_offset : DebugUnit → ℕ → Option ℕ
to_unit_offset u offset =
    if nat_le u.offset offset && is_in_bounds u (offset - u.offset) then Some (offset - u.offset)
    else None

-- an offset of the unit as one of the section, if it is below the limit of offsets
abbrev pub to_section_offset : ℕ → DebugUnit → ℕ → Option ℕ
to_section_offset limit u offset =
    if nat_lt (u.offset + offset) limit then Some (u.offset + offset) else None

-- bytes that are within the bounds of the entries, else a refusal
abbrev pub if_in_bounds : Bool → View → Result View Error
if_in_bounds b v = if b then Ok v else Err OffsetOutOfBounds

-- the bytes from an offset of the entries on
abbrev pub bytes_from : DebugUnit → ℕ → Result View Error
bytes_from u start = if_in_bounds (is_in_bounds u start) (after (start - header_size u) u.entries)

-- the bytes of the entries before an offset of them
abbrev pub bytes_to : DebugUnit → ℕ → Result View Error
bytes_to u stop = if_in_bounds (is_in_bounds u stop) (prefix (stop - header_size u) u.entries)

-- the bytes between two offsets of the entries
abbrev pub bytes_between : DebugUnit → ℕ → ℕ → Result View Error
bytes_between u start stop =
    if_in_bounds (is_in_bounds u start && is_in_bounds u stop)
    (prefix (stop - start) (after (start - header_size u) u.entries))
