-- The offset of the first entry of a table of offsets, in a file whose units don't name it.
use Rattle.std.specs.Prelude.{ℕ, ◌+◌, nat_le, if◌then◌else◌}
use Rattle.gimli_core_base.specs.declared.common.DwarfFileType.{DwarfFileType}
use Rattle.gimli_core_base.specs.declared.common.DwarfFileType.TheVariants.{Main, Dwo}
use Rattle.gimli_core_base.specs.declared.common.Encoding.{Encoding}
use Rattle.gimli_core_base.specs.declared.common.Format.{Format}
use Rattle.gimli_core_base.specs.FormatSizes.{initial_length_size}

-- length, version, padding (DWARF 5, 7.26)
abbrev pub string_offsets_header_size : Format → ℕ
string_offsets_header_size format = initial_length_size format + 2 + 2

-- length, version, address size, segment selector size, number of offsets (DWARF 5, 7.28 and 7.29)
abbrev pub lists_header_size : Format → ℕ
lists_header_size format = initial_length_size format + 2 + 1 + 1 + 4

-- A split file of version 5 has one table, whose entries follow its header; elsewhere units
-- name their bases.
abbrev pub default_base : Encoding → DwarfFileType → ℕ → ℕ
default_base encoding Main header_size = 0
default_base encoding Dwo header_size = if nat_le 5 encoding.version then header_size else 0
