-- What is read of a section by an offset or an index: a string, an offset of a string, an address.
use Rattle.std.specs.Prelude.{ℕ, ◌+◌, ◌*◌, ◌^◌, nat_lt, Result, Ok, Err, if◌then◌else◌}
use Rattle.gimli_core_base.specs.declared.error.Error.{Error}
use Rattle.gimli_core_base.specs.declared.error.Error.TheVariants.{OffsetSumOverflow}
use Rattle.gimli_core_base.specs.View.{View}
use Rattle.gimli_core_base.specs.Parsers.{Parser, ◌>>=◌, ◌>>◌, lift, skip, null_terminated, value_of}
use Rattle.gimli_core_base.specs.declared.common.Format.{Format}
use Rattle.gimli_core_base.specs.FormatSizes.{word_size}
use Rattle.gimli_core_base.specs.NumberParsers.{word, address}

-- the string that begins at an offset, up to its zero byte (DWARF 5, 7.5.5)
abbrev pub string_at : ℕ → View → Result View Error
string_at offset section = value_of ((skip offset >> null_terminated) section)

-- The place of an index after a base, where each index takes as many bytes as the width. Places are
-- numbers of 64 bits.
abbrev pub offset_of_index : ℕ → ℕ → ℕ → Result ℕ Error
offset_of_index base index width =
    if nat_lt (base + index * width) (2 ^ 64) then Ok (base + index * width)
    else Err OffsetSumOverflow

-- skips what comes before an index
abbrev pub skip_to_index : ℕ → ℕ → ℕ → Parser (Unit {0})
skip_to_index base index width = lift (offset_of_index base index width) >>= skip

-- the offset at an index, in a table of offsets (DWARF 5, 7.26, 7.28 and 7.29)
abbrev pub table_offset_at : ℕ → Format → ℕ → ℕ → View → Result ℕ Error
table_offset_at limit format base index section =
    value_of ((skip_to_index base index (word_size format) >> word limit format) section)

-- the address at an index (DWARF 5, 7.27)
abbrev pub address_at : ℕ → ℕ → ℕ → View → Result ℕ Error
address_at size base index section =
    value_of ((skip_to_index base index size >> address size) section)
