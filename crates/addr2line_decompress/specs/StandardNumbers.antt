-- The constants of this crate, each with the number that its standard gives it.
use Rattle.std.specs.Prelude.{◌≡◌, ◌+◌, ◌*◌, ◌/◌}
use Rattle.addr2line_decompress.specs.declared.constants.TheConstants.{ELFCOMPRESS_ZLIB, ELFCOMPRESS_ZSTD, MOST_OF_ONE_BYTE}

-- how sections are compressed (System V ABI, "Sections", "Section Compression", ch_type)
abbrev pub CompressionNumbers : Type 0
CompressionNumbers =
    (ELFCOMPRESS_ZLIB ≡ 1)
    × (ELFCOMPRESS_ZSTD ≡ 2)

-- The most bytes of the text that one byte of a stream holds: the longest copy has 258, and takes
-- two bits at least, one for its length and one for its distance (RFC 1951, 3.2.5).
abbrev pub GrowthNumbers : Type 0
GrowthNumbers = MOST_OF_ONE_BYTE ≡ 258 * (8 / (1 + 1))
