-- The numbers that calls return.
use Rattle.std.specs.Prelude.{◌≡◌, ◌⊎◌, ℕ, ◌+◌, zero, suc, ℤ, pos, Option, Some, None, Result, Ok, Err}
use Rattle.addr2line_context.specs.Error.{Error}
use Rattle.addr2line_context.specs.Error.TheVariants.{Memory, UnexpectedEof, BadUnsignedLeb128, BadSignedLeb128, UnknownReservedLength, UnsupportedOffset, UnsupportedAddressSize, AbbreviationTagZero, AttributeNameZero, AttributeFormZero, InvalidAbbreviationChildren, DuplicateAbbreviationCode, InvalidAbbreviationCode, UnknownForm, InvalidImplicitConst, UnknownVersion, UnsupportedUnitType, UnsupportedSegmentSize, OffsetOutOfBounds, NoEntryAtGivenOffset, MissingUnitDie, AddressOverflow, UnknownRangeListsEntry, UnknownLocListsEntry, MinimumInstructionLengthZero, MaximumOperationsPerInstructionZero, LineRangeZero, OpcodeBaseZero, MissingFileEntryFormatPath, ExpectedStringAttributeValue, BadUtf8, OffsetSumOverflow, NoSuchUnit}
use Rattle.addr2line_split.specs.LoadError.{LoadError}
use Rattle.addr2line_split.specs.LoadError.TheVariants as load
use Rattle.addr2line_loader.specs.DecompressError.{DecompressError}
use Rattle.addr2line_loader.specs.DecompressError.TheVariants as decompress
use Rattle.addr2line_c.specs.declared.numbers.TheConstants.{OK, NOT_FOUND, PAST_END, NO_ROOM, CLOSED, BAD_LOADER, ALREADY_OPEN}

-- the n of a refusal En
abbrev pub error_ordinal : Error → ℕ
error_ordinal Memory = 1
error_ordinal (UnexpectedEof _) = 2
error_ordinal BadUnsignedLeb128 = 3
error_ordinal BadSignedLeb128 = 4
error_ordinal (UnknownReservedLength _) = 5
error_ordinal UnsupportedOffset = 6
error_ordinal (UnsupportedAddressSize _) = 7
error_ordinal AbbreviationTagZero = 8
error_ordinal AttributeNameZero = 9
error_ordinal AttributeFormZero = 10
error_ordinal (InvalidAbbreviationChildren _) = 11
error_ordinal (DuplicateAbbreviationCode _) = 12
error_ordinal (InvalidAbbreviationCode _) = 13
error_ordinal (UnknownForm _) = 14
error_ordinal InvalidImplicitConst = 15
error_ordinal (UnknownVersion _) = 16
error_ordinal (UnsupportedUnitType _) = 17
error_ordinal UnsupportedSegmentSize = 18
error_ordinal OffsetOutOfBounds = 19
error_ordinal (NoEntryAtGivenOffset _) = 20
error_ordinal MissingUnitDie = 21
error_ordinal AddressOverflow = 22
error_ordinal (UnknownRangeListsEntry _) = 23
error_ordinal (UnknownLocListsEntry _) = 24
error_ordinal MinimumInstructionLengthZero = 25
error_ordinal MaximumOperationsPerInstructionZero = 26
error_ordinal LineRangeZero = 27
error_ordinal OpcodeBaseZero = 28
error_ordinal MissingFileEntryFormatPath = 29
error_ordinal ExpectedStringAttributeValue = 30
error_ordinal BadUtf8 = 31
error_ordinal OffsetSumOverflow = 32
error_ordinal NoSuchUnit = 33

-- the number of a refusal of debugging information
abbrev pub error_number : Error → ℤ
error_number e = pos (100 + error_ordinal e)

-- the number of a refusal of a file: out of memory is the same in the file and in its debugging
-- information
abbrev pub load_error_number : LoadError → ℤ
load_error_number load.Memory = pos 201
load_error_number load.Io = pos 202
load_error_number load.NotElf = pos 203
load_error_number load.UnsupportedElf = pos 204
load_error_number load.Truncated = pos 205
load_error_number load.CompressedSection = pos 206
load_error_number load.NeedsRelocation = pos 207
load_error_number (load.Dwarf Memory) = pos 201
load_error_number (load.Dwarf e) = pos (300 + error_ordinal e)

-- the number of a refusal of a file that is decompressed: out of memory, and what the file itself
-- is refused by, are those of a file that is opened as it is
abbrev pub decompress_error_number : DecompressError → ℤ
decompress_error_number decompress.Memory = load_error_number load.Memory
decompress_error_number (decompress.Image e) = load_error_number e
decompress_error_number decompress.OverlappingHeaders = pos 401
decompress_error_number (decompress.OverlappingSection _) = pos 402
decompress_error_number (decompress.SectionCut _) = pos 403
decompress_error_number (decompress.CompressedNames _) = pos 404
decompress_error_number (decompress.HeaderCut _) = pos 405
decompress_error_number (decompress.Zstandard _) = pos 406
decompress_error_number (decompress.UnknownCompression _ _) = pos 407
decompress_error_number (decompress.ImpossibleSize _) = pos 408
decompress_error_number (decompress.Stream _ _) = pos 409
decompress_error_number decompress.TooLarge = pos 410
decompress_error_number (decompress.SharedNames _) = pos 411
decompress_error_number (decompress.NameCut _) = pos 412

-- ---- of results

-- of a call that is done, or refused
abbrev pub done_number : {A : Type 0} → Result A Error → ℤ
done_number (Ok x) = OK
done_number (Err e) = error_number e

-- of a lookup that may find nothing
abbrev pub found_number : {A : Type 0} → Result (Option A) Error → ℤ
found_number (Ok (Some x)) = OK
found_number (Ok None) = NOT_FOUND
found_number (Err e) = error_number e

-- of a value that may be missing
abbrev pub some_number : {A : Type 0} → Option A → ℤ → ℤ
some_number None missing = missing
some_number (Some x) missing = OK

-- of frames from one on, into room for a number of them
abbrev pub frames_number : {A : Type 0} → ℕ → Option A → ℤ
frames_number zero first = NO_ROOM
frames_number (suc n) first = some_number first PAST_END

-- of a file that is loaded, or refused
abbrev pub loaded_number : {A : Type 0} → Result A LoadError → ℤ
loaded_number (Ok x) = OK
loaded_number (Err e) = load_error_number e

-- the number of what a file's bytes make, or that of out of memory
abbrev pub IsLoadedOrNoMemory : {A : Type 0} → ℤ → Result A LoadError → Type 0
IsLoadedOrNoMemory result loaded =
    (result ≡ loaded_number loaded) ⊎ (result ≡ load_error_number load.Memory)

-- the same of a file that is decompressed
abbrev pub decompressed_number : {A : Type 0} → Result A DecompressError → ℤ
decompressed_number (Ok x) = OK
decompressed_number (Err e) = decompress_error_number e

abbrev pub IsDecompressedOrNoMemory : {A : Type 0} → ℤ → Result A DecompressError → Type 0
IsDecompressedOrNoMemory result loaded =
    (result ≡ decompressed_number loaded) ⊎ (result ≡ load_error_number load.Memory)

-- the number, or that of out of memory
abbrev pub IsOrNoMemory : ℤ → ℤ → Type 0
IsOrNoMemory result number = (result ≡ number) ⊎ (result ≡ error_number Memory)

-- ---- of loaders, by their first word, which is 1 in an open one and 0 in a closed one

-- of one that isn't open
abbrev pub refused_number : ℕ → ℤ
refused_number zero = CLOSED
refused_number (suc n) = BAD_LOADER

-- of one that isn't closed
abbrev pub not_closed_number : ℕ → ℤ
not_closed_number (suc zero) = ALREADY_OPEN
not_closed_number n = BAD_LOADER
