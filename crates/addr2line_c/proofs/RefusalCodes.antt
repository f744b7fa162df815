-- The letters and the numbers of refusals are those that the library displays.
use Rattle.std.proofs.Common.{◌≡◌, Some, refl}
use Rattle.gimli_core_base.specs.ErrorText.{error_text}
use Rattle.addr2line_context.specs.Error.{Error}
use Rattle.addr2line_context.specs.Error.TheVariants.{Memory, UnexpectedEof, BadUnsignedLeb128, BadSignedLeb128, UnknownReservedLength, UnsupportedOffset, UnsupportedAddressSize, AbbreviationTagZero, AttributeNameZero, AttributeFormZero, InvalidAbbreviationChildren, DuplicateAbbreviationCode, InvalidAbbreviationCode, UnknownForm, InvalidImplicitConst, UnknownVersion, UnsupportedUnitType, UnsupportedSegmentSize, OffsetOutOfBounds, NoEntryAtGivenOffset, MissingUnitDie, AddressOverflow, UnknownRangeListsEntry, UnknownLocListsEntry, MinimumInstructionLengthZero, MaximumOperationsPerInstructionZero, LineRangeZero, OpcodeBaseZero, MissingFileEntryFormatPath, ExpectedStringAttributeValue, BadUtf8, OffsetSumOverflow, NoSuchUnit}
use Rattle.addr2line_split.specs.LoadError.{LoadError}
use Rattle.addr2line_split.specs.LoadError.TheVariants as load
use Rattle.addr2line_split.specs.LoadErrors.{text_of}
use Rattle.addr2line_c.specs.Numbers.{error_number, load_error_number}
use Rattle.addr2line_c.specs.RefusalTexts.{code_of}

pub code_of_error : (e : Error) → code_of (error_number e) ≡ Some (error_text e)
code_of_error Memory = refl
code_of_error (UnexpectedEof _) = refl
code_of_error BadUnsignedLeb128 = refl
code_of_error BadSignedLeb128 = refl
code_of_error (UnknownReservedLength _) = refl
code_of_error UnsupportedOffset = refl
code_of_error (UnsupportedAddressSize _) = refl
code_of_error AbbreviationTagZero = refl
code_of_error AttributeNameZero = refl
code_of_error AttributeFormZero = refl
code_of_error (InvalidAbbreviationChildren _) = refl
code_of_error (DuplicateAbbreviationCode _) = refl
code_of_error (InvalidAbbreviationCode _) = refl
code_of_error (UnknownForm _) = refl
code_of_error InvalidImplicitConst = refl
code_of_error (UnknownVersion _) = refl
code_of_error (UnsupportedUnitType _) = refl
code_of_error UnsupportedSegmentSize = refl
code_of_error OffsetOutOfBounds = refl
code_of_error (NoEntryAtGivenOffset _) = refl
code_of_error MissingUnitDie = refl
code_of_error AddressOverflow = refl
code_of_error (UnknownRangeListsEntry _) = refl
code_of_error (UnknownLocListsEntry _) = refl
code_of_error MinimumInstructionLengthZero = refl
code_of_error MaximumOperationsPerInstructionZero = refl
code_of_error LineRangeZero = refl
code_of_error OpcodeBaseZero = refl
code_of_error MissingFileEntryFormatPath = refl
code_of_error ExpectedStringAttributeValue = refl
code_of_error BadUtf8 = refl
code_of_error OffsetSumOverflow = refl
code_of_error NoSuchUnit = refl

pub code_of_load_error : (e : LoadError) → code_of (load_error_number e) ≡ Some (text_of e)
code_of_load_error load.Memory = refl
code_of_load_error load.Io = refl
code_of_load_error load.NotElf = refl
code_of_load_error load.UnsupportedElf = refl
code_of_load_error load.Truncated = refl
code_of_load_error load.CompressedSection = refl
code_of_load_error load.NeedsRelocation = refl
code_of_load_error (load.Dwarf Memory) = refl
code_of_load_error (load.Dwarf (UnexpectedEof _)) = refl
code_of_load_error (load.Dwarf BadUnsignedLeb128) = refl
code_of_load_error (load.Dwarf BadSignedLeb128) = refl
code_of_load_error (load.Dwarf (UnknownReservedLength _)) = refl
code_of_load_error (load.Dwarf UnsupportedOffset) = refl
code_of_load_error (load.Dwarf (UnsupportedAddressSize _)) = refl
code_of_load_error (load.Dwarf AbbreviationTagZero) = refl
code_of_load_error (load.Dwarf AttributeNameZero) = refl
code_of_load_error (load.Dwarf AttributeFormZero) = refl
code_of_load_error (load.Dwarf (InvalidAbbreviationChildren _)) = refl
code_of_load_error (load.Dwarf (DuplicateAbbreviationCode _)) = refl
code_of_load_error (load.Dwarf (InvalidAbbreviationCode _)) = refl
code_of_load_error (load.Dwarf (UnknownForm _)) = refl
code_of_load_error (load.Dwarf InvalidImplicitConst) = refl
code_of_load_error (load.Dwarf (UnknownVersion _)) = refl
code_of_load_error (load.Dwarf (UnsupportedUnitType _)) = refl
code_of_load_error (load.Dwarf UnsupportedSegmentSize) = refl
code_of_load_error (load.Dwarf OffsetOutOfBounds) = refl
code_of_load_error (load.Dwarf (NoEntryAtGivenOffset _)) = refl
code_of_load_error (load.Dwarf MissingUnitDie) = refl
code_of_load_error (load.Dwarf AddressOverflow) = refl
code_of_load_error (load.Dwarf (UnknownRangeListsEntry _)) = refl
code_of_load_error (load.Dwarf (UnknownLocListsEntry _)) = refl
code_of_load_error (load.Dwarf MinimumInstructionLengthZero) = refl
code_of_load_error (load.Dwarf MaximumOperationsPerInstructionZero) = refl
code_of_load_error (load.Dwarf LineRangeZero) = refl
code_of_load_error (load.Dwarf OpcodeBaseZero) = refl
code_of_load_error (load.Dwarf MissingFileEntryFormatPath) = refl
code_of_load_error (load.Dwarf ExpectedStringAttributeValue) = refl
code_of_load_error (load.Dwarf BadUtf8) = refl
code_of_load_error (load.Dwarf OffsetSumOverflow) = refl
code_of_load_error (load.Dwarf NoSuchUnit) = refl
