-- The number of out of memory is that of no other refusal.
use Rattle.std.proofs.Common.{◌≡◌, ◌≢◌, ℕ, ◌+◌, zero, ℤ, Result, Err, refl, ap, arith}
use Rattle.std.specs.Prelude.{pos}
use Rattle.addr2line_context.specs.Error.{Error}
use Rattle.addr2line_context.specs.Error.TheVariants.{Memory, UnexpectedEof, BadUnsignedLeb128, BadSignedLeb128, UnknownReservedLength, UnsupportedOffset, UnsupportedAddressSize, AbbreviationTagZero, AttributeNameZero, AttributeFormZero, InvalidAbbreviationChildren, DuplicateAbbreviationCode, InvalidAbbreviationCode, UnknownForm, InvalidImplicitConst, UnknownVersion, UnsupportedUnitType, UnsupportedSegmentSize, OffsetOutOfBounds, NoEntryAtGivenOffset, MissingUnitDie, AddressOverflow, UnknownRangeListsEntry, UnknownLocListsEntry, MinimumInstructionLengthZero, MaximumOperationsPerInstructionZero, LineRangeZero, OpcodeBaseZero, MissingFileEntryFormatPath, ExpectedStringAttributeValue, BadUtf8, OffsetSumOverflow, NoSuchUnit}
use Rattle.addr2line_c.specs.Numbers.{error_number, error_ordinal}

abbrev size : ℤ → ℕ
size (pos n) = n
size _ = zero

number_of_memory : (e : Error) → 100 + error_ordinal e ≡ 101 → e ≡ Memory
number_of_memory Memory same = refl
number_of_memory (UnexpectedEof _) same = absurd (omega (arith, same))
number_of_memory BadUnsignedLeb128 same = absurd (omega (arith, same))
number_of_memory BadSignedLeb128 same = absurd (omega (arith, same))
number_of_memory (UnknownReservedLength _) same = absurd (omega (arith, same))
number_of_memory UnsupportedOffset same = absurd (omega (arith, same))
number_of_memory (UnsupportedAddressSize _) same = absurd (omega (arith, same))
number_of_memory AbbreviationTagZero same = absurd (omega (arith, same))
number_of_memory AttributeNameZero same = absurd (omega (arith, same))
number_of_memory AttributeFormZero same = absurd (omega (arith, same))
number_of_memory (InvalidAbbreviationChildren _) same = absurd (omega (arith, same))
number_of_memory (DuplicateAbbreviationCode _) same = absurd (omega (arith, same))
number_of_memory (InvalidAbbreviationCode _) same = absurd (omega (arith, same))
number_of_memory (UnknownForm _) same = absurd (omega (arith, same))
number_of_memory InvalidImplicitConst same = absurd (omega (arith, same))
number_of_memory (UnknownVersion _) same = absurd (omega (arith, same))
number_of_memory (UnsupportedUnitType _) same = absurd (omega (arith, same))
number_of_memory UnsupportedSegmentSize same = absurd (omega (arith, same))
number_of_memory OffsetOutOfBounds same = absurd (omega (arith, same))
number_of_memory (NoEntryAtGivenOffset _) same = absurd (omega (arith, same))
number_of_memory MissingUnitDie same = absurd (omega (arith, same))
number_of_memory AddressOverflow same = absurd (omega (arith, same))
number_of_memory (UnknownRangeListsEntry _) same = absurd (omega (arith, same))
number_of_memory (UnknownLocListsEntry _) same = absurd (omega (arith, same))
number_of_memory MinimumInstructionLengthZero same = absurd (omega (arith, same))
number_of_memory MaximumOperationsPerInstructionZero same = absurd (omega (arith, same))
number_of_memory LineRangeZero same = absurd (omega (arith, same))
number_of_memory OpcodeBaseZero same = absurd (omega (arith, same))
number_of_memory MissingFileEntryFormatPath same = absurd (omega (arith, same))
number_of_memory ExpectedStringAttributeValue same = absurd (omega (arith, same))
number_of_memory BadUtf8 same = absurd (omega (arith, same))
number_of_memory OffsetSumOverflow same = absurd (omega (arith, same))
number_of_memory NoSuchUnit same = absurd (omega (arith, same))

abbrev refusal : {A : Type 0} → Error → Result A Error
refusal e = Err e

pub other_number : {A : Type 0} (e : Error) → (refusal {A = A} e ≢ refusal Memory)
    → error_number e ≢ error_number Memory
other_number e other same = other (ap refusal (number_of_memory e (ap size same)))
