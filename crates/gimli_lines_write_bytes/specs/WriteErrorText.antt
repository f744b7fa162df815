-- What a refusal of a write prints: the letter W and its number.
use Rattle.std.specs.Prelude.{ℕ, List, codes}
use Rattle.gimli_lines_write_bytes.specs.declared.error.Error.{Error}
use Rattle.gimli_lines_write_bytes.specs.declared.error.Error.TheVariants.{Memory, ValueTooLarge, OffsetOutOfBounds, LengthOutOfBounds, InitialLengthOverflow, UnsupportedVersion, UnsupportedWordSize, LineStringFormMismatch, NeedVersion, InvalidAddress}

-- the text of a refusal
abbrev pub error_text : Error → List ℕ
error_text Memory = codes "W1"
error_text ValueTooLarge = codes "W2"
error_text OffsetOutOfBounds = codes "W3"
error_text LengthOutOfBounds = codes "W4"
error_text InitialLengthOverflow = codes "W5"
error_text UnsupportedVersion = codes "W6"
error_text UnsupportedWordSize = codes "W7"
error_text LineStringFormMismatch = codes "W8"
error_text NeedVersion = codes "W9"
error_text InvalidAddress = codes "W10"
