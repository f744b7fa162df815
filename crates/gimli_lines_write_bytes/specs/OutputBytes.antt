-- What has been written, and how a call changes it.
use Rattle.std.specs.Prelude.{◌≡◌, ◌≢◌, ℕ, ◌+◌, nat_lt, Bool, List, ◌++◌, length, take, drop, Result, Ok, Err, if◌then◌else◌}
use Rattle.gimli_lines_write_bytes.specs.declared.error.Error.{Error}
use Rattle.gimli_lines_write_bytes.specs.declared.error.Error.TheVariants.{Memory, OffsetOutOfBounds, LengthOutOfBounds}

-- The bytes written so far, and whether the more significant byte of a number is written first.
pub record WriterContents : Type 0 where
  pub bytes : List ℕ
  pub is_big : Bool

-- the first of them
abbrev pub first_bytes : ℕ → WriterContents → WriterContents
first_bytes n w = record { bytes = take n w.bytes; is_big = w.is_big }

-- bytes after those
abbrev pub append : List ℕ → WriterContents → WriterContents
append bytes w = record { bytes = w.bytes ++ bytes; is_big = w.is_big }

-- the same where there are such bytes
abbrev pub append_result : Result (List ℕ) Error → WriterContents → Result WriterContents Error
append_result (Ok bytes) w = Ok (append bytes w)
append_result (Err e) w = Err e

-- bytes in the place of as many from an offset on
abbrev pub replace : ℕ → List ℕ → WriterContents → WriterContents
replace offset bytes w = record {
  bytes = take offset w.bytes ++ bytes
      ++ drop (offset + length bytes) w.bytes;
  is_big = w.is_big;
}

-- the same where they are all within what has been written
abbrev pub replace_within : ℕ → List ℕ → WriterContents → Result WriterContents Error
replace_within offset bytes w =
    if nat_lt (length w.bytes) offset then Err OffsetOutOfBounds
    else (if nat_lt (length w.bytes) (offset + length bytes) then Err LengthOutOfBounds
    else Ok (replace offset bytes w))

-- the same where there are such bytes
abbrev pub replace_result : ℕ → Result (List ℕ) Error → WriterContents → Result WriterContents Error
replace_result offset (Ok bytes) w = replace_within offset bytes w
replace_result offset (Err e) w = Err e

-- A write that has this meaning, or is out of memory; refused, it changes nothing.
abbrev pub Writes : {A : Type 0} → Result A Error → WriterContents → WriterContents
    → Result WriterContents Error → Type 0
Writes (Ok _) old new meaning = meaning ≡ Ok new
Writes (Err e) old new meaning = (e ≢ Memory → meaning ≡ Err e) × (new ≡ old)

-- A write that has this meaning, and takes no memory; refused, it changes nothing.
abbrev pub Overwrites : {A : Type 0} → Result A Error → WriterContents → WriterContents
    → Result WriterContents Error → Type 0
Overwrites (Ok _) old new meaning = meaning ≡ Ok new
Overwrites (Err e) old new meaning = (meaning ≡ Err e) × (new ≡ old)
