-- Reads of an image's bytes as steps of loading it, and how the result of a call relates to them.
use Rattle.std.specs.Prelude.{ℕ, ◌≡◌, ◌≢◌, Result, Ok, Err}
use Rattle.gimli_core_readers.specs.Error.{Error}
use Rattle.gimli_core_readers.specs.Error.TheVariants as debug
use Rattle.gimli_core_readers.specs.View.{View}
use Rattle.gimli_core_readers.specs.Parsers.{Parser, ◌>>◌, skip, truncate, here, value_of}
use Rattle.addr2line_elf.specs.declared.error.LoadError.{LoadError}
use Rattle.addr2line_elf.specs.declared.error.LoadError.TheVariants.{Memory, Truncated}

-- a read of the image's bytes: an error is that they end too early
abbrev pub or_truncated : {A : Type 0} → Result A Error → Result A LoadError
or_truncated (Ok x) = Ok x
or_truncated (Err e) = Err Truncated

abbrev pub read_in : {A : Type 0} → View → Parser A → Result A LoadError
read_in file p = or_truncated (value_of (p file))

-- a number of bytes from an offset on
abbrev pub bytes_at : ℕ → ℕ → Parser View
bytes_at offset size = skip offset >> truncate size >> here

-- a call that reads the file's bytes, as a step of loading: an error is out of memory, or that they
-- end too early
abbrev pub InFile : {A : Type 0} → Result A Error → Result A LoadError → Type 0
InFile (Ok x) step = step ≡ Ok x
InFile (Err e) step =
    (e ≡ debug.Memory → step ≡ Err Memory) × (e ≢ debug.Memory → step ≡ Err Truncated)

-- The definition's value, or its refusal, or out of memory. `see` is what a contract sees of a
-- value.
abbrev pub LoadsAsOrNoMemory
    : {A B : Type 0} → (A → B) → Result A LoadError → Result B LoadError → Type 0
LoadsAsOrNoMemory see (Ok x) wanted = wanted ≡ Ok (see x)
LoadsAsOrNoMemory see (Err e) wanted = e ≢ Memory → wanted ≡ Err e

abbrev pub LoadsOrNoMemory : {A : Type 0} → Result A LoadError → Result A LoadError → Type 0
LoadsOrNoMemory result wanted = LoadsAsOrNoMemory (λ x. x) result wanted
