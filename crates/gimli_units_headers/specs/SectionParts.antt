-- Parts of a section: each begins with its length, and is looked up by its offset.
use Rattle.std.specs.Prelude.{ℕ, Result}
use Rattle.gimli_core_base.specs.declared.common.Format.{Format}
use Rattle.gimli_core_base.specs.declared.error.Error.{Error}
use Rattle.gimli_core_base.specs.View.{View}
use Rattle.gimli_core_base.specs.Parsers.{Parser, ◌>>=◌, ◌>>◌, skip, part, within, value_of}
use Rattle.gimli_core_base.specs.NumberParsers.{initial_length}

-- the part that begins at an offset: a length n, and what is in the n bytes after it
unfoldable pub counted_part : {A : Type 0} → ℕ → (ℕ → ℕ → Format → Parser A) → ℕ → Parser A
counted_part limit read_in offset = do
  l ← initial_length limit
  bytes ← part l.0
  within bytes (read_in offset l.0 l.1)

-- the part at an offset of a section, which may be refused
abbrev pub part_lookup : {A : Type 0} → (ℕ → Parser A) → ℕ → View → Result A Error
part_lookup read offset section = value_of ((skip offset >> read offset) section)
