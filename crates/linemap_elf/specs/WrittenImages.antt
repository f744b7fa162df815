-- What has been written of an image.
use Rattle.std.specs.Prelude.{ℕ, Bool, List, ◌++◌, flat_map}
use Rattle.addr2line_elf.specs.declared.class.Class.{Class}
use Rattle.linemap_elf.specs.declared.field.Field as declared
use Rattle.linemap_elf.specs.declared.field.Field.TheVariants.{Half, Word, Xword}
use Rattle.linemap_elf.specs.SpelledImages.{SizedNumber, half, word, NamedBytes, spelled_name}

-- a field as a width and a value
abbrev pub field_of : declared.Field → SizedNumber
field_of (Half n) = half n
field_of (Word n) = word n
field_of (Xword n) = record { width = 8; value = n }

-- the bytes so far, in an order, of an image of a class
pub record ImageBytes : Type 0 where
  pub bytes : List ℕ
  pub class : Class
  pub is_big : Bool

-- and more bytes
abbrev pub append : List ℕ → ImageBytes → ImageBytes
append bytes w = record { bytes = w.bytes ++ bytes; class = w.class; is_big = w.is_big }

-- the bytes of some sections, and their names, one after the other
abbrev pub bytes_joined : List NamedBytes → List ℕ
bytes_joined sections = flat_map (λ s. s.bytes) sections

abbrev pub names_joined : List NamedBytes → List ℕ
names_joined sections = flat_map (λ s. spelled_name s.name) sections
