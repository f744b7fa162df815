-- What compressed sections begin with, and what the bytes of a section are made of.
use Rattle.std.specs.Prelude.{ℕ, ◌-◌, List, length, Option, Some, None}
use Rattle.gimli_core_readers.specs.Parsers.{Parser, ◌>>=◌, ◌>>◌, give, skip}
use Rattle.gimli_core_readers.specs.NumberParsers.{fixed}
use Rattle.addr2line_elf.specs.declared.class.Class.{Class}
use Rattle.addr2line_elf.specs.ElfClasses.{word_size}
use Rattle.addr2line_decompress.specs.declared.compression.CompressionHeader.{CompressionHeader}

-- The header of a flagged section (System V ABI, "Section Compression"): the type, in the class of
-- 64 bits a reserved word, the size of the text, and its alignment.
unfoldable pub compression_header : Class → Parser CompressionHeader
compression_header class = do
  kind ← fixed 4
  reserved ← skip (word_size class - 4)
  size ← fixed (word_size class)
  alignment ← skip (word_size class)
  give (record { kind = kind; size = size })

-- The header of a section in GNU's old form: four letters, and the size of the text, eight bytes.
abbrev pub old_header : Parser ℕ
old_header = skip 4 >> fixed 8

-- The bytes of a section: those of a stream, with the size of its text; or, without a size, the
-- section's own.
pub record Content : Type 0 where
  pub bytes : List ℕ
  pub text_size : Option ℕ

-- how many bytes the section has
abbrev pub size_or : Option ℕ → ℕ → ℕ
size_or None n = n
size_or (Some size) n = size

abbrev pub size_of : Content → ℕ
size_of c = size_or c.text_size (length c.bytes)

-- what of a section becomes another: where its name begins in the section of names, its flags, and
-- its bytes
pub record Change : Type 0 where
  pub name : ℕ
  pub flags : ℕ
  pub content : Content
