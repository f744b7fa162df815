-- Where an image has its section headers, and their names (System V ABI, "Sections").
use Rattle.std.specs.Prelude.{ℕ, ◌+◌, ◌*◌, List, length, Result, Ok}
use Rattle.gimli_core_readers.specs.Results.{◌>>=◌}
use Rattle.addr2line_elf.specs.declared.class.Class.{Class}
use Rattle.addr2line_elf.specs.declared.class.Class.TheVariants.{Elf32, Elf64}
use Rattle.addr2line_elf.specs.declared.error.LoadError.{LoadError}
use Rattle.addr2line_elf.specs.ElfClasses.{section_header_size}
use Rattle.addr2line_elf.specs.ElfHeaders.{file_header, header_at}
use Rattle.addr2line_elf.specs.ElfImages.{Image, image_of, names_index}
use Rattle.addr2line_elf.specs.ImageLoading.{read_in}

-- the bytes of the header of a file
abbrev pub file_header_size : Class → ℕ
file_header_size Elf32 = 52
file_header_size Elf64 = 64

-- an image, the offset of its section headers, and the index of the section with their names
pub record ImageTable : Type 0 where
  pub image : Image
  pub offset : ℕ
  pub names_index : ℕ

abbrev pub table_of : List ℕ → Result ImageTable LoadError
table_of file = do
  image ← image_of file
  header ← read_in image.file (file_header image.class)
  first ← read_in image.file (header_at image.class header.table_offset)
  Ok (record {
    image = image;
    offset = header.table_offset;
    names_index = names_index header first;
  })

-- the bytes of the file, and the end of its section headers
abbrev pub file_bytes : ImageTable → List ℕ
file_bytes table = table.image.file.bytes

abbrev pub table_end : ImageTable → ℕ
table_end table =
    table.offset + length table.image.sections * section_header_size table.image.class
