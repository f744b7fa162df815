-- The image that an ELF file is read as (System V ABI, "ELF Header" and "Sections").
use Rattle.std.specs.Prelude.{ℕ, ◌+◌, ◌==◌, ◌^◌, ◌&&◌, ◌||◌, nat_eq, nat_lt, bit_and, Bool, true, false, List, [], ◌∷◌, codes, drop, Option, Some, None, option_map, Result, Ok, Err, if◌then◌else◌}
use Rattle.std.specs.List.{slice_get, starts_with, position, list_any}
use Rattle.gimli_core_readers.specs.View.{View, prefix}
use Rattle.addr2line_elf.specs.declared.class.Class.{Class}
use Rattle.addr2line_elf.specs.declared.class.Class.TheVariants.{Elf32, Elf64}
use Rattle.addr2line_elf.specs.declared.constants.TheConstants.{EI_CLASS, EI_DATA, ELFCLASS32, ELFCLASS64, ELFDATA2LSB, ELFDATA2MSB, ET_REL, SHT_RELA, SHT_NOBITS, SHT_REL, SHF_COMPRESSED, SHN_UNDEF, SHN_XINDEX}
use Rattle.addr2line_elf.specs.declared.error.LoadError.{LoadError}
use Rattle.addr2line_elf.specs.declared.error.LoadError.TheVariants.{NotElf, UnsupportedElf, Truncated, CompressedSection, NeedsRelocation}
use Rattle.addr2line_elf.specs.declared.headers.FileHeader.{FileHeader}
use Rattle.addr2line_elf.specs.declared.headers.SectionHeader.{SectionHeader}
use Rattle.addr2line_elf.specs.ElfClasses.{section_header_size}
use Rattle.addr2line_elf.specs.ElfHeaders.{file_header, header_at, headers_at}
use Rattle.gimli_core_readers.specs.Results.{◌>>=◌}
use Rattle.addr2line_elf.specs.ImageLoading.{read_in, bytes_at}
use Rattle.addr2line_elf.specs.ElfTexts.{text_at, is_text}

-- ---- the identification: the first bytes of the file

-- ELFMAG
abbrev pub magic : List ℕ
magic = 0x7f ∷ codes "ELF"

-- the byte at EI_CLASS
abbrev pub class_of : Option ℕ → Result Class LoadError
class_of None = Err UnsupportedElf
class_of (Some n) =
    if n == ELFCLASS32 then Ok Elf32
    else if n == ELFCLASS64 then Ok Elf64
    else Err UnsupportedElf

-- the byte at EI_DATA: whether the more significant byte of a number comes first
abbrev pub is_big_of : Option ℕ → Result Bool LoadError
is_big_of None = Err UnsupportedElf
is_big_of (Some n) =
    if n == ELFDATA2LSB then Ok false
    else if n == ELFDATA2MSB then Ok true
    else Err UnsupportedElf

-- the class and the order of the bytes
pub record Identification : Type 0 where
  pub class : Class
  pub is_big : Bool

abbrev pub class_and_order : List ℕ → Result Identification LoadError
class_and_order file = do
  class ← class_of (slice_get file EI_CLASS)
  is_big ← is_big_of (slice_get file EI_DATA)
  Ok (record { class = class; is_big = is_big })

abbrev pub identification : List ℕ → Result Identification LoadError
identification file =
    if starts_with nat_eq file magic then class_and_order file else Err NotElf

-- ---- the bytes of a section

-- Sections of type SHT_NOBITS have no bytes in the file; those of the others are at their offset. A
-- byte's identifier is its offset in the file.
abbrev pub contents : SectionHeader → View → Result View LoadError
contents h file =
    if h.section_type == SHT_NOBITS
    then Ok (record { bytes = []; is_big = file.is_big; first = h.offset })
    else read_in file (bytes_at h.offset h.size)

abbrev pub contents_of : Option SectionHeader → View → Result View LoadError
contents_of None file = Err Truncated
contents_of (Some h) file = contents h file

-- the bytes of the section of an index; none where the index names no section
abbrev pub linked_contents : ℕ → List SectionHeader → View → Result View LoadError
linked_contents index sections file =
    if index == SHN_UNDEF then Ok (prefix 0 file) else contents_of (slice_get sections index) file

-- ---- the table of sections

-- the sections of a file, in order, and the string table with their names
pub record Sections : Type 0 where
  pub headers : List SectionHeader
  pub names : View

-- The number of section headers, and the index of the section with their names. If the file's
-- header has no room for them, they are in the first section header.
abbrev pub section_count : FileHeader → SectionHeader → ℕ
section_count header first = if header.count == 0 then first.size else header.count

abbrev pub names_index : FileHeader → SectionHeader → ℕ
names_index header first = if header.names == SHN_XINDEX then first.link else header.names

-- the headers are end to end in the file
abbrev pub table : Class → FileHeader → View → Result Sections LoadError
table class header file = do
  first ← read_in file (header_at class header.table_offset)
  headers ← read_in file (headers_at class header.table_offset (section_count header first))
  names ← linked_contents (names_index header first) headers file
  Ok (record { headers = headers; names = names })

-- a file without a table has no sections
abbrev pub sections_of : Class → FileHeader → View → Result Sections LoadError
sections_of class header file =
    if header.table_offset == 0 then Ok (record { headers = []; names = prefix 0 file })
    else if header.entry_size == section_header_size class then table class header file
    else Err UnsupportedElf

-- ---- the image

-- the file, and what is read of its headers
pub record Image : Type 0 where
  pub file : View
  pub class : Class
  pub file_type : ℕ
  pub sections : List SectionHeader
  pub names : View

-- the image with this header and these sections
abbrev pub image_with_headers : Class → View → FileHeader → Sections → Image
image_with_headers class file header sections = record {
  file = file;
  class = class;
  file_type = header.file_type;
  sections = sections.headers;
  names = sections.names;
}

abbrev pub image_in : Class → View → Result Image LoadError
image_in class file = do
  header ← read_in file (file_header class)
  sections ← sections_of class header file
  Ok (image_with_headers class file header sections)

-- the image of a file, or why it is refused
abbrev pub image_of : List ℕ → Result Image LoadError
image_of file = do
  id ← identification file
  image_in id.class (record { bytes = file; is_big = id.is_big; first = 0 })

-- ---- sections by name

-- a section's name, if it ends
abbrev pub name_of : SectionHeader → Image → Option (List ℕ)
name_of h image = text_at image.names.bytes h.name

-- the index of the first section of a name; the section at index 0 is skipped
abbrev pub index_named : List ℕ → Image → Option ℕ
index_named name image =
    option_map (λ n. n + 1)
    (position (λ h. is_text (name_of h image) name) (drop 1 image.sections))

-- In a file that is yet to be linked (ET_REL) a section of relocations changes the section whose
-- index is its info.
abbrev pub changes : ℕ → SectionHeader → Bool
changes index r =
    (r.section_type == SHT_RELA || r.section_type == SHT_REL)
    && nat_lt 0 r.size && r.info == index

abbrev pub waits_for_relocation : ℕ → Image → Bool
waits_for_relocation index image =
    image.file_type == ET_REL && list_any (changes index) image.sections

-- the bytes of a section, if neither decompression nor relocation has to change them
abbrev pub plain_contents : ℕ → SectionHeader → Image → Result View LoadError
plain_contents index h image = do
  view ← contents h image.file
  if bit_and h.flags SHF_COMPRESSED == 0
      then (if waits_for_relocation index image then Err NeedsRelocation else Ok view)
      else Err CompressedSection

-- a section without bytes in the file is empty, whatever else is in its header
abbrev pub debug_contents : ℕ → Option SectionHeader → Image → Result View LoadError
debug_contents index None image = Ok (prefix 0 image.file)
debug_contents index (Some h) image =
    if h.section_type == SHT_NOBITS then contents h image.file else plain_contents index h image

abbrev pub section_at : Option ℕ → Image → Result View LoadError
section_at None image = Ok (prefix 0 image.file)
section_at (Some index) image = debug_contents index (slice_get image.sections index) image

-- the bytes of the section of a name; none if there is no such section
abbrev pub section_named : List ℕ → Image → Result View LoadError
section_named name image = section_at (index_named name image) image

-- the addresses of a section: its first one and its end, where that is one of 64 bits
abbrev pub addresses : SectionHeader → Option (ℕ × ℕ)
addresses h =
    if nat_lt (h.address + h.size) (2 ^ 64) then Some (h.address, h.address + h.size) else None

abbrev pub addresses_of : Option SectionHeader → Option (ℕ × ℕ)
addresses_of None = None
addresses_of (Some h) = addresses h

abbrev pub addresses_at : Option ℕ → Image → Option (ℕ × ℕ)
addresses_at None image = None
addresses_at (Some index) image = addresses_of (slice_get image.sections index)

abbrev pub section_range : List ℕ → Image → Option (ℕ × ℕ)
section_range name image = addresses_at (index_named name image) image
