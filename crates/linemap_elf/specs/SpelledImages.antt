-- The ELF image that holds some sections (System V ABI, "ELF Header" and "Sections"): the file's
-- header, the sections' bytes one after the other, the names of the sections, and the section
-- headers.
use Rattle.std.specs.Prelude.{ℕ, ◌+◌, ◌-◌, ◌*◌, ◌/◌, ◌^◌, ◌<◌, Bool, List, [], ◌∷◌, ◌++◌, length, map, replicate, codes, flat_map, if◌then◌else◌}
use Rattle.gimli_lines_write_bytes.specs.Fixed.{number_bytes}
use Rattle.addr2line_elf.specs.declared.class.Class.{Class}
use Rattle.addr2line_elf.specs.declared.class.Class.TheVariants.{Elf32, Elf64}
use Rattle.addr2line_elf.specs.declared.headers.SectionHeader.{SectionHeader}
use Rattle.addr2line_elf.specs.ElfClasses.{word_size, section_header_size}
use Rattle.addr2line_elf.specs.ElfImages.{magic}
use Rattle.linemap_elf.specs.declared.constants.TheConstants.{ELFCLASS32, ELFCLASS64, ELFDATA2LSB, ELFDATA2MSB, EV_CURRENT, ET_EXEC, EM_NONE, SHT_PROGBITS, SHT_STRTAB}

-- ---- fields

-- a number, and how many bytes it is written in
pub record SizedNumber : Type 0 where
  pub width : ℕ
  pub value : ℕ

-- a half word, a word, and an address, an offset or a size of a class
abbrev pub half : ℕ → SizedNumber
half n = record { width = 2; value = n }

abbrev pub word : ℕ → SizedNumber
word n = record { width = 4; value = n }

abbrev pub address : Class → ℕ → SizedNumber
address class n = record { width = word_size class; value = n }

-- fields one after the other
abbrev pub spelled_fields : Bool → List SizedNumber → List ℕ
spelled_fields is_big fields = flat_map (λ f. number_bytes is_big f.width f.value) fields

-- ---- the file's header

-- its bytes, with those of the identification
abbrev pub file_header_size : Class → ℕ
file_header_size Elf32 = 52
file_header_size Elf64 = 64

abbrev pub class_number : Class → ℕ
class_number Elf32 = ELFCLASS32
class_number Elf64 = ELFCLASS64

abbrev pub order_number : Bool → ℕ
order_number is_big = if is_big then ELFDATA2MSB else ELFDATA2LSB

-- the identification: the class, the order of bytes and the version; nine bytes that are 0 fill it
abbrev pub spelled_identification : Class → Bool → List ℕ
spelled_identification class is_big =
    magic ++ class_number class ∷ order_number is_big ∷ EV_CURRENT ∷ replicate 9 0

-- The rest, of a file with a number of section headers from an offset on, the last of which is that
-- of the names: type, machine and version; entry point, offset of program headers, offset of
-- section headers; flags; sizes of this header and of a program header, number of program headers;
-- size and number of section headers, and the index of the names.
abbrev pub file_header_fields : Class → ℕ → ℕ → List SizedNumber
file_header_fields class table_offset count =
    half ET_EXEC ∷ half EM_NONE ∷ word EV_CURRENT
    ∷ address class 0 ∷ address class 0 ∷ address class table_offset
    ∷ word 0
    ∷ half (file_header_size class) ∷ half 0 ∷ half 0
    ∷ half (section_header_size class) ∷ half count ∷ half (count - 1) ∷ []

-- ---- section headers

-- name, type, flags, address, offset, size, link, info, alignment, and the size of an entry
abbrev pub section_header_fields : Class → ℕ → SectionHeader → List SizedNumber
section_header_fields class alignment h =
    word h.name ∷ word h.section_type ∷ address class h.flags ∷ address class h.address
    ∷ address class h.offset ∷ address class h.size ∷ word h.link ∷ word h.info
    ∷ address class alignment ∷ address class 0 ∷ []

abbrev pub spelled_section_header : Class → Bool → ℕ → SectionHeader → List ℕ
spelled_section_header class is_big alignment h =
    spelled_fields is_big (section_header_fields class alignment h)

-- the fields of a header have room for its numbers
pub record FitsHeader (class : Class) (h : SectionHeader) : Type 0 where
  pub name : h.name < 256 ^ 4
  pub section_type : h.section_type < 256 ^ 4
  pub flags : h.flags < 256 ^ word_size class
  pub address : h.address < 256 ^ word_size class
  pub offset : h.offset < 256 ^ word_size class
  pub size : h.size < 256 ^ word_size class
  pub link : h.link < 256 ^ 4
  pub info : h.info < 256 ^ 4

-- the header of a section of a type, whose name and bytes are at two offsets
abbrev pub plain_header : (section_type name offset size : ℕ) → SectionHeader
plain_header section_type name offset size = record {
  name = name;
  section_type = section_type;
  flags = 0;
  address = 0;
  offset = offset;
  size = size;
  link = 0;
  info = 0;
}

-- the header at index 0, of no section
abbrev pub null_header : SectionHeader
null_header = plain_header 0 0 0 0

-- ---- sections

-- the bytes of a name
pub record NamedBytes : Type 0 where
  pub name : List ℕ
  pub bytes : List ℕ

-- a section, with its type
pub record ImageSection : Type 0 where
  pub name : List ℕ
  pub section_type : ℕ
  pub bytes : List ℕ

abbrev pub program_section : NamedBytes → ImageSection
program_section s = record { name = s.name; section_type = SHT_PROGBITS; bytes = s.bytes }

-- a name and its zero byte
abbrev pub spelled_name : List ℕ → List ℕ
spelled_name name = name ++ 0 ∷ []

-- the name of the section of names
abbrev pub names_name : List ℕ
names_name = codes ".shstrtab"

-- the bytes of the section of names: the empty name, and then each name
abbrev pub spelled_names : List (List ℕ) → List ℕ
spelled_names names = 0 ∷ flat_map spelled_name names

-- the section of the names of some sections, and of its own
abbrev pub names_section : List NamedBytes → ImageSection
names_section sections = record {
  name = names_name;
  section_type = SHT_STRTAB;
  bytes = spelled_names (map (λ s. s.name) sections ++ names_name ∷ []);
}

-- some sections, and the section of names
abbrev pub all_sections : List NamedBytes → List ImageSection
all_sections sections = map program_section sections ++ names_section sections ∷ []

-- ---- where the parts are

-- the header of a section whose name and bytes are at two offsets
abbrev pub header_of : ℕ → ℕ → ImageSection → SectionHeader
header_of name offset s = plain_header s.section_type name offset (length s.bytes)

-- the headers of sections whose names and bytes follow each other from two offsets on
abbrev pub headers_from : ℕ → ℕ → List ImageSection → List SectionHeader
headers_from name offset [] = []
headers_from name offset (s ∷ ss) =
    header_of name offset s
    ∷ headers_from (name + length (spelled_name s.name)) (offset + length s.bytes) ss

-- the bytes of all sections, and where they end
abbrev pub body : List NamedBytes → List ℕ
body sections = flat_map (λ s. s.bytes) (all_sections sections)

abbrev pub body_end : Class → List NamedBytes → ℕ
body_end class sections = file_header_size class + length (body sections)

-- the section headers begin at a multiple of 8
abbrev pub next_multiple_of_8 : ℕ → ℕ
next_multiple_of_8 n = (n + 7) / 8 * 8

abbrev pub table_offset : Class → List NamedBytes → ℕ
table_offset class sections = next_multiple_of_8 (body_end class sections)

-- how many section headers there are: those of the sections, of no section, and of the names
abbrev pub header_count : List NamedBytes → ℕ
header_count sections = length sections + 2

-- ---- the image

abbrev pub spelled_file_header : Class → Bool → List NamedBytes → List ℕ
spelled_file_header class is_big sections =
    spelled_identification class is_big
    ++ spelled_fields is_big
    (file_header_fields class (table_offset class sections) (header_count sections))

-- zero bytes up to the section headers
abbrev pub padding : Class → List NamedBytes → List ℕ
padding class sections =
    replicate (table_offset class sections - body_end class sections) 0

-- the section headers; names begin after the empty one, and bytes after the file's header
abbrev pub spelled_table : Class → Bool → List NamedBytes → List ℕ
spelled_table class is_big sections =
    spelled_section_header class is_big 0 null_header
    ++ flat_map (spelled_section_header class is_big 1)
    (headers_from 1 (file_header_size class) (all_sections sections))

abbrev pub spelled_image : Class → Bool → List NamedBytes → List ℕ
spelled_image class is_big sections =
    spelled_file_header class is_big sections
    ++ (body sections
    ++ (padding class sections
    ++ spelled_table class is_big sections))

-- the number of its bytes
abbrev pub image_size : Class → List NamedBytes → ℕ
image_size class sections =
    table_offset class sections + header_count sections * section_header_size class
