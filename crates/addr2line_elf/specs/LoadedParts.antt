-- The parts of a file that a loader reads: its headers, the sections of debugging information that
-- lookups read, and its symbols with their names.
use Rattle.std.specs.Prelude.{◌≡◌, ◌⊎◌, ℕ, ◌*◌, ◌==◌, ◌&&◌, ◌||◌, nat_lt, Bool, true, false, List, [], ◌∷◌, codes, length, Option, Some, None, option_and_then, Result, Ok, Err, if◌then◌else◌}
use Rattle.std.specs.List.{slice_get, list_all}
use Rattle.gimli_core_readers.specs.SectionId.{SectionId}
use Rattle.gimli_core_readers.specs.SectionId.TheVariants.{DebugAbbrev, DebugAddr, DebugAranges, DebugInfo, DebugLine, DebugLineStr, DebugRanges, DebugRngLists, DebugStr, DebugStrOffsets}
use Rattle.gimli_core_readers.specs.SectionNames.{name_of}
use Rattle.addr2line_elf.specs.declared.constants.TheConstants.{EI_NIDENT, SHN_UNDEF, SHT_NOBITS}
use Rattle.addr2line_elf.specs.declared.error.LoadError.{LoadError}
use Rattle.addr2line_elf.specs.declared.headers.FileHeader.{FileHeader}
use Rattle.addr2line_elf.specs.declared.headers.SectionHeader.{SectionHeader}
use Rattle.addr2line_elf.specs.ElfClasses.{file_header_size, section_header_size}
use Rattle.addr2line_elf.specs.ElfHeaders.{file_header, header_at}
use Rattle.addr2line_elf.specs.ElfImages.{Identification, identification, Image, image_of, index_named, section_count, names_index}
use Rattle.addr2line_elf.specs.ElfDebugSections.{main_section}
use Rattle.addr2line_elf.specs.ElfSymbols.{symbol_table, symbols_of}
use Rattle.addr2line_elf.specs.FileParts.{AreApart, AreThere, PartialFile, covers}
use Rattle.addr2line_elf.specs.ImageLoading.{read_in}

-- how many of a file's first bytes say what it is, or all that there are
abbrev pub head_size : ℕ → ℕ
head_size len = if nat_lt len EI_NIDENT then len else EI_NIDENT

-- ---- sections

-- the bytes of a section are in memory, if there is a section and it has bytes in the file
abbrev pub covers_section : Option SectionHeader → PartialFile → Bool
covers_section None file = true
covers_section (Some h) file = h.section_type == SHT_NOBITS || covers h.offset h.size file

-- those of the section of an index, if the index names one
abbrev pub covers_linked : ℕ → List SectionHeader → PartialFile → Bool
covers_linked index sections file =
    index == SHN_UNDEF || covers_section (slice_get sections index) file

-- those of the first section of a name
abbrev pub covers_named : List ℕ → Image → PartialFile → Bool
covers_named name image file =
    covers_section (option_and_then (slice_get image.sections) (index_named name image)) file

-- ---- headers

-- all headers of sections, by the first of them, and the section with their names
abbrev pub covers_table_by : Result SectionHeader LoadError → FileHeader → Image → PartialFile
    → Bool
covers_table_by (Err e) header image file = false
covers_table_by (Ok first) header image file =
    covers header.table_offset
    (section_count header first * section_header_size image.class) file
    && covers_linked (names_index header first) image.sections file

-- where there is a table of sections, the first of its headers, and then all of it
abbrev pub covers_table : FileHeader → Image → PartialFile → Bool
covers_table header image file =
    header.table_offset == 0
    || (covers header.table_offset (section_header_size image.class) file
    && covers_table_by (read_in image.file (header_at image.class header.table_offset)) header image
    file)

-- the file's header, and then the table of sections
abbrev pub covers_headers_by : Result FileHeader LoadError → Image → PartialFile → Bool
covers_headers_by (Err e) image file = false
covers_headers_by (Ok header) image file =
    covers 0 (file_header_size image.class) file && covers_table header image file

abbrev pub covers_headers : Image → PartialFile → Bool
covers_headers image file =
    covers_headers_by (read_in image.file (file_header image.class)) image file

-- ---- what lookups read

-- the sections of debugging information of a main file
abbrev pub read_ids : List SectionId
read_ids =
    DebugAbbrev ∷ DebugAddr ∷ DebugAranges ∷ DebugInfo ∷ DebugLine ∷ DebugLineStr ∷ DebugRanges
    ∷ DebugRngLists ∷ DebugStr ∷ DebugStrOffsets ∷ []

-- the section with the symbols, and the one with their names
abbrev pub covers_symbols : Option SectionHeader → Image → PartialFile → Bool
covers_symbols None image file = true
covers_symbols (Some h) image file =
    covers_section (Some h) file && covers_linked h.link image.sections file

-- these sections, and the one of all symbols by its name (System V ABI, "Special Sections")
abbrev pub covers_sections : Image → PartialFile → Bool
covers_sections image file =
    list_all (λ id. covers_named (name_of id) image file) read_ids
    && covers_named (codes ".symtab") image file
    && covers_symbols (symbol_table image.sections) image file

-- ---- files

-- an image, and all that a loader reads of it
pub record HasImage (file : PartialFile) : Type 0 where
  pub image : Image
  pub is_image : image_of file.bytes ≡ Ok image
  pub headers : covers_headers image file ≡ true
  pub sections : covers_sections image file ≡ true

abbrev pub HasImageIfElf : Result Identification LoadError → PartialFile → Type 0
HasImageIfElf (Err e) file = Unit {0}
HasImageIfElf (Ok id) file = HasImage file

-- All that a loader reads of a file is in memory: the first bytes, which say whether it is an ELF
-- file that can be read, and if so, what it reads of the image. No byte was read twice.
pub record HasLoadedParts (file : PartialFile) : Type 0 where
  pub there : AreThere file.bytes file.parts
  pub apart : AreApart file.parts
  pub head : covers 0 (head_size (length file.bytes)) file ≡ true
  pub rest : HasImageIfElf (identification file.bytes) file

-- a file of which all bytes are one part
abbrev pub IsWhole : PartialFile → Type 0
IsWhole file = file.parts ≡ record { offset = 0; bytes = file.bytes } ∷ []

-- all that a loader reads of a file is in memory, or all of the file
abbrev pub IsLoadable : PartialFile → Type 0
IsLoadable file = IsWhole file ⊎ HasLoadedParts file

-- ---- what a loader gets of a file

-- two images, whose sections of debugging information and symbols are the same
pub record AlikeImages (a b : Image) : Type 0 where
  pub class : a.class ≡ b.class
  pub is_big : a.file.is_big ≡ b.file.is_big
  pub file_type : a.file_type ≡ b.file_type
  pub sections : a.sections ≡ b.sections
  pub names : a.names ≡ b.names
  pub debug : (id : SectionId) → main_section id a ≡ main_section id b
  pub symbols : symbols_of a ≡ symbols_of b

-- or the same refusal
abbrev pub AreAlike : Result Image LoadError → Result Image LoadError → Type 0
AreAlike (Ok a) (Ok b) = AlikeImages a b
AreAlike (Err e) (Err d) = e ≡ d
AreAlike a b = ⊥

-- a loader gets the same of two files
abbrev pub LoadsAlike : List ℕ → List ℕ → Type 0
LoadsAlike bytes other = AreAlike (image_of bytes) (image_of other)
