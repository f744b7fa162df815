-- The headers of an ELF file, field by field (System V ABI, "ELF Header" and "Sections"). Fields
-- that are skipped aren't read.
use Rattle.std.specs.Prelude.{ℕ, ◌*◌, List}
use Rattle.gimli_core_readers.specs.Parsers.{Parser, ◌>>=◌, ◌>>◌, give, skip}
use Rattle.gimli_core_readers.specs.Repetition.{times}
use Rattle.gimli_core_readers.specs.NumberParsers.{fixed}
use Rattle.addr2line_elf.specs.declared.class.Class.{Class}
use Rattle.addr2line_elf.specs.declared.headers.FileHeader.{FileHeader}
use Rattle.addr2line_elf.specs.declared.headers.SectionHeader.{SectionHeader}
use Rattle.addr2line_elf.specs.ElfClasses.{word_size}

-- the file's header: after the sixteen bytes of its identification the file's type, machine and
-- version, its entry point and the offsets of both tables, flags, the header's own size, the size
-- and number of program headers and of section headers, and the index of the section with their
-- names
unfoldable pub file_header : Class → Parser FileHeader
file_header class = do
  identification ← skip 16
  file_type ← fixed 2
  machine_version ← skip 6
  entry_point ← skip (word_size class)
  program_headers ← skip (word_size class)
  table_offset ← fixed (word_size class)
  flags_program_headers ← skip 10
  entry_size ← fixed 2
  count ← fixed 2
  names ← fixed 2
  give (record {
    file_type = file_type;
    table_offset = table_offset;
    entry_size = entry_size;
    count = count;
    names = names;
  })

-- a section's header: name, type, flags, address, offset, size, link, info, and then its alignment
-- and the size of its entries
unfoldable pub section_header : Class → Parser SectionHeader
section_header class = do
  name ← fixed 4
  section_type ← fixed 4
  flags ← fixed (word_size class)
  address ← fixed (word_size class)
  offset ← fixed (word_size class)
  size ← fixed (word_size class)
  link ← fixed 4
  info ← fixed 4
  alignment_entry_size ← skip (2 * word_size class)
  give (record {
    name = name;
    section_type = section_type;
    flags = flags;
    address = address;
    offset = offset;
    size = size;
    link = link;
    info = info;
  })

-- the section header at an offset of the file, and a number of them from there on, end to end
abbrev pub header_at : Class → ℕ → Parser SectionHeader
header_at class offset = skip offset >> section_header class

abbrev pub headers_at : Class → ℕ → ℕ → Parser (List SectionHeader)
headers_at class offset count = skip offset >> times count (section_header class)
