-- The bytes of an image after decompression: the file's own, in which the section headers are
-- changed, and after them the texts, and the section of names if there are new ones.
use Rattle.std.specs.Prelude.{ℕ, ◌+◌, ◌*◌, ◌^◌, not, nat_lt, Bool, List, [], ◌∷◌, ◌++◌, length, take, drop, flat_map, sum_by, unwrap_or, Option, Some, None, Result, Ok, if◌then◌else◌}
use Rattle.std.specs.Option.{is_some}
use Rattle.gimli_core_readers.specs.Fixed.{number_bytes}
use Rattle.gimli_core_readers.specs.Results.{◌>>=◌, some_of}
use Rattle.addr2line_elf.specs.declared.class.Class.{Class}
use Rattle.addr2line_elf.specs.declared.class.Class.TheVariants.{Elf32, Elf64}
use Rattle.addr2line_elf.specs.declared.headers.SectionHeader.{SectionHeader}
use Rattle.addr2line_elf.specs.ElfClasses.{word_size}
use Rattle.addr2line_decompress.specs.declared.error.DecompressError.{DecompressError}
use Rattle.addr2line_decompress.specs.declared.error.DecompressError.TheVariants.{OverlappingHeaders, TooLarge}
use Rattle.addr2line_decompress.specs.declared.sections.DebugSections.{DebugSections}
use Rattle.addr2line_decompress.specs.Compression.{Change, size_of}
use Rattle.addr2line_decompress.specs.CompressedSections.{Section, has_compressed, refuse_all_names, new_names, names_start, refuse_new_names, sections_from, texts_from}
use Rattle.addr2line_decompress.specs.DecompressResults.{refuse_if, or_image}
use Rattle.addr2line_decompress.specs.ImageTables.{ImageTable, file_header_size, table_of, file_bytes, table_end}

-- ---- section headers

-- how many new bytes a section has
abbrev pub new_size : Option Change → ℕ
new_size None = 0
new_size (Some change) = size_of change.content

-- the header of a section that changes, if it does, with its new bytes at an offset
abbrev pub changed_header : SectionHeader → ℕ → Option Change → SectionHeader
changed_header h offset None = h
changed_header h offset (Some change) = record h {
  name = change.name;
  flags = change.flags;
  offset = offset;
  size = size_of change.content;
}

abbrev pub header_after : ℕ → Section → SectionHeader
header_after offset s = changed_header s.header offset s.change

-- the headers of sections whose new bytes follow each other from an offset on
abbrev pub headers_after : ℕ → List Section → List SectionHeader
headers_after offset [] = []
headers_after offset (s ∷ ss) =
    header_after offset s ∷ headers_after (offset + new_size s.change) ss

-- the bytes of a header's name and type, four each, with another name
abbrev pub name_and_type : Bool → SectionHeader → List ℕ → List ℕ
name_and_type is_big h entry = number_bytes is_big 4 h.name ++ take 4 (drop 4 entry)

-- The bytes of a header with another name, other flags, another offset and another size. The
-- address is between flags and offset.
abbrev pub changed_entry : Class → Bool → SectionHeader → List ℕ → List ℕ
changed_entry class is_big h entry =
    let w = word_size class in
    name_and_type is_big h entry
    ++ (number_bytes is_big w h.flags
    ++ (take w (drop (8 + w) entry)
    ++ (number_bytes is_big w h.offset
    ++ (number_bytes is_big w h.size
    ++ drop (8 + 4 * w) entry))))

abbrev pub entry_after : Class → Bool → ℕ → Section → List ℕ
entry_after class is_big offset s =
    if is_some s.change then changed_entry class is_big (header_after offset s) s.entry
    else s.entry

-- the section headers, end to end
abbrev pub table_bytes : Class → Bool → ℕ → List Section → List ℕ
table_bytes class is_big offset [] = []
table_bytes class is_big offset (s ∷ ss) =
    entry_after class is_big offset s ++ table_bytes class is_big (offset + new_size s.change) ss

-- ---- the file

abbrev pub text_bytes : Option (List ℕ) → List ℕ
text_bytes None = []
text_bytes (Some text) = text

-- the end of the new bytes, which begin where the file ends
abbrev pub size_after : ImageTable → List Section → ℕ
size_after table sections = length (file_bytes table) + sum_by (λ s. new_size s.change) sections

-- sizes and offsets are below this
abbrev pub size_limit : Class → ℕ
size_limit Elf32 = 2 ^ 32
size_limit Elf64 = 2 ^ 63

-- the size of a file of some bytes and of the new bytes after it, if it is below a limit
abbrev pub size_below : ℕ → List Section → ℕ → Option ℕ
size_below len sections limit =
    let size = len + sum_by (λ s. new_size s.change) sections in
    if nat_lt size limit then Some size else None

abbrev pub bytes_after : ImageTable → List Section → List (Option (List ℕ)) → List ℕ
bytes_after table sections texts =
    let file = file_bytes table in
    take table.offset file
    ++ (table_bytes table.image.class table.image.file.is_big (length file) sections
    ++ (drop (table_end table) file ++ flat_map text_bytes texts))

-- the texts, unless the image with them is too large
abbrev pub texts_if_small : ImageTable → List Section
    → Result (List (Option (List ℕ))) DecompressError
texts_if_small table sections = do
  small ← refuse_if (not (nat_lt (size_after table sections) (size_limit table.image.class)))
      TooLarge
  texts_from 0 sections

abbrev pub with_texts : ImageTable → List Section → Result (List ℕ) DecompressError
with_texts table sections = do
  texts ← texts_if_small table sections
  Ok (bytes_after table sections texts)

-- the sections of an image that has compressed ones, and the texts of those
pub record SectionTexts : Type 0 where
  pub sections : List Section
  pub texts : List (Option (List ℕ))

abbrev pub section_texts : DebugSections → ImageTable → Result SectionTexts DecompressError
section_texts which table = do
  apart ← refuse_if (nat_lt table.offset (file_header_size table.image.class)) OverlappingHeaders
  stay ← refuse_all_names which table
  let names = new_names which table.image
  fit ← refuse_new_names table names
  sections ← sections_from which table names 0 (names_start table.image names)
      table.image.sections
  texts ← texts_if_small table sections
  Ok (record { sections = sections; texts = texts })

abbrev pub new_image : DebugSections → ImageTable → Result (List ℕ) DecompressError
new_image which table = do
  found ← section_texts which table
  Ok (bytes_after table found.sections found.texts)

-- none where nothing is compressed
abbrev pub if_any : {A : Type 0} → DebugSections → ImageTable → Result A DecompressError
    → Result (Option A) DecompressError
if_any which table result =
    if has_compressed which table.image 0 table.image.sections then some_of result else Ok None

abbrev pub new_image_if_any : DebugSections → List ℕ
    → Result (Option (List ℕ)) DecompressError
new_image_if_any which file = do
  table ← or_image (table_of file)
  if_any which table (new_image which table)

-- an image in which nothing is compressed stays as it is
abbrev pub decompressed : DebugSections → List ℕ → Result (List ℕ) DecompressError
decompressed which file = do
  bytes ← new_image_if_any which file
  Ok (unwrap_or bytes file)
