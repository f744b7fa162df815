-- The sections of an image that are decompressed, with their streams, and those that stay.
use Rattle.std.specs.Prelude.{ℕ, ◌+◌, ◌*◌, ◌^◌, ◌==◌, ◌&&◌, ◌||◌, not, nat_eq, nat_lt, bit_and, bit_xor, Bool, true, false, List, [], ◌∷◌, ◌++◌, codes, length, take, drop, Option, Some, None, option_map, Result, Ok, Err, if◌then◌else◌}
use Rattle.std.specs.List.{slice_get, starts_with}
use Rattle.std.specs.Option.{is_some, is_none}
use Rattle.gimli_core_readers.specs.View.{View}
use Rattle.gimli_core_readers.specs.Results.{◌>>=◌, some_of}
use Rattle.addr2line_elf.specs.declared.class.Class.{Class}
use Rattle.addr2line_elf.specs.declared.headers.SectionHeader.{SectionHeader}
use Rattle.addr2line_elf.specs.ElfClasses.{section_header_size}
use Rattle.addr2line_elf.specs.ElfImages.{Image, name_of, index_named, contents}
use Rattle.addr2line_elf.specs.ElfSymbols.{symbol_table}
use Rattle.addr2line_inflate.specs.Streams.{inflated}
use Rattle.addr2line_decompress.specs.declared.compression.CompressionHeader.{CompressionHeader}
use Rattle.addr2line_elf.specs.declared.constants.TheConstants.{SHT_SYMTAB, SHT_RELA, SHT_NOBITS, SHT_REL, SHT_DYNSYM, SHF_COMPRESSED, SHN_UNDEF}
use Rattle.addr2line_decompress.specs.declared.constants.TheConstants.{ELFCOMPRESS_ZLIB, ELFCOMPRESS_ZSTD, MOST_OF_ONE_BYTE}
use Rattle.addr2line_decompress.specs.declared.error.DecompressError.{DecompressError}
use Rattle.addr2line_decompress.specs.declared.error.DecompressError.TheVariants.{OverlappingSection, SectionCut, CompressedNames, SharedNames, NameCut, Zstandard, UnknownCompression, ImpossibleSize, TooLarge}
use Rattle.addr2line_decompress.specs.declared.sections.DebugSections.{DebugSections}
use Rattle.addr2line_decompress.specs.DebugSectionNames.{is_among, is_wanted, is_old_name, new_name}
use Rattle.addr2line_decompress.specs.DecompressResults.{refuse_if, or_image, or_header_cut, or_stream}
use Rattle.addr2line_decompress.specs.Compression.{compression_header, old_header, Content, Change}
use Rattle.addr2line_decompress.specs.ImageTables.{ImageTable, file_bytes, table_end}

-- ---- the text of a compressed section

-- the type must be that of the zlib format
abbrev pub refuse_kind : ℕ → ℕ → Result (Unit {0}) DecompressError
refuse_kind index kind =
    if kind == ELFCOMPRESS_ZLIB then Ok tt
    else if kind == ELFCOMPRESS_ZSTD then Err (Zstandard index)
    else Err (UnknownCompression index kind)

-- A stream, in the section of an index, with the size of its text: no more bytes than the stream's
-- bytes can make.
abbrev pub stream_with : ℕ → ℕ → List ℕ → Result Content DecompressError
stream_with index size bytes = do
  possible ← refuse_if (nat_lt (MOST_OF_ONE_BYTE * length bytes) size) (ImpossibleSize index)
  Ok (record { bytes = bytes; text_size = Some size })

-- the stream after a header
abbrev pub stream_after : ℕ → CompressionHeader → List ℕ → Result Content DecompressError
stream_after index h bytes = do
  kind ← refuse_kind index h.kind
  stream_with index h.size bytes

abbrev pub stream_of : ℕ → Class → View → Result Content DecompressError
stream_of index class section = do
  read ← or_header_cut index (compression_header class section)
  stream_after index read.0 read.1.bytes

-- In GNU's old form the more significant byte of the size comes first, in every file. A section
-- that begins otherwise isn't compressed.
abbrev pub old_stream : ℕ → List ℕ → Result Content DecompressError
old_stream index section = do
  read ← or_header_cut index (old_header (record { bytes = section; is_big = true; first = 0 }))
  stream_with index read.0 read.1.bytes

abbrev pub old_content : ℕ → List ℕ → Result Content DecompressError
old_content index section =
    if starts_with nat_eq section (codes "ZLIB") then old_stream index section
    else Ok (record { bytes = section; text_size = None })

-- the text of a stream, or the section's own bytes
abbrev pub text_from : ℕ → List ℕ → Option ℕ → Result (List ℕ) DecompressError
text_from index bytes None = Ok bytes
text_from index bytes (Some size) = or_stream index (inflated bytes size)

abbrev pub text_of : ℕ → Content → Result (List ℕ) DecompressError
text_of index c = text_from index c.bytes c.text_size

-- ---- which sections are compressed

-- A section of symbols or relocations, or without bytes in the file, isn't one of debugging
-- information, whatever its name.
abbrev pub has_other_type : SectionHeader → Bool
has_other_type h =
    h.section_type == SHT_NOBITS || h.section_type == SHT_SYMTAB || h.section_type == SHT_DYNSYM
    || h.section_type == SHT_RELA || h.section_type == SHT_REL

-- flagged as compressed; the section at index 0 is skipped
abbrev pub is_flagged : DebugSections → Image → ℕ → SectionHeader → Bool
is_flagged which image index h =
    not (index == SHN_UNDEF) && not (bit_and h.flags SHF_COMPRESSED == 0) && not (has_other_type h)
    && is_wanted which (name_of h image)

-- a name, if it is among those that are decompressed, and no section has it
abbrev pub if_free : DebugSections → Image → List ℕ → Option (List ℕ)
if_free which image name =
    if is_among which name && is_none (index_named name image) then Some name else None

-- the new name for a name
abbrev pub new_name_for : DebugSections → Image → Option (List ℕ) → Option (List ℕ)
new_name_for which image None = None
new_name_for which image (Some name) =
    if is_old_name name then if_free which image (new_name name) else None

-- the new name of a section in GNU's old form; none where it isn't one
abbrev pub new_name_of : DebugSections → Image → ℕ → SectionHeader → Option (List ℕ)
new_name_of which image index h =
    if not (index == SHN_UNDEF) && bit_and h.flags SHF_COMPRESSED == 0 && not (has_other_type h)
    then new_name_for which image (name_of h image) else None

-- in the one form or the other
abbrev pub is_compressed : DebugSections → Image → ℕ → SectionHeader → Bool
is_compressed which image index h =
    is_flagged which image index h || is_some (new_name_of which image index h)

-- one of the sections from an index on is
abbrev pub has_compressed : DebugSections → Image → ℕ → List SectionHeader → Bool
has_compressed which image index [] = false
has_compressed which image index (h ∷ hs) =
    is_compressed which image index h || has_compressed which image (index + 1) hs

-- ---- names

-- the name of a section after decompression: the new one, if it gets one
abbrev pub name_or : Option (List ℕ) → Option (List ℕ) → Option (List ℕ)
name_or None name = name
name_or (Some new) name = Some new

abbrev pub name_after : DebugSections → Image → ℕ → SectionHeader → Option (List ℕ)
name_after which image index h = name_or (new_name_of which image index h) (name_of h image)

-- the bytes of a name in a string table: a zero byte ends it
abbrev pub ended : Option (List ℕ) → List ℕ
ended None = []
ended (Some name) = name ++ 0 ∷ []

-- the new names of the sections from an index on, end to end
abbrev pub added_names : DebugSections → Image → ℕ → List SectionHeader → List ℕ
added_names which image index [] = []
added_names which image index (h ∷ hs) =
    ended (new_name_of which image index h) ++ added_names which image (index + 1) hs

-- The string table of all names, the old ones and after them the new ones; none where no section
-- gets a new one.
abbrev pub with_added : List ℕ → List ℕ → Option (List ℕ)
with_added old [] = None
with_added old (b ∷ bs) = Some (old ++ b ∷ bs)

abbrev pub new_names : DebugSections → Image → Option (List ℕ)
new_names which image = with_added image.names.bytes (added_names which image 0 image.sections)

-- where the new names begin in it
abbrev pub names_start : Image → Option (List ℕ) → ℕ
names_start image None = 0
names_start image (Some names) = length image.names.bytes

-- the section of an index has the names, and there are new ones
abbrev pub holds : ℕ → ℕ → Option (List ℕ) → Bool
holds names_index index None = false
holds names_index index (Some names) = not (index == SHN_UNDEF) && index == names_index

-- ---- sections that stay

-- the bytes of a section overlap those of the section headers
abbrev pub overlaps : ImageTable → SectionHeader → Bool
overlaps table h =
    nat_lt table.offset (h.offset + h.size) && nat_lt h.offset (table_end table)

-- the bytes of a section that stays are in the file, apart from the section headers
abbrev pub refuse_staying : ImageTable → ℕ → SectionHeader → Result (Unit {0}) DecompressError
refuse_staying table index h =
    if h.section_type == SHT_NOBITS then Ok tt else (do
      in_file ← refuse_if (nat_lt (length (file_bytes table)) (h.offset + h.size))
          (SectionCut index)
      refuse_if (overlaps table h) (OverlappingSection index))

-- the section of an index, which holds names, must stay
abbrev pub refuse_names : DebugSections → Image → ℕ → Option SectionHeader
    → Result (Unit {0}) DecompressError
refuse_names which image index None = Ok tt
refuse_names which image index (Some h) =
    refuse_if (is_compressed which image index h) (CompressedNames index)

-- the index of the section with the names of symbols
abbrev pub link_of : Option SectionHeader → ℕ
link_of None = SHN_UNDEF
link_of (Some h) = h.link

-- the names of sections, and those of symbols, must stay
abbrev pub refuse_all_names : DebugSections → ImageTable → Result (Unit {0}) DecompressError
refuse_all_names which table = do
  sections ← refuse_names which table.image table.names_index
      (slice_get table.image.sections table.names_index)
  let symbols = link_of (symbol_table table.image.sections)
  refuse_names which table.image symbols (slice_get table.image.sections symbols)

-- ---- new names

-- the names of the sections from an index on end, but for that of the section at index 0
abbrev pub refuse_unnamed : Image → ℕ → List SectionHeader → Result (Unit {0}) DecompressError
refuse_unnamed image index [] = Ok tt
refuse_unnamed image index (h ∷ hs) = do
  named ← refuse_if (not (index == SHN_UNDEF) && is_none (name_of h image)) (NameCut index)
  refuse_unnamed image (index + 1) hs

-- new names must not change what else is read, and have offsets of 32 bits
abbrev pub refuse_new_names : ImageTable → Option (List ℕ) → Result (Unit {0}) DecompressError
refuse_new_names table None = Ok tt
refuse_new_names table (Some names) = do
  own ← refuse_if (link_of (symbol_table table.image.sections) == table.names_index)
      (SharedNames table.names_index)
  named ← refuse_unnamed table.image 0 table.image.sections
  refuse_if (not (nat_lt (length names) (2 ^ 32))) TooLarge

-- ---- all sections

-- a section's header, the header's bytes, and what of the section changes
pub record Section : Type 0 where
  pub header : SectionHeader
  pub entry : List ℕ
  pub change : Option Change

-- the bytes of the section header of an index
abbrev pub entry_of : ImageTable → ℕ → List ℕ
entry_of table index =
    let size = section_header_size table.image.class in
    take size (drop (table.offset + index * size) (file_bytes table))

-- a section that is flagged has its text, and is flagged no more
abbrev pub flagged_change : ImageTable → ℕ → SectionHeader → Result Change DecompressError
flagged_change table index h = do
  bytes ← or_image (contents h table.image.file)
  content ← stream_of index table.image.class bytes
  Ok (record { name = h.name; flags = bit_xor h.flags SHF_COMPRESSED; content = content })

-- one in GNU's old form has its text, and its new name, which begins at an offset
abbrev pub old_change : ImageTable → ℕ → ℕ → SectionHeader → Result Change DecompressError
old_change table index name h = do
  bytes ← or_image (contents h table.image.file)
  content ← old_content index bytes.bytes
  Ok (record { name = name; flags = h.flags; content = content })

-- a section that can't get other bytes: it holds symbols or relocations, or none, or is flagged
abbrev pub is_fixed : SectionHeader → Bool
is_fixed h = has_other_type h || not (bit_and h.flags SHF_COMPRESSED == 0)

-- the section of the names has new ones
abbrev pub names_change : List ℕ → SectionHeader → Change
names_change names h =
    record { name = h.name; flags = h.flags; content = record { bytes = names; text_size = None } }

-- any other stays
abbrev pub other_change : ImageTable → Option (List ℕ) → ℕ → SectionHeader
    → Result (Option Change) DecompressError
other_change table names index h =
    if holds table.names_index index names then (do
      own ← refuse_if (is_fixed h) (SharedNames index)
      Ok (option_map (λ n. names_change n h) names))
    else (do
      stays ← refuse_staying table index h
      Ok None)

-- what changes of a section, whose new name, if it gets one, begins at an offset
abbrev pub section_change : DebugSections → ImageTable → Option (List ℕ) → ℕ → ℕ → SectionHeader
    → Result (Option Change) DecompressError
section_change which table names index name h =
    if is_flagged which table.image index h then some_of (flagged_change table index h)
    else if is_some (new_name_of which table.image index h)
    then some_of (old_change table index name h)
    else other_change table names index h

abbrev pub section_of : DebugSections → ImageTable → Option (List ℕ) → ℕ → ℕ → SectionHeader
    → Result Section DecompressError
section_of which table names index name h = do
  change ← section_change which table names index name h
  Ok (record { header = h; entry = entry_of table index; change = change })

-- the sections from an index on, or the first refusal; their new names begin at an offset
abbrev pub sections_from : DebugSections → ImageTable → Option (List ℕ) → ℕ → ℕ
    → List SectionHeader → Result (List Section) DecompressError
sections_from which table names index name [] = Ok []
sections_from which table names index name (h ∷ hs) = do
  section ← section_of which table names index name h
  let next = name + length (ended (new_name_of which table.image index h))
  sections ← sections_from which table names (index + 1) next hs
  Ok (section ∷ sections)

-- the texts of sections from an index on
abbrev pub text_if_any : ℕ → Option Change → Result (Option (List ℕ)) DecompressError
text_if_any index None = Ok None
text_if_any index (Some change) = do
  text ← text_of index change.content
  Ok (Some text)

abbrev pub texts_from : ℕ → List Section → Result (List (Option (List ℕ))) DecompressError
texts_from index [] = Ok []
texts_from index (s ∷ ss) = do
  text ← text_if_any index s.change
  texts ← texts_from (index + 1) ss
  Ok (text ∷ texts)
