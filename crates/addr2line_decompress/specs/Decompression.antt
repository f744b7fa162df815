-- An image before decompression, and after it, as they are read.
use Rattle.std.specs.Prelude.{◌≡◌, ℕ, ◌+◌, ◌<◌, slice_index, Bool, false, List, [], ◌∷◌, drop, Option, Some, None, option_map, Result, Ok, Err, if◌then◌else◌}
use Rattle.std.specs.List.{slice_get, position}
use Rattle.gimli_core_readers.specs.View.{View}
use Rattle.gimli_core_readers.specs.Results.{◌>>=◌}
use Rattle.addr2line_elf.specs.declared.error.LoadError.{LoadError}
use Rattle.addr2line_elf.specs.declared.error.LoadError.TheVariants.{NeedsRelocation}
use Rattle.addr2line_elf.specs.declared.headers.SectionHeader.{SectionHeader}
use Rattle.addr2line_elf.specs.ElfTexts.{is_text}
use Rattle.addr2line_elf.specs.ElfImages.{Image, image_of, index_named, waits_for_relocation, section_at, section_named, addresses_at, section_range}
use Rattle.addr2line_elf.specs.ElfSymbols.{symbols_of}
use Rattle.addr2line_decompress.specs.declared.error.DecompressError.{DecompressError}
use Rattle.addr2line_decompress.specs.declared.sections.DebugSections.{DebugSections}
use Rattle.addr2line_decompress.specs.DebugSectionNames.{is_debug_name, is_old_name}
use Rattle.addr2line_decompress.specs.CompressedSections.{name_after}
use Rattle.addr2line_decompress.specs.DecompressedBytes.{SectionTexts, section_texts, if_any}
use Rattle.addr2line_decompress.specs.DecompressResults.{or_image}
use Rattle.addr2line_decompress.specs.ImageTables.{table_of}

-- ---- names

-- the names of the sections from an index on, after decompression
abbrev pub names_after : DebugSections → Image → ℕ → List SectionHeader → List (Option (List ℕ))
names_after which image index [] = []
names_after which image index (h ∷ hs) =
    name_after which image index h ∷ names_after which image (index + 1) hs

-- the index of the first section that has a name then; the section at index 0 is skipped
abbrev pub index_after : DebugSections → List ℕ → Image → Option ℕ
index_after which name image =
    option_map (λ n. n + 1)
    (position (λ other. is_text other name) (names_after which image 1 (drop 1 image.sections)))

-- ---- sections

-- the text of the section of an index, if it gets one
abbrev pub flatten : Option (Option (List ℕ)) → Option (List ℕ)
flatten None = None
flatten (Some text) = text

abbrev pub text_at_index : List (Option (List ℕ)) → Option ℕ → Option (List ℕ)
text_at_index texts None = None
text_at_index texts (Some index) = flatten (slice_get texts index)

-- a section waits for relocation, if there is one
abbrev pub waits : Option ℕ → Image → Bool
waits None image = waits_for_relocation 0 image
waits (Some index) image = waits_for_relocation index image

-- What a section is, after decompression: what it was, or its text, if it gets one, unless that is
-- yet to be relocated. The first byte of a text has some identifier.
abbrev pub IsSectionAfter : Option (List ℕ) → Bool → Bool → Result View LoadError
    → Result View LoadError → Type 0
IsSectionAfter None is_big waiting before after = after ≡ before
IsSectionAfter (Some text) is_big waiting before after =
    (first : ℕ) × (after ≡ (if waiting then Err NeedsRelocation
    else Ok (record { bytes = text; is_big = is_big; first = first })))

-- An image has the text of each section that was compressed, and all else that it had. A name leads
-- to the first section that has it after decompression, with its text, if it gets one: the section
-- that it led to before, unless it is a name of debugging information that no section had, or that
-- of a section which gets a new one. The text of the section of names, if some are new, is all of
-- them.
pub record IsDecompressionOf (which : DebugSections) (texts : List (Option (List ℕ)))
    (before after : Image) : Type 0 where
  pub class : after.class ≡ before.class
  pub order : after.file.is_big ≡ before.file.is_big
  pub file_type : after.file_type ≡ before.file_type
  pub sections : (name : List ℕ)
      → IsSectionAfter (text_at_index texts (index_after which name before)) before.file.is_big
      (waits (index_after which name before) before)
      (section_at (index_after which name before) before) (section_named name after)
  pub ranges : (name : List ℕ) → text_at_index texts (index_after which name before) ≡ None
      → section_range name after ≡ addresses_at (index_after which name before) before
  pub others : (name : List ℕ) → is_debug_name name ≡ false
      → index_after which name before ≡ index_named name before
  pub present : (name : List ℕ) (index : ℕ) → is_old_name name ≡ false
      → index_named name before ≡ Some index → index_after which name before ≡ Some index
  pub symbols : symbols_of after ≡ symbols_of before

-- the texts of an image's sections, in order
abbrev pub texts_if_any : Option SectionTexts → List (Option (List ℕ))
texts_if_any None = []
texts_if_any (Some found) = found.texts

abbrev pub texts_of : DebugSections → List ℕ → Result (List (Option (List ℕ))) DecompressError
texts_of which file = do
  table ← or_image (table_of file)
  found ← if_any which table (section_texts which table)
  Ok (texts_if_any found)

-- two files are read as images of which one is the decompression of the other
pub record Decompresses (which : DebugSections) (before after : List ℕ) : Type 0 where
  pub texts : List (Option (List ℕ))
  pub texts_are : texts_of which before ≡ Ok texts
  pub image_before : Image
  pub before_is : image_of before ≡ Ok image_before
  pub image_after : Image
  pub after_is : image_of after ≡ Ok image_after
  pub decompression : IsDecompressionOf which texts image_before image_after

-- all numbers of a list are those of bytes
abbrev pub AreBytes : List ℕ → Type 0
AreBytes xs = (k : ℕ) → slice_index xs k < 256
