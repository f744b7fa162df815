-- An image that is written is read again.
use Rattle.std.specs.Prelude.{◌≡◌, ℕ, ◌<◌, ◌^◌, ◌==◌, nat_eq, not, Bool, true, List, [], ◌∷◌, length, Ok, if◌then◌else◌}
use Rattle.std.specs.List.{list_any, list_all}
use Rattle.std.specs.Cmp.Lexicographic.{pointwise}
use Rattle.gimli_lines_write_bytes.specs.BytesAt.{bytes_at}
use Rattle.addr2line_elf.specs.declared.class.Class.{Class}
use Rattle.addr2line_elf.specs.ElfClasses.{word_size}
use Rattle.addr2line_elf.specs.ElfImages.{Image, image_of, section_named}
use Rattle.addr2line_elf.specs.ElfSymbols.{symbols_of}
use Rattle.linemap_elf.specs.declared.constants.TheConstants.{SHN_LORESERVE}
use Rattle.linemap_elf.specs.SpelledImages.{NamedBytes, ImageSection, names_section, all_sections, header_count, image_size, spelled_image}

-- a name without a zero byte
abbrev pub is_name : List ℕ → Bool
is_name name = not (list_any (λ b. b == 0) name)

-- Sections whose image the fields of its headers can describe: each name can be written, no index
-- is reserved, offsets within the names have four bytes, and those in the file the class's.
pub record ImageFits (class : Class) (sections : List NamedBytes) : Type 0 where
  pub are_names : list_all (λ s. is_name s.name) sections ≡ true
  pub few : header_count sections < SHN_LORESERVE
  pub names_fit : length (names_section sections).bytes < 2 ^ 32
  pub size_fits : image_size class sections < 256 ^ word_size class

-- the bytes of the first section of a name; none where there is no such section
abbrev pub bytes_named : List ℕ → List ImageSection → List ℕ
bytes_named name [] = []
bytes_named name (s ∷ ss) = if pointwise nat_eq s.name name then s.bytes else bytes_named name ss

-- an image's section of a name has these bytes, in an order
pub record SectionHasBytes (image : Image) (is_big : Bool) (name bytes : List ℕ) : Type 0 where
  pub first : ℕ
  pub section_is : section_named name image ≡ Ok (bytes_at is_big first bytes)

-- a file's bytes are read as an image that has these sections, and no symbols
pub record HoldsSections (is_big : Bool) (sections : List ImageSection) (file : List ℕ) : Type 0
  where
    pub image : Image
    pub image_is : image_of file ≡ Ok image
    pub each : (name : List ℕ) → SectionHasBytes image is_big name (bytes_named name sections)
    pub no_symbols : symbols_of image ≡ Ok []

abbrev pub ImagesAgain : Type 0
ImagesAgain =
    (class : Class) (is_big : Bool) (sections : List NamedBytes) → ImageFits class sections
    → HoldsSections is_big (all_sections sections) (spelled_image class is_big sections)
