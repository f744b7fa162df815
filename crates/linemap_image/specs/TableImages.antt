-- The ELF image of what is emitted of a table.
use Rattle.std.specs.Prelude.{ℕ, ◌==◌, nat_le, Bool, List, [], ◌∷◌, map, if◌then◌else◌}
use Rattle.gimli_core_base.specs.declared.common.Encoding.{Encoding}
use Rattle.gimli_core_base.specs.declared.common.SectionId.{SectionId}
use Rattle.gimli_core_base.specs.declared.common.SectionId.TheVariants.{DebugAbbrev, DebugInfo, DebugLine, DebugLineStr, DebugRanges, DebugRngLists, DebugStr}
use Rattle.gimli_core_base.specs.SectionNames.{name_of}
use Rattle.linemap_elf.specs.Class.{Class}
use Rattle.linemap_elf.specs.Class.TheVariants.{Elf32, Elf64}
use Rattle.linemap_elf.specs.SpelledImages.{NamedBytes, spelled_image}
use Rattle.linemap_emit.specs.EmittedSections.{SectionBytes}
use Rattle.linemap_emit.specs.SectionBytesById.{bytes_of}

-- the class of an image whose addresses have a number of bytes
abbrev pub class_of : ℕ → Class
class_of size = if size == 4 then Elf32 else Elf64

-- the sections of a version, in order; from version 5 on line number programs have texts of their
-- own, and range lists another section
unfoldable pub section_ids : ℕ → List SectionId
section_ids version =
    if nat_le version 4 then DebugAbbrev ∷ DebugInfo ∷ DebugLine ∷ DebugRanges ∷ DebugStr ∷ []
    else DebugAbbrev ∷ DebugInfo ∷ DebugLine ∷ DebugLineStr ∷ DebugRngLists ∷ DebugStr ∷ []

-- a section by its name
abbrev pub section_of : SectionBytes → SectionId → NamedBytes
section_of bytes id = record { name = name_of id; bytes = bytes_of id bytes }

abbrev pub named_sections : SectionBytes → List SectionId → List NamedBytes
named_sections bytes ids = map (section_of bytes) ids

abbrev pub image_sections : Encoding → SectionBytes → List NamedBytes
image_sections e bytes = named_sections bytes (section_ids e.version)

-- the image that holds them
unfoldable pub emitted_image : Encoding → Bool → SectionBytes → List ℕ
emitted_image e is_big bytes =
    spelled_image (class_of e.address_size) is_big (image_sections e bytes)
