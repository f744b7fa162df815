-- How far the section headers are written.
use Rattle.std.proofs.Common.{◌≡◌, ℕ, ◌+◌, ◌++◌, ◌∷◌, [], List, drop, map, length}
use Rattle.std.specs.Prelude.{flat_map}
use Rattle.linemap_elf.specs.SpelledImages.{file_header_size, spelled_section_header, NamedBytes, program_section, names_section, all_sections, headers_from}
use Rattle.linemap_elf.specs.WrittenImages.{ImageBytes, names_joined, bytes_joined}

-- What was written, and the headers of the sections from one on, are the whole. The next name and
-- the next bytes are at two offsets.
pub record IsWrittenTo (start w : ImageBytes) (name offset i : ℕ) (sections : List NamedBytes) : Type 0 where
  pub same_class : w.class ≡ start.class
  pub same_order : w.is_big ≡ start.is_big
  pub names_left : name + length (names_joined (drop i sections)) ≡ 1 + length (names_joined sections)
  pub bytes_left : offset + length (bytes_joined (drop i sections))
      ≡ file_header_size start.class + length (bytes_joined sections)
  pub headers_left : w.bytes ++ flat_map (spelled_section_header start.class start.is_big 1)
      (headers_from name offset (map program_section (drop i sections) ++ names_section sections ∷ []))
      ≡ start.bytes ++ flat_map (spelled_section_header start.class start.is_big 1)
      (headers_from 1 (file_header_size start.class) (all_sections sections))
