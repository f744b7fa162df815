-- Worked values: what the definitions say of small inputs, by computation.
use Rattle.std.proofs.Common.{◌≡◌, ℕ, false, List, [], ◌∷◌, ◌++◌, Some, None, refl, codes}
use Rattle.hex.specs.Hex.{encode_with}
use Rattle.gimli_core_readers.specs.View.{View}
use Rattle.gimli_core_readers.specs.Repetition.{listing_in, items_within}
use Rattle.gimli_core_readers.specs.NumberParsers.{fixed}
use Rattle.addr2line_debug_files.specs.Crc32.{crc32, low_bits}
use Rattle.addr2line_debug_files.specs.Notes.{note}
use Rattle.addr2line_debug_files.specs.DebugLinks.{build_id_in, debug_link_in, debug_link_fields, supplement_link_in, supplement_link_fields}
use Rattle.addr2line_debug_files.specs.Candidates.{folder_of, path_from, build_id_path, build_id_paths, link_paths}

-- a section, the lower byte of a number first
abbrev section : List ℕ → View
section bytes = record { bytes = bytes; is_big = false; first = 0 }

-- ---- CRC-32

crc32_of_digits : crc32 (codes "123456789") ≡ 0xcbf43926
unfolding low_bits
crc32_of_digits = refl

crc32_of_nothing : crc32 [] ≡ 0
crc32_of_nothing = refl

-- ---- build identifiers

-- a note of GNU's name, with a descriptor of some size
abbrev gnu_note : ℕ → ℕ → List ℕ → List ℕ
gnu_note size note_type descriptor =
    4 ∷ 0 ∷ 0 ∷ 0 ∷ size ∷ 0 ∷ 0 ∷ 0 ∷ note_type ∷ 0 ∷ 0 ∷ 0 ∷ 0x47 ∷ 0x4e ∷ 0x55 ∷ 0 ∷ descriptor

id_without_padding : build_id_in (section (gnu_note 2 3 (0xab ∷ 0xcd ∷ []))) ≡ Some (0xab ∷ 0xcd ∷ [])
unfolding listing_in items_within note fixed
id_without_padding = refl

id_after_another_note : build_id_in (section (gnu_note 1 1 (9 ∷ 0 ∷ 0 ∷ 0 ∷ []) ++ gnu_note 1 3 (0xab ∷ [])))
    ≡ Some (0xab ∷ [])
unfolding listing_in items_within note fixed
id_after_another_note = refl

id_is_cut : build_id_in (section (gnu_note 3 3 (0xab ∷ 0xcd ∷ []))) ≡ None
unfolding listing_in items_within note fixed
id_is_cut = refl

id_is_empty : build_id_in (section (gnu_note 0 3 [])) ≡ None
unfolding listing_in items_within note fixed
id_is_empty = refl

-- ---- links

link_with_padding : debug_link_in (section (codes "a" ++ 0 ∷ 0 ∷ 0 ∷ 4 ∷ 3 ∷ 2 ∷ 1 ∷ []))
    ≡ Some (record { name = codes "a"; crc = 0x01020304 })
unfolding debug_link_fields fixed
link_with_padding = refl

link_is_cut : debug_link_in (section (codes "abcd" ++ 0 ∷ 0 ∷ 0 ∷ 0 ∷ 4 ∷ 3 ∷ 2 ∷ [])) ≡ None
unfolding debug_link_fields fixed
link_is_cut = refl

link_without_name : debug_link_in (section (0 ∷ 0 ∷ 0 ∷ 0 ∷ 4 ∷ 3 ∷ 2 ∷ 1 ∷ [])) ≡ None
unfolding debug_link_fields fixed
link_without_name = refl

link_to_supplement : supplement_link_in (section (codes "s" ++ 0 ∷ 0xab ∷ 0xcd ∷ []))
    ≡ Some (record { name = codes "s"; build_id = 0xab ∷ 0xcd ∷ [] })
unfolding supplement_link_fields
link_to_supplement = refl

-- ---- where files may be: the example of GDB's manual

abbrev debug_folders : List (List ℕ)
debug_folders = codes "/usr/lib/debug" ∷ []

by_build_id : build_id_paths (0xab ∷ 0xcd ∷ 0xef ∷ 0x12 ∷ 0x34 ∷ []) debug_folders
    ≡ codes "/usr/lib/debug/.build-id/ab/cdef1234.debug" ∷ []
unfolding build_id_path encode_with
by_build_id = refl

by_debug_link : link_paths (codes "ls.debug") (folder_of (codes "/usr/bin/ls")) debug_folders
    ≡ codes "/usr/bin/ls.debug" ∷ codes "/usr/bin/.debug/ls.debug" ∷ codes "/usr/lib/debug/usr/bin/ls.debug" ∷ []
by_debug_link = refl

without_folder : link_paths (codes "ls.debug") (folder_of (codes "ls")) debug_folders
    ≡ codes "ls.debug" ∷ codes ".debug/ls.debug" ∷ []
without_folder = refl

supplement_beside : path_from (folder_of (codes "/d/a")) (codes "../s") ≡ codes "/d/../s"
supplement_beside = refl

supplement_from_the_root : path_from (folder_of (codes "/d/a")) (codes "/s") ≡ codes "/s"
supplement_from_the_root = refl
