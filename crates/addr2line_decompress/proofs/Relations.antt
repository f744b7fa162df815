-- An image after decompression has the sections, addresses and symbols that it had before, and the texts.
use Rattle.std.proofs.Common.{◌≡◌, ℕ, ◌+◌, ◌&&◌, Bool, false, cond, eqb, List, length, drop, Option, Some, None, Result, Ok, Err, refl, sym, ap, subst, ◌∙◌}
use Rattle.std.specs.Prelude.{bit_and, option_map}
use Rattle.std.specs.List.{slice_get, list_any}
use Rattle.gimli_core_readers.specs.View.{View}
use Rattle.gimli_core_readers.specs.Results.{◌>>=◌}
use Rattle.gimli_lines_write_bytes.specs.BytesAt.{bytes_at}
use Rattle.addr2line_elf.specs.declared.class.Class.{Class}
use Rattle.addr2line_elf.specs.declared.error.LoadError.{LoadError}
use Rattle.addr2line_elf.specs.declared.error.LoadError.TheVariants.{CompressedSection, NeedsRelocation}
use Rattle.addr2line_elf.specs.declared.headers.FileHeader.{FileHeader}
use Rattle.addr2line_elf.specs.declared.headers.SectionHeader.{SectionHeader}
use Rattle.addr2line_elf.specs.ElfTexts.{text_at, is_text}
use Rattle.addr2line_elf.specs.ElfImages.{Image, contents, linked_contents, index_named, changes, waits_for_relocation, debug_contents, section_at, section_named, addresses_of, addresses_at, section_range}
use Rattle.addr2line_elf.specs.ElfSymbols.{section_or, symbol_table, symbols_in, symbols_at, symbols_of}
use Rattle.addr2line_decompress.specs.declared.sections.DebugSections.{DebugSections}
use Rattle.addr2line_decompress.specs.ImageTables.{ImageTable}
use Rattle.addr2line_decompress.specs.CompressedSections.{names_start, holds, Section, refuse_staying, refuse_names, link_of}
use Rattle.addr2line_decompress.specs.DecompressedBytes.{changed_header}
use Rattle.addr2line_decompress.specs.Decompression.{names_after, index_after, flatten, text_at_index, waits, IsSectionAfter, IsDecompressionOf}
use Rattle.addr2line_decompress.proofs.IndexedSections.{changed_is, AtIndex, missing, stays, changed, FoundSame, found_same, names_in, later_names, changes_same}
use Rattle.addr2line_decompress.proofs.NameChoices.{position_map, others_same, present_same}
use Rattle.addr2line_decompress.proofs.ImagesAfter as images
use Rattle.addr2line_decompress.proofs.ImagesAfter.{Known}

abbrev ok_view : View → Result View LoadError
ok_view v = Ok v

module _ (which : DebugSections) (class : Class) (is_big : Bool) (file : List ℕ) (file_type : ℕ)
    (headers : List SectionHeader) (names : View) (header : FileHeader) (first : SectionHeader)
    (fresh : Option (List ℕ)) (sections : List Section) (texts : List (Option (List ℕ))) where
  abbrev old_view : View
  old_view = images.view which class is_big file file_type headers names header first fresh sections texts

  abbrev new_view : View
  new_view = images.view_after which class is_big file file_type headers names header first fresh sections texts

  abbrev old_image : Image
  old_image = images.before which class is_big file file_type headers names header first fresh sections texts

  abbrev the_table : ImageTable
  the_table = images.table which class is_big file file_type headers names header first fresh sections texts

  abbrev bytes_now : List ℕ
  bytes_now = images.file_after which class is_big file file_type headers names header first fresh sections texts

  abbrev headers_now : List SectionHeader
  headers_now = images.new_headers which class is_big file file_type headers names header first fresh sections texts

  abbrev all_names : List ℕ
  all_names = images.all_names which class is_big file file_type headers names header first fresh sections texts

  module _ (k : Known which class is_big file file_type headers names header first fresh sections texts) where
    abbrev new_image : Image
    new_image = images.after which class is_big file file_type headers names header first fresh sections texts k

    -- ---- names

    names_bytes : new_image.names.bytes ≡ all_names
    names_bytes = images.names_bytes which class is_big file file_type headers names header first fresh sections texts k

    names_now : names_in all_names (drop 1 headers_now) ≡ names_after which old_image 1 (drop 1 headers)
    names_now =
        later_names which the_table fresh all_names (names_start old_image fresh) headers sections texts
        (length file) k.all
        (images.names_placed which class is_big file file_type headers names header first fresh sections texts k)
        (images.names_kept which class is_big file file_type headers names header first fresh sections texts k)

    index_same : (name : List ℕ) → index_named name new_image ≡ index_after which name old_image
    index_same name =
        ap (option_map (λ n. n + 1))
        (position_map (λ (h : SectionHeader). text_at new_image.names.bytes h.name)
        (λ (o : Option (List ℕ)). is_text o name) (drop 1 headers_now)
        (names_after which old_image 1 (drop 1 headers))
        (ap (λ (l : List ℕ). names_in l (drop 1 headers_now)) names_bytes ∙ names_now))

    -- ---- relocations

    waits_same : (i : ℕ) → waits_for_relocation i new_image ≡ waits_for_relocation i old_image
    waits_same i =
        ap (λ (t : ℕ). eqb t 1 && list_any (changes i) headers_now) k.type_is
        ∙ ap (λ (b : Bool). eqb file_type 1 && b)
        (changes_same which the_table fresh 0 (names_start old_image fresh) headers sections texts
        (length file) i k.all)

    -- ---- the bytes of the section of an index

    contents_same : (i : ℕ) (h : SectionHeader) → refuse_staying the_table i h ≡ Ok tt
        → contents h new_view ≡ contents h old_view
    contents_same i h =
        images.contents_same which class is_big file file_type headers names header first fresh sections texts k i h

    section_of_index : (i : ℕ) → AtIndex which the_table fresh bytes_now i (slice_get headers i)
        (slice_get headers_now i)
        (slice_get texts i)
    section_of_index i =
        images.section_of_index which class is_big file file_type headers names header first fresh sections texts k i

    abbrev plain_step : Bool → ℕ → Result View LoadError → Result View LoadError
    plain_step waiting flags r = r >>= λ v.
        cond (eqb (bit_and flags 0x800) 0) (cond waiting (Err NeedsRelocation) (Ok v)) (Err CompressedSection)

    contents_of_index : (i : ℕ) (a b : Option SectionHeader) (t : Option (Option (List ℕ)))
        → AtIndex which the_table fresh bytes_now i a b t
        → IsSectionAfter (flatten t) is_big (waits_for_relocation i old_image) (debug_contents i a old_image)
        (debug_contents i b new_image)
    contents_of_index i a b t missing = refl
    contents_of_index i a b t (stays h s) =
        ap (λ (w : Bool). cond (eqb h.section_type 8) (contents h new_view)
        (plain_step w h.flags (contents h new_view)))
        (waits_same i)
        ∙ ap (λ (r : Result View LoadError). cond (eqb h.section_type 8) r
        (plain_step (waits_for_relocation i old_image) h.flags r)) (contents_same i h s.stays)
    contents_of_index i a b t (changed at h c u offset ch has place) =
        let f = changed_is which the_table fresh i at h c ch in
        let g = changed_header h offset (Some c) in
        let text = bytes_at is_big (0 + offset) u in (
          0 + offset,
          ap (λ (b : Bool). cond b (contents g new_view)
              (plain_step (waits_for_relocation i new_image) g.flags (contents g new_view))) f.plain.no_nobits
              ∙ ap (plain_step (waits_for_relocation i new_image) g.flags)
              (images.contents_changed which class is_big file file_type headers names
              header first fresh sections texts k
              i at h c u offset ch has.size place)
              ∙ ap (λ (n : ℕ). cond (eqb n 0) (cond (waits_for_relocation i new_image) (Err NeedsRelocation)
              (ok_view text))
              (Err CompressedSection)) f.unflagged
              ∙ ap (λ (w : Bool). cond w (Err NeedsRelocation) (ok_view text)) (waits_same i),
        )

    pub section_after : (name : List ℕ)
        → IsSectionAfter (text_at_index texts (index_after which name old_image)) is_big
        (waits (index_after which name old_image) old_image) (section_at (index_after which name old_image) old_image)
        (section_named name new_image)
    section_after name =
        subst (λ (o : Option ℕ). IsSectionAfter (text_at_index texts (index_after which name old_image)) is_big
        (waits (index_after which name old_image) old_image) (section_at (index_after which name old_image) old_image)
        (section_at o new_image)) (sym (index_same name)) (of_index (index_after which name old_image))
      where
        of_index : (o : Option ℕ) → IsSectionAfter (text_at_index texts o) is_big (waits o old_image)
            (section_at o old_image) (section_at o new_image)
        of_index None = refl
        of_index (Some i) = contents_of_index i _ _ _ (section_of_index i)

    -- ---- addresses

    pub range_after : (name : List ℕ) → text_at_index texts (index_after which name old_image) ≡ None
        → section_range name new_image ≡ addresses_at (index_after which name old_image) old_image
    range_after name none_is =
        ap (λ (o : Option ℕ). addresses_at o new_image) (index_same name)
        ∙ of_index (index_after which name old_image) none_is
      where
        of_header : (i : ℕ) (a b : Option SectionHeader) (t : Option (Option (List ℕ)))
            → AtIndex which the_table fresh bytes_now i a b t → flatten t ≡ None → addresses_of b ≡ addresses_of a
        of_header i a b t missing is = refl
        of_header i a b t (stays h s) is = refl
        of_header i a b t (changed at h c u offset ch has place) is = absurd cc

        of_index : (o : Option ℕ) → text_at_index texts o ≡ None → addresses_at o new_image ≡ addresses_at o old_image
        of_index None is = refl
        of_index (Some i) is = of_header i _ _ _ (section_of_index i) is

    -- ---- symbols

    tables_same : (a b c d : Option SectionHeader) → FoundSame the_table a b → FoundSame the_table c d
        → FoundSame the_table (section_or a c) (section_or b d)
    tables_same a None c d f g =
        record { same = ap (λ (o : Option SectionHeader). section_or o c) f.same ∙ g.same; stays = g.stays }
    tables_same a (Some h) c d f g =
        record { same = ap (λ (o : Option SectionHeader). section_or o c) f.same; stays = f.stays }

    table_same : FoundSame the_table (symbol_table headers_now) (symbol_table headers)
    table_same =
        tables_same _ _ _ _
        (found_same which the_table fresh 2 0 (names_start old_image fresh) headers sections texts (length file)
        (λ h p. p.no_symtab) k.all)
        (found_same which the_table fresh 11 0 (names_start old_image fresh) headers sections texts (length file)
        (λ h p. p.no_dynsym) k.all)

    module _ (names_stay : refuse_names which old_image (link_of (symbol_table headers))
        (slice_get headers (link_of (symbol_table headers))) ≡ Ok tt) where
      pub symbols_after : symbols_of new_image ≡ symbols_of old_image
      symbols_after =
          ap (λ (o : Option SectionHeader). symbols_at o new_image) table_same.same
          ∙ of_table (symbol_table headers) table_same.stays names_stay
          (images.symbols_apart which class is_big file file_type headers names header first fresh sections texts k)
        where
          of_table : (o : Option SectionHeader)
              → ((h : SectionHeader) → o ≡ Some h → (i : ℕ) × (refuse_staying the_table i h ≡ Ok tt))
              → refuse_names which old_image (link_of o) (slice_get headers (link_of o)) ≡ Ok tt
              → holds the_table.names_index (link_of o) fresh ≡ false
              → symbols_at o new_image ≡ symbols_at o old_image
          of_table None stays_are is apart = refl
          of_table (Some h) stays_are is apart =
              let s = stays_are h refl in
              ap (λ (r : Result View LoadError). r >>= λ t. linked_contents h.link headers_now new_view >>= λ n.
              symbols_in class t n) (contents_same s.0 h s.1)
              ∙ ap (λ (r : Result View LoadError). contents h old_view >>= λ t. r >>= λ n. symbols_in class t n)
              (images.linked_same which class is_big file file_type headers names header first fresh sections texts k
              h.link is apart)

      pub decompression : IsDecompressionOf which texts old_image new_image
      decompression = record {
        class = refl;
        order = refl;
        file_type = k.type_is;
        sections = section_after;
        ranges = range_after;
        others = others_same which old_image;
        present = present_same which old_image;
        symbols = symbols_after;
      }
