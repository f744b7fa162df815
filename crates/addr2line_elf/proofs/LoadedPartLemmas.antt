-- What is read of a file of which all needed parts are in memory is what is read of each file that has these parts.
use Rattle.std.proofs.Common.{◌≡◌, ℕ, zero, suc, ◌+◌, ◌*◌, ◌<◌, ◌≤◌, ◌⊎◌, inl, inr, Bool, true, false, cond, eqb, ltb, leb, ◌&&◌, ◌||◌, List, [], ◌∷◌, length, take, drop, Option, Some, None, Result, Ok, Err, refl, sym, ap, ◌∙◌, subst, arith}
use Rattle.std.specs.Prelude.{not, bit_and, codes, option_and_then}
use Rattle.std.specs.List.{find, slice_get, list_all}
use Rattle.std.specs.Option.{is_some}
use Rattle.std.proofs.lemmas.Bool.{and_parts, or_cases, cases_Bool, eqb-true, le-leb, ltb-false}
use Rattle.gimli_core_readers.specs.Repetition.{times}
use Rattle.gimli_core_readers.specs.Results.{and_then}
use Rattle.gimli_core_readers.specs.SectionId.{SectionId}
use Rattle.gimli_core_readers.specs.SectionId.TheVariants.{DebugAbbrev, DebugAddr, DebugAranges, DebugInfo, DebugLine, DebugLineStr, DebugLoc, DebugLocLists, DebugMacinfo, DebugMacro, DebugNames, DebugRanges, DebugRngLists, DebugStr, DebugStrOffsets, DebugTypes}
use Rattle.gimli_core_readers.specs.SectionNames.{name_of}
use Rattle.gimli_core_readers.specs.View.{View, prefix}
use Rattle.addr2line_elf.specs.declared.class.Class.{Class}
use Rattle.addr2line_elf.specs.declared.constants.TheConstants.{EI_NIDENT, SHF_COMPRESSED, SHN_UNDEF, SHT_NOBITS}
use Rattle.addr2line_elf.specs.declared.error.LoadError.{LoadError}
use Rattle.addr2line_elf.specs.declared.error.LoadError.TheVariants.{Truncated, UnsupportedElf, CompressedSection, NeedsRelocation}
use Rattle.addr2line_elf.specs.declared.file_parts.FilePart.{FilePart}
use Rattle.addr2line_elf.specs.declared.headers.FileHeader.{FileHeader}
use Rattle.addr2line_elf.specs.declared.headers.SectionHeader.{SectionHeader}
use Rattle.addr2line_elf.specs.ElfClasses.{file_header_size, section_header_size}
use Rattle.addr2line_elf.specs.ElfDebugSections.{is_read, main_section}
use Rattle.addr2line_elf.specs.ElfHeaders.{file_header, section_header, header_at, headers_at}
use Rattle.addr2line_elf.specs.ElfImages.{Identification, identification, Image, image_in, image_of, image_with_headers, contents, contents_of, linked_contents, index_named, waits_for_relocation, debug_contents, section_at, section_count, names_index, Sections, sections_of, table}
use Rattle.addr2line_elf.specs.ElfSymbols.{NamedSymbol, symbol_table, symbols_at, symbols_in}
use Rattle.addr2line_elf.specs.FileParts.{covers, has, range_in, AreThere, PartialFile}
use Rattle.addr2line_elf.specs.ImageLoading.{read_in, bytes_at}
use Rattle.addr2line_elf.specs.LoadedParts.{AlikeImages, AreAlike, covers_headers, covers_headers_by, covers_linked, covers_named, covers_section, covers_sections, covers_symbols, covers_table, covers_table_by, head_size, read_ids, HasImageIfElf, HasLoadedParts, LoadsAlike}
use Rattle.addr2line_elf.proofs.FilePartLemmas.{found, in_part}
use Rattle.addr2line_elf.proofs.RangeReads.{file_header_read, header_read, headers_read, identified_by, or_view, parsed, range_read}

-- ---- ranges

abbrev given : Bool → List ℕ → Result (List ℕ) LoadError
given inside bytes = cond inside (Ok bytes) (Err Truncated)

-- ---- the sections that are read

all_at : {A : Type 0} (p : A → Bool) (xs : List A) (i : ℕ) (x : A) → slice_get xs i ≡ Some x → list_all p xs ≡ true
    → p x ≡ true
all_at p [] i x is all = absurd cc
all_at {A} p (y ∷ ys) zero x is all =
    let found : Some y ≡ Some x = is in
    let same : y ≡ x = cc in
    subst (λ (z : A). p z ≡ true) same (and_parts (p y) (list_all p ys) all).0
all_at p (y ∷ ys) (suc i) x is all = all_at p ys i x is (and_parts (p y) (list_all p ys) all).1

all_read : (p : SectionId → Bool) → list_all p read_ids ≡ true → (id : SectionId) → is_read id ≡ true → p id ≡ true
all_read p all DebugAbbrev is = all_at p read_ids 0 DebugAbbrev refl all
all_read p all DebugAddr is = all_at p read_ids 1 DebugAddr refl all
all_read p all DebugAranges is = all_at p read_ids 2 DebugAranges refl all
all_read p all DebugInfo is = all_at p read_ids 3 DebugInfo refl all
all_read p all DebugLine is = all_at p read_ids 4 DebugLine refl all
all_read p all DebugLineStr is = all_at p read_ids 5 DebugLineStr refl all
all_read p all DebugLoc is = absurd cc
all_read p all DebugLocLists is = absurd cc
all_read p all DebugMacinfo is = absurd cc
all_read p all DebugMacro is = absurd cc
all_read p all DebugNames is = absurd cc
all_read p all DebugRanges is = all_at p read_ids 6 DebugRanges refl all
all_read p all DebugRngLists is = all_at p read_ids 7 DebugRngLists refl all
all_read p all DebugStr is = all_at p read_ids 8 DebugStr refl all
all_read p all DebugStrOffsets is = all_at p read_ids 9 DebugStrOffsets refl all
all_read p all DebugTypes is = absurd cc

-- two files of a length that have the same parts
module _ (ps : List FilePart) (a b : List ℕ) (len : length a ≡ length b) (in_a : AreThere a ps)
    (in_b : AreThere b ps) where
  abbrev file : PartialFile
  file = record { bytes = b; parts = ps }

  found_alike : (offset size : ℕ) (p : FilePart) → find (has offset size) ps ≡ Some p
      → take size (drop offset a) ≡ take size (drop offset b)
  found_alike offset size p is =
      let fa = found offset size a p ps is in_a in
      let fb = found offset size b p ps is in_b in
      sym (in_part offset size a p fa.0 fa.1).same ∙ (in_part offset size b p fb.0 fb.1).same

  part_alike : (offset size : ℕ) (r : Option FilePart) → find (has offset size) ps ≡ r → is_some r ≡ true
      → take size (drop offset a) ≡ take size (drop offset b)
  part_alike offset size None is some = absurd cc
  part_alike offset size (Some p) is some = found_alike offset size p is

  none_alike : (size : ℕ) (xs ys : List ℕ) → eqb size 0 ≡ true → take size xs ≡ take size ys
  none_alike size xs ys is =
      let none : size ≡ 0 = eqb-true size 0 is in
      ap (λ (n : ℕ). take n xs) none ∙ sym (ap (λ (n : ℕ). take n ys) none)

  bytes_alike : (offset size : ℕ) → leb (offset + size) (length b) ≡ true → covers offset size file ≡ true
      → take size (drop offset a) ≡ take size (drop offset b)
  bytes_alike offset size inside it =
      at (or_cases (not (leb (offset + size) (length b))) (eqb size 0 || is_some (find (has offset size) ps)) it)
    where
      rest : (eqb size 0 ≡ true) ⊎ (is_some (find (has offset size) ps) ≡ true)
          → take size (drop offset a) ≡ take size (drop offset b)
      rest (inl none) = none_alike size (drop offset a) (drop offset b) none
      rest (inr some) = part_alike offset size (find (has offset size) ps) refl some

      at : (not (leb (offset + size) (length b)) ≡ true) ⊎ ((eqb size 0 || is_some (find (has offset size) ps)) ≡ true)
          → take size (drop offset a) ≡ take size (drop offset b)
      at (inl past) = let w : not true ≡ true = sym (ap not inside) ∙ past in absurd cc
      at (inr there) = rest (or_cases (eqb size 0) (is_some (find (has offset size) ps)) there)

  range_alike : (offset size : ℕ) → covers offset size file ≡ true → range_in offset size a ≡ range_in offset size b
  range_alike offset size it =
      ap (λ (n : ℕ). given (leb (offset + size) n) (take size (drop offset a))) len
      ∙ at (leb (offset + size) (length b)) refl
    where
      at : (inside : Bool) → leb (offset + size) (length b) ≡ inside
          → given inside (take size (drop offset a)) ≡ given inside (take size (drop offset b))
      at true is = ap (given true) (bytes_alike offset size is it)
      at false is = refl

  -- ---- reads

  module _ (is_big : Bool) where
    abbrev va : View
    va = record { bytes = a; is_big = is_big; first = 0 }

    abbrev vb : View
    vb = record { bytes = b; is_big = is_big; first = 0 }

    read_alike : (offset size : ℕ) → covers offset size file ≡ true
        → read_in va (bytes_at offset size) ≡ read_in vb (bytes_at offset size)
    read_alike offset size it =
        range_read offset size va ∙ ap (or_view offset va) (range_alike offset size it)
        ∙ sym (range_read offset size vb)

    contents_alike : (h : SectionHeader) → covers_section (Some h) file ≡ true → contents h va ≡ contents h vb
    contents_alike h it = at (or_cases (eqb h.section_type SHT_NOBITS) (covers h.offset h.size file) it)
      where
        empty : Result View LoadError
        empty = Ok (record { bytes = []; is_big = is_big; first = h.offset })

        by : Bool → View → Result View LoadError
        by none v =
            cond none (Ok (record { bytes = []; is_big = v.is_big; first = h.offset }))
            (read_in v (bytes_at h.offset h.size))

        at : (eqb h.section_type SHT_NOBITS ≡ true) ⊎ (covers h.offset h.size file ≡ true)
            → contents h va ≡ contents h vb
        at (inl none) = ap (λ c. by c va) none ∙ sym (ap (λ c. by c vb) none)
        at (inr there) = ap (cond (eqb h.section_type SHT_NOBITS) empty) (read_alike h.offset h.size there)

    contents_of_alike : (o : Option SectionHeader) → covers_section o file ≡ true → contents_of o va ≡ contents_of o vb
    contents_of_alike None it = refl
    contents_of_alike (Some h) it = contents_alike h it

    linked_alike : (index : ℕ) (sections : List SectionHeader) → covers_linked index sections file ≡ true
        → linked_contents index sections va ≡ linked_contents index sections vb
    linked_alike index sections it =
        at (or_cases (eqb index SHN_UNDEF) (covers_section (slice_get sections index) file) it)
      where
        by : Bool → View → Result View LoadError
        by none v = cond none (Ok (prefix 0 v)) (contents_of (slice_get sections index) v)

        at : (eqb index SHN_UNDEF ≡ true) ⊎ (covers_section (slice_get sections index) file ≡ true)
            → linked_contents index sections va ≡ linked_contents index sections vb
        at (inl none) = ap (λ c. by c va) none ∙ sym (ap (λ c. by c vb) none)
        at (inr there) = ap (cond (eqb index SHN_UNDEF) (Ok (prefix 0 vb)))
            (contents_of_alike (slice_get sections index) there)

    file_header_alike : (class : Class) → covers 0 (file_header_size class) file ≡ true
        → read_in va (file_header class) ≡ read_in vb (file_header class)
    file_header_alike class it =
        file_header_read class va
        ∙ ap (λ (r : Result View LoadError). and_then r (parsed (file_header class)))
        (read_alike 0 (file_header_size class) it)
        ∙ sym (file_header_read class vb)

    header_alike : (class : Class) (offset : ℕ) → covers offset (section_header_size class) file ≡ true
        → read_in va (header_at class offset) ≡ read_in vb (header_at class offset)
    header_alike class offset it =
        header_read class offset va
        ∙ ap (λ (r : Result View LoadError). and_then r (parsed (section_header class)))
        (read_alike offset (section_header_size class) it)
        ∙ sym (header_read class offset vb)

    headers_alike : (class : Class) (offset count : ℕ) → covers offset (count * section_header_size class) file ≡ true
        → read_in va (headers_at class offset count) ≡ read_in vb (headers_at class offset count)
    headers_alike class offset count it =
        headers_read class offset count va
        ∙ ap (λ (r : Result View LoadError). and_then r (parsed (times count (section_header class))))
        (read_alike offset (count * section_header_size class) it)
        ∙ sym (headers_read class offset count vb)

    -- ---- the table of sections

    abbrev sections_with : List SectionHeader → View → Result Sections LoadError
    sections_with headers names = Ok (record { headers = headers; names = names })

    headers_are : (headers : List SectionHeader) (sections : Sections) (r : Result View LoadError)
        → and_then r (sections_with headers) ≡ Ok sections → headers ≡ sections.headers
    headers_are headers sections (Ok names) is =
        let same : record { headers = headers; names = names } ≡ sections = cc in ap (λ (s : Sections). s.headers) same
    headers_are headers sections (Err e) is = absurd cc

    -- what the first section header has to do with the parts
    abbrev CoversBy : Class → FileHeader → List SectionHeader → SectionHeader → Type 0
    CoversBy class header headers first =
        (covers header.table_offset (section_count header first * section_header_size class) file ≡ true)
        × (covers_linked (names_index header first) headers file ≡ true)

    table_alike : (class : Class) (header : FileHeader) (sections : Sections) → table class header vb ≡ Ok sections
        → covers header.table_offset (section_header_size class) file ≡ true
        → ((first : SectionHeader) → read_in vb (header_at class header.table_offset) ≡ Ok first
        → CoversBy class header sections.headers first)
        → table class header va ≡ Ok sections
    table_alike class header sections is first_there all_there =
        at (read_in vb (header_at class header.table_offset)) refl is
      where
        named : View → SectionHeader → List SectionHeader → Result Sections LoadError
        named v first headers =
            and_then (linked_contents (names_index header first) headers v) (sections_with headers)

        rest : View → SectionHeader → Result Sections LoadError
        rest v first =
            and_then (read_in v (headers_at class header.table_offset (section_count header first))) (named v first)

        at_headers : (first : SectionHeader) → CoversBy class header sections.headers first
            → (r : Result (List SectionHeader) LoadError)
            → read_in vb (headers_at class header.table_offset (section_count header first)) ≡ r
            → and_then r (named vb first) ≡ Ok sections → rest va first ≡ Ok sections
        at_headers first there (Err e) r_is eq = absurd cc
        at_headers first there (Ok headers) r_is eq =
            let same =
            headers_are headers sections (linked_contents (names_index header first) headers vb) eq in
            let covered = subst (λ (hs : List SectionHeader). covers_linked (names_index header first) hs file ≡ true)
            (sym same) there.1 in
            ap (λ (r : Result (List SectionHeader) LoadError). and_then r (named va first))
            (headers_alike class header.table_offset (section_count header first) there.0 ∙ r_is)
            ∙ ap (λ (r : Result View LoadError). and_then r (sections_with headers))
            (linked_alike (names_index header first) headers covered)
            ∙ eq

        at : (r : Result SectionHeader LoadError) → read_in vb (header_at class header.table_offset) ≡ r
            → and_then r (rest vb) ≡ Ok sections → table class header va ≡ Ok sections
        at (Err e) r_is eq = absurd cc
        at (Ok first) r_is eq =
            ap (λ (r : Result SectionHeader LoadError). and_then r (rest va))
            (header_alike class header.table_offset first_there ∙ r_is)
            ∙ at_headers first (all_there first r_is)
            (read_in vb (headers_at class header.table_offset (section_count header first))) refl eq

    -- ---- images

    covers_by : (class : Class) (header : FileHeader) (sections : Sections) (first : SectionHeader)
        → read_in vb (header_at class header.table_offset) ≡ Ok first
        → covers_table_by (read_in vb (header_at class header.table_offset)) header
        (image_with_headers class vb header sections) file
        ≡ true
        → CoversBy class header sections.headers first
    covers_by class header sections first is it =
        and_parts
        (covers header.table_offset (section_count header first * section_header_size class) file)
        (covers_linked (names_index header first) sections.headers file)
        (sym (ap (λ (r : Result SectionHeader LoadError).
        covers_table_by r header (image_with_headers class vb header sections) file) is)
        ∙ it)

    sections_alike : (class : Class) (header : FileHeader) (sections : Sections)
        → sections_of class header vb ≡ Ok sections
        → covers_table header (image_with_headers class vb header sections) file ≡ true
        → sections_of class header va ≡ Ok sections
    sections_alike class header sections is it =
        at (eqb header.table_offset 0) (eqb header.entry_size (section_header_size class)) refl is
      where
        by : Bool → Bool → View → Result Sections LoadError
        by none usual v =
            cond none (sections_with [] (prefix 0 v)) (cond usual (table class header v) (Err UnsupportedElf))

        first_covered : Bool
        first_covered = covers header.table_offset (section_header_size class) file

        rest_covered : Bool
        rest_covered =
            covers_table_by (read_in vb (header_at class header.table_offset)) header
            (image_with_headers class vb header sections) file

        both : eqb header.table_offset 0 ≡ false → (first_covered ≡ true) × (rest_covered ≡ true)
        both some = in_table (or_cases (eqb header.table_offset 0) (first_covered && rest_covered) it)
          where
            in_table : (eqb header.table_offset 0 ≡ true) ⊎ ((first_covered && rest_covered) ≡ true)
                → (first_covered ≡ true) × (rest_covered ≡ true)
            in_table (inl none) = let w : true ≡ false = sym none ∙ some in absurd cc
            in_table (inr all) = and_parts first_covered rest_covered all

        at : (none usual : Bool) → eqb header.table_offset 0 ≡ none → by none usual vb ≡ Ok sections
            → by none usual va ≡ Ok sections
        at true usual none_is eq = eq
        at false false none_is eq = absurd cc
        at false true none_is eq =
            table_alike class header sections eq (both none_is).0
            (λ first first_is. covers_by class header sections first first_is (both none_is).1)

    -- an image of the one file, and the same one of the other
    record BothImages (class : Class) (image : Image) : Type 0 where
      pub header : FileHeader
      pub sections : Sections
      pub first : image_in class va ≡ Ok (image_with_headers class va header sections)
      pub second : image_with_headers class vb header sections ≡ image

    abbrev image_with : View → Class → FileHeader → Sections → Result Image LoadError
    image_with v class header sections = Ok (image_with_headers class v header sections)

    abbrev image_by : View → Class → FileHeader → Result Image LoadError
    image_by v class header = and_then (sections_of class header v) (image_with v class header)

    both_images : (class : Class) (image : Image) → image_in class vb ≡ Ok image → covers_headers image file ≡ true
        → BothImages class image
    both_images class image is it = at (read_in vb (file_header class)) refl is
      where
        at_sections : (header : FileHeader) → read_in vb (file_header class) ≡ Ok header
            → (r : Result Sections LoadError) → sections_of class header vb ≡ r
            → and_then r (image_with vb class header) ≡ Ok image → BothImages class image
        at_sections header header_is (Err e) r_is eq = absurd cc
        at_sections header header_is (Ok sections) r_is eq =
            let same : image_with_headers class vb header sections ≡ image = cc in
            let all = subst (λ (i : Image). covers_headers i file ≡ true) (sym same) it in
            let parts =
            and_parts (covers 0 (file_header_size class) file)
            (covers_table header (image_with_headers class vb header sections) file)
            (sym (ap (λ (r : Result FileHeader LoadError).
            covers_headers_by r (image_with_headers class vb header sections) file) header_is)
            ∙ all) in
            record {
              header = header;
              sections = sections;
              first =
                  ap (λ (r : Result FileHeader LoadError). and_then r (image_by va class))
                  (file_header_alike class parts.0 ∙ header_is)
                  ∙ ap (λ (r : Result Sections LoadError). and_then r (image_with va class header))
                  (sections_alike class header sections r_is parts.1);
              second = same;
            }

        at : (r : Result FileHeader LoadError) → read_in vb (file_header class) ≡ r
            → and_then r (image_by vb class) ≡ Ok image → BothImages class image
        at (Err e) r_is eq = absurd cc
        at (Ok header) r_is eq = at_sections header r_is (sections_of class header vb) refl eq

    -- ---- sections

    module _ (class : Class) (header : FileHeader) (sections : Sections) where
      abbrev ia : Image
      ia = image_with_headers class va header sections

      abbrev ib : Image
      ib = image_with_headers class vb header sections

      debug_alike : (index : ℕ) (o : Option SectionHeader) → covers_section o file ≡ true
          → debug_contents index o ia ≡ debug_contents index o ib
      debug_alike index None it = refl
      debug_alike index (Some h) it =
          ap (λ (r : Result View LoadError). cond (eqb h.section_type SHT_NOBITS) r (and_then r (plain index h)))
          (contents_alike h it)
        where
          plain : ℕ → SectionHeader → View → Result View LoadError
          plain index h view =
              cond (eqb (bit_and h.flags SHF_COMPRESSED) 0)
              (cond (waits_for_relocation index ib) (Err NeedsRelocation) (Ok view)) (Err CompressedSection)

      section_alike : (o : Option ℕ)
          → covers_section (option_and_then (slice_get sections.headers) o) file ≡ true
          → section_at o ia ≡ section_at o ib
      section_alike None it = refl
      section_alike (Some index) it = debug_alike index (slice_get sections.headers index) it

      main_alike : (id : SectionId) → (is_read id ≡ true → covers_named (name_of id) ib file ≡ true)
          → main_section id ia ≡ main_section id ib
      main_alike id covered = at (is_read id) refl
        where
          by : Bool → Image → Result View LoadError
          by read image = cond read (section_at (index_named (name_of id) image) image) (Ok (prefix 0 image.file))

          at : (read : Bool) → is_read id ≡ read → by read ia ≡ by read ib
          at true is = section_alike (index_named (name_of id) ib) (covered is)
          at false is = refl

      symbols_alike : (o : Option SectionHeader) → covers_symbols o ib file ≡ true → symbols_at o ia ≡ symbols_at o ib
      symbols_alike None it = refl
      symbols_alike (Some h) it =
          ap (λ (r : Result View LoadError). and_then r (named va)) (contents_alike h parts.0)
          ∙ ap (λ (r : Result View LoadError). and_then (contents h vb) (λ t. and_then r (symbols_in class t)))
          (linked_alike h.link sections.headers parts.1)
        where
          parts : (covers_section (Some h) file ≡ true) × (covers_linked h.link sections.headers file ≡ true)
          parts = and_parts (covers_section (Some h) file) (covers_linked h.link sections.headers file) it

          named : View → View → Result (List NamedSymbol) LoadError
          named v t = and_then (linked_contents h.link sections.headers v) (symbols_in class t)

      images_alike : covers_sections ib file ≡ true → AlikeImages ia ib
      images_alike it =
          let last =
          and_parts
          (list_all (λ id. covers_named (name_of id) ib file) read_ids && covers_named (codes ".symtab") ib file)
          (covers_symbols (symbol_table sections.headers) ib file) it in
          let first = and_parts (list_all (λ id. covers_named (name_of id) ib file) read_ids)
          (covers_named (codes ".symtab") ib file) last.0 in
          record {
            class = refl;
            is_big = refl;
            file_type = refl;
            sections = refl;
            names = refl;
            debug = λ id. main_alike id (all_read (λ i. covers_named (name_of i) ib file) first.0 id);
            symbols = symbols_alike (symbol_table sections.headers) last.1;
          }

  -- ---- files

  head_within : (n : ℕ) → head_size n ≤ n
  head_within n = at (cases_Bool (ltb n EI_NIDENT))
    where
      at : (ltb n EI_NIDENT ≡ true) ⊎ (ltb n EI_NIDENT ≡ false) → head_size n ≤ n
      at (inl short) = let is : head_size n ≡ n = ap (λ (c : Bool). cond c n 16) short in omega arith
      at (inr long) =
          let is : head_size n ≡ 16 = ap (λ (c : Bool). cond c n 16) long in
          let enough : 16 ≤ n = ltb-false n 16 long in
          omega arith

  head_enough : (n : ℕ) → head_size n < 6 → n ≤ head_size n
  head_enough n few = at (cases_Bool (ltb n EI_NIDENT))
    where
      at : (ltb n EI_NIDENT ≡ true) ⊎ (ltb n EI_NIDENT ≡ false) → n ≤ head_size n
      at (inl short) = let is : head_size n ≡ n = ap (λ (c : Bool). cond c n 16) short in omega arith
      at (inr long) = let is : head_size n ≡ 16 = ap (λ (c : Bool). cond c n 16) long in absurd (omega arith)

  identified_alike : covers 0 (head_size (length b)) file ≡ true → identification a ≡ identification b
  identified_alike it =
      let n : ℕ = head_size (length b) in
      sym (identified_by (head_size (length b)) a (λ few. omega (arith, len, head_enough (length b) few)))
      ∙ ap identification (bytes_alike 0 (head_size (length b))
      (le-leb (0 + head_size (length b)) (length b) (omega (arith, head_within (length b)))) it)
      ∙ identified_by (head_size (length b)) b (head_enough (length b))

  abbrev image_from : List ℕ → Identification → Result Image LoadError
  image_from bytes id = image_in id.class (record { bytes = bytes; is_big = id.is_big; first = 0 })

  alike_by : (r : Result Identification LoadError) → identification b ≡ r → HasImageIfElf r file
      → AreAlike (and_then r (image_from a)) (and_then r (image_from b))
  alike_by (Err e) is has = refl
  alike_by (Ok id) is has =
      let made_of : image_from b id ≡ Ok has.image =
      sym (ap (λ (r : Result Identification LoadError). and_then r (image_from b)) is) ∙ has.is_image in
      let both = both_images id.is_big id.class has.image made_of has.headers in
      let covered = subst (λ (i : Image). covers_sections i file ≡ true) (sym both.second) has.sections in
      let second : image_from b id ≡ Ok (image_with_headers id.class (vb id.is_big) both.header both.sections) =
      made_of ∙ sym (ap (λ (i : Image). ok_image i) both.second) in
      subst (λ (r : Result Image LoadError). AreAlike r (image_from b id)) (sym both.first)
      (subst (λ (r : Result Image LoadError).
      AreAlike (Ok (image_with_headers id.class (va id.is_big) both.header both.sections)) r) (sym second)
      (images_alike id.is_big id.class both.header both.sections covered))
    where
      ok_image : Image → Result Image LoadError
      ok_image i = Ok i

  files_alike : HasLoadedParts file → LoadsAlike a b
  files_alike has =
      subst (λ (r : Result Identification LoadError). AreAlike (and_then r (image_from a)) (image_of b))
      (sym (identified_alike has.head))
      (subst (λ (r : Result Identification LoadError).
      AreAlike (and_then (identification b) (image_from a)) (and_then r (image_from b)))
      refl (alike_by (identification b) refl has.rest))

-- what is loaded of each file that has the parts
pub loads_alike : (file : PartialFile) (bytes : List ℕ) → HasLoadedParts file → length bytes ≡ length file.bytes
    → AreThere bytes file.parts → LoadsAlike bytes file.bytes
loads_alike file bytes has len there = files_alike file.parts bytes file.bytes len there has.there has
