-- An image that is written is read again.
use Rattle.std.proofs.Common.{◌≡◌, ℕ, suc, ◌+◌, ◌-◌, ◌<◌, ◌≤◌, ◌^◌, Bool, true, false, cond, eqb, List, [], ◌∷◌, ◌++◌, length, map, Option, None, Result, Ok, Err, refl, sym, ap, ◌∙◌, arith, append_assoc, append-nil}
use Rattle.std.specs.Prelude.{flat_map}
use Rattle.std.specs.List.{list_all, find, slice_get}
use Rattle.std.proofs.lemmas.Bool.{ne_eqb, eq-eqb, and_parts}
use Rattle.std.proofs.lemmas.List.{length-append, length-map}
use Rattle.std.proofs.lemmas.List.Concat.{flat_map-append}
use Rattle.gimli_lines_write_bytes.specs.Error.{Error}
use Rattle.gimli_lines_write_bytes.specs.View.{View, prefix}
use Rattle.gimli_lines_write_bytes.specs.Parsers.{Parser, value_of}
use Rattle.gimli_lines_write_bytes.specs.Results.{◌>>=◌}
use Rattle.gimli_lines_write_bytes.specs.Repetition.{times}
use Rattle.gimli_lines_write_bytes.specs.BytesAt.{bytes_at}
use Rattle.gimli_lines_write_bytes.proofs.FollowedReads.{Again, again_onward}
use Rattle.addr2line_elf.specs.declared.class.Class.{Class}
use Rattle.addr2line_elf.specs.declared.class.Class.TheVariants.{Elf32, Elf64}
use Rattle.addr2line_elf.specs.declared.error.LoadError.{LoadError}
use Rattle.addr2line_elf.specs.declared.error.LoadError.TheVariants.{UnsupportedElf}
use Rattle.addr2line_elf.specs.declared.headers.FileHeader.{FileHeader}
use Rattle.addr2line_elf.specs.declared.headers.SectionHeader.{SectionHeader}
use Rattle.addr2line_elf.specs.ElfClasses.{word_size, section_header_size}
use Rattle.addr2line_elf.specs.ElfHeaders.{file_header, section_header, header_at, headers_at}
use Rattle.addr2line_elf.specs.ImageLoading.{or_truncated, read_in}
use Rattle.addr2line_elf.specs.ElfImages.{Image, Identification, identification, Sections, section_count, names_index, linked_contents, contents_of, contents, table, sections_of, image_in, image_of, image_with_headers}
use Rattle.addr2line_elf.specs.ElfSymbols.{symbols_of, symbols_at, section_or}
use Rattle.linemap_elf.specs.SpelledImages.{file_header_size, spelled_identification, spelled_fields, file_header_fields, spelled_section_header, FitsHeader, null_header, NamedBytes, ImageSection, program_section, spelled_name, names_section, all_sections, header_of, headers_from, body, body_end, table_offset, header_count, padding, spelled_file_header, spelled_table, spelled_image}
use Rattle.linemap_elf.specs.ImageLaws.{is_name, ImageFits, bytes_named, SectionHasBytes, HoldsSections}
use Rattle.linemap_elf.proofs.HeadersRead.{again_skip, file_header_of, file_header_again, section_header_again, AllFitHeaders, table_again}
use Rattle.linemap_elf.proofs.SectionsFound.{IsOfContents, contents_are, image_with, section_is, AllOfContents, sections_found, none_of_type, length-headers_from, last_header, all_fit}
use Rattle.linemap_elf.proofs.ImageSizes.{length-file_header, length-all_sections, multiple_after, before_table, length-before_table, table_last}

-- ---- the identification

identified : (class : Class) (is_big : Bool) (rest : List ℕ)
    → identification (spelled_identification class is_big ++ rest) ≡ Ok (record { class = class; is_big = is_big })
identified Elf32 true rest = refl
identified Elf32 false rest = refl
identified Elf64 true rest = refl
identified Elf64 false rest = refl

-- ---- sections

header_some : (class : Class) → 0 < file_header_size class
header_some Elf32 = omega arith
header_some Elf64 = omega arith

program_types : IsOfContents 1
program_types = record { no_symtab = refl; no_nobits = refl; no_dynsym = refl; small = omega arith }

names_types : IsOfContents 3
names_types = record { no_symtab = refl; no_nobits = refl; no_dynsym = refl; small = omega arith }

all_of_contents : (sections : List NamedBytes) (own : ImageSection) → list_all (λ s. is_name s.name) sections ≡ true
    → is_name own.name ≡ true → IsOfContents own.section_type
    → AllOfContents (map program_section sections ++ own ∷ [])
unfolding AllOfContents
all_of_contents [] own good is type = (is, type, tt)
all_of_contents (s ∷ ss) own good is type =
    let parts = and_parts (is_name s.name) (list_all (λ t. is_name t.name) ss) good in
    (parts.0, program_types, all_of_contents ss own parts.1 is type)

-- the names of all sections follow each other
names_joined : (sections : List NamedBytes) (own : ImageSection)
    → flat_map spelled_name (map (λ (s : NamedBytes). s.name) sections ++ own.name ∷ [])
    ≡ flat_map (λ (s : ImageSection). spelled_name s.name) (map program_section sections ++ own ∷ [])
names_joined [] own = refl
names_joined (s ∷ ss) own = ap (λ (bs : List ℕ). spelled_name s.name ++ bs) (names_joined ss own)

module _ (class : Class) (is_big : Bool) (sections : List NamedBytes) (fits : ImageFits class sections) where
  abbrev sections_all : List ImageSection
  sections_all = all_sections sections

  abbrev own : ImageSection
  own = names_section sections

  abbrev file : List ℕ
  file = spelled_image class is_big sections

  abbrev view : View
  view = bytes_at is_big 0 file

  abbrev headers : List SectionHeader
  headers = headers_from 1 (file_header_size class) sections_all

  abbrev offset : ℕ
  offset = table_offset class sections

  abbrev count : ℕ
  count = header_count sections

  abbrev header : FileHeader
  header = file_header_of class offset count

  -- where the names begin
  abbrev names_at : ℕ
  names_at = file_header_size class + length (flat_map (λ (s : ImageSection). s.bytes) (map program_section sections))

  abbrev names : View
  names = bytes_at is_big names_at own.bytes

  good : AllOfContents sections_all
  good = all_of_contents sections own fits.are_names refl names_types

  few : count < 0xff00
  few = fits.few

  high : body_end class sections ≤ offset
  high = multiple_after (body_end class sections)

  low : offset < 256 ^ word_size class
  low = let h = fits.size_fits in omega arith

  -- ---- headers

  headers_fit : AllFitHeaders class headers
  headers_fit =
      let joined = ap length (names_joined sections own) in
      let few_names = fits.names_fit in
      all_fit class sections_all 1 (file_header_size class) (length own.bytes) offset
      (omega arith) high (omega arith) low
      good

  read_again : {A : Type 0} {p : Parser A} {x : A} {xs : List ℕ} (rest : List ℕ) → Again is_big 0 p x xs
      → read_in (bytes_at is_big 0 (xs ++ rest)) p ≡ Ok x
  read_again {A} rest h = ap (λ (r : Result (A × View) Error). or_truncated (value_of r)) (h.again rest)

  null_fits : FitsHeader class null_header
  null_fits =
      let small = low in
      record {
        name = omega arith;
        section_type = omega arith;
        flags = omega arith;
        address = omega arith;
        offset = omega arith;
        size = omega arith;
        link = omega arith;
        info = omega arith;
      }

  file_header_is : read_in view (file_header class) ≡ Ok header
  file_header_is =
      read_again (body sections ++ (padding class sections ++ spelled_table class is_big sections))
      (file_header_again class is_big 0 offset count low (omega (arith, few)))

  abbrev before : List ℕ
  before = before_table class is_big sections

  abbrev zeros : List ℕ
  zeros = spelled_section_header class is_big 0 null_header

  abbrev others : List ℕ
  others = flat_map (spelled_section_header class is_big 1) headers

  at_table : length before ≡ offset
  at_table = length-before_table class is_big sections

  first_is : read_in view (header_at class offset) ≡ Ok null_header
  first_is =
      ap (λ (bs : List ℕ). read_in (bytes_at is_big 0 bs) (header_at class offset))
      (table_last class is_big sections ∙ sym (append_assoc before zeros others))
      ∙ read_again others
      (again_onward (λ _. section_header class) (again_skip is_big 0 offset before at_table)
      (section_header_again class is_big (0 + length before) 0 null_header null_fits))

  table_is : read_in view (headers_at class offset count) ≡ Ok (null_header ∷ headers)
  table_is =
      let len = length-headers_from sections_all 1 (file_header_size class) ∙ length-all_sections sections in
      let whole : count ≡ suc (length headers) = omega arith in
      ap (λ (n : ℕ). read_in view (headers_at class offset n)) whole
      ∙ ap (λ (bs : List ℕ). read_in (bytes_at is_big 0 bs) (headers_at class offset (suc (length headers))))
      (table_last class is_big sections ∙ sym (append-nil (before ++ spelled_table class is_big sections)))
      ∙ read_again []
      (again_onward (λ _. times (suc (length headers)) (section_header class))
      (again_skip is_big 0 offset before at_table)
      (table_again class is_big (0 + length before) headers null_fits headers_fit))

  -- ---- names

  -- the bytes of the sections before the names
  abbrev middle : List ℕ
  middle = flat_map (λ (s : ImageSection). s.bytes) (map program_section sections)

  -- what follows the names
  abbrev rest : List ℕ
  rest = padding class sections ++ spelled_table class is_big sections

  names_within : file ≡ (spelled_file_header class is_big sections ++ middle) ++ (own.bytes ++ rest)
  names_within =
      ap (λ (bs : List ℕ). spelled_file_header class is_big sections ++ (bs ++ rest))
      (flat_map-append (λ (s : ImageSection). s.bytes) (map program_section sections) (own ∷ []))
      ∙ grouped (spelled_file_header class is_big sections) middle own.bytes rest
    where
      grouped : (h m o r : List ℕ) → h ++ ((m ++ (o ++ [])) ++ r) ≡ (h ++ m) ++ (o ++ r)
      grouped h m o r = simp (append_assoc, append-nil)

  names_are : linked_contents (count - 1) (null_header ∷ headers) view ≡ Ok names
  names_are =
      let k = length (map program_section sections) in
      let len = length-map sections program_section in
      let index : count - 1 ≡ suc k = omega arith in
      let some : suc k ≡ 0 → ⊥ = λ e. absurd (omega arith) in
      let at = names_at in
      let begins : length (spelled_file_header class is_big sections ++ middle) ≡ at =
      length-append (spelled_file_header class is_big sections) middle
      ∙ ap (λ n. n + length middle) (length-file_header class is_big sections) in
      let texts = flat_map (λ (s : ImageSection). spelled_name s.name) (map program_section sections) in
      let h = header_of (1 + length texts) at own in
      ap (λ (n : ℕ). linked_contents n (null_header ∷ headers) view) index
      ∙ ap (λ (b : Bool). cond b (Ok (prefix 0 view)) (contents_of (slice_get headers k) view)) (ne_eqb (suc k) 0 some)
      ∙ ap (λ (o : Option SectionHeader). contents_of o view)
      (last_header (map program_section sections) 1 (file_header_size class) own)
      ∙ ap (λ (bs : List ℕ). contents h (bytes_at is_big 0 bs)) names_within
      ∙ contents_are is_big (spelled_file_header class is_big sections ++ middle) rest (1 + length texts) at own
      names_types begins

  -- ---- all section headers

  named : Result View LoadError → Result Sections LoadError
  named r = r >>= λ names. Ok (record { headers = null_header ∷ headers; names = names })

  listed : ℕ → Result (List SectionHeader) LoadError → Result Sections LoadError
  listed index r = r >>= λ hs. linked_contents index hs view >>= λ names. Ok (record { headers = hs; names = names })

  whole_table : table class header view ≡ Ok (record { headers = null_header ∷ headers; names = names })
  unfolding named listed
  whole_table =
      let some : count ≡ 0 → ⊥ = λ e. absurd (omega arith) in
      let unreserved : count - 1 ≡ 0xffff → ⊥ = (let f = few in λ e. absurd (omega arith)) in
      ap (λ (r : Result SectionHeader LoadError). r >>= λ first.
      listed (names_index header first) (read_in view (headers_at class offset (section_count header first)))) first_is
      ∙ ap (λ (b : Bool). listed (names_index header null_header)
      (read_in view (headers_at class offset (cond b 0 count))))
      (ne_eqb count 0 some)
      ∙ ap (listed (names_index header null_header)) table_is
      ∙ ap (λ (b : Bool). named (linked_contents (cond b 0 (count - 1)) (null_header ∷ headers) view))
      (ne_eqb (count - 1) 0xffff unreserved)
      ∙ ap named names_are

  sections_are : sections_of class header view ≡ Ok (record { headers = null_header ∷ headers; names = names })
  sections_are =
      let some = header_some class in
      let above = high in
      let not_first : offset ≡ 0 → ⊥ = λ e. absurd (omega arith) in
      ap (λ (b : Bool). cond b (Ok (record { headers = []; names = prefix 0 view }))
      (cond (eqb (section_header_size class) (section_header_size class)) (table class header view)
      (Err UnsupportedElf))) (ne_eqb offset 0 not_first)
      ∙ ap (λ (b : Bool). cond b (table class header view) (Err UnsupportedElf))
      (eq-eqb (section_header_size class) (section_header_size class) refl)
      ∙ whole_table

  -- ---- the image

  abbrev image : Image
  image = image_with class view headers names

  of_sections : FileHeader → Result Sections LoadError → Result Image LoadError
  of_sections h r = r >>= λ s. Ok (image_with_headers class view h s)

  in_file : image_in class view ≡ Ok image
  unfolding of_sections
  in_file =
      ap (λ (r : Result FileHeader LoadError). r >>= λ h. of_sections h (sections_of class h view)) file_header_is
      ∙ ap (of_sections header) sections_are

  image_is : image_of file ≡ Ok image
  image_is =
      ap (λ (r : Result Identification LoadError).
      r >>= λ id. image_in id.class (record { bytes = file; is_big = id.is_big; first = 0 }))
      (identified class is_big
      (spelled_fields is_big (file_header_fields class offset count) ++ (body sections ++ rest)))
      ∙ in_file

  each : (name : List ℕ) → SectionHasBytes image is_big name (bytes_named name sections_all)
  each name =
      let found =
      sections_found is_big file own.bytes name sections_all 1 (file_header_size class)
      (spelled_file_header class is_big sections) rest (0 ∷ []) [] refl (length-file_header class is_big sections)
      (ap (λ (bs : List ℕ). 0 ∷ bs) (names_joined sections own ∙ sym (append-nil _))) refl good in
      record {
        first = found.first;
        section_is = section_is class view headers names name found.plain ∙ found.contents_is;
      }

  no_symbols : symbols_of image ≡ Ok []
  no_symbols =
      ap (λ (o : Option SectionHeader).
      symbols_at (section_or o (find (λ h. eqb h.section_type 11) headers)) image)
      (none_of_type 2 (λ n t. t.no_symtab) sections_all 1 (file_header_size class) good)
      ∙ ap (λ (o : Option SectionHeader). symbols_at (section_or None o) image)
      (none_of_type 11 (λ n t. t.no_dynsym) sections_all 1 (file_header_size class) good)

  pub holds : HoldsSections is_big sections_all file
  holds = record { image = image; image_is = image_is; each = each; no_symbols = no_symbols }
