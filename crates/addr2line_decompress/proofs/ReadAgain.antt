-- A file that is decompressed is read again.
use Rattle.std.proofs.Common.{◌≡◌, ℕ, ◌+◌, ◌*◌, ◌≤◌, Bool, true, false, cond, nat_lt, not, unwrap_or, List, [], ◌∷◌, drop, Option, Some, None, Result, Ok, Err, refl, sym, ap, subst, ◌∙◌, arith}
use Rattle.std.specs.List.{slice_get}
use Rattle.std.proofs.lemmas.Bool.{ltb-false, ltb-true, eqb-true}
use Rattle.gimli_core_readers.specs.View.{View}
use Rattle.gimli_core_readers.specs.Results.{◌>>=◌, some_of}
use Rattle.gimli_lines_write_bytes.specs.BytesAt.{bytes_at}
use Rattle.addr2line_elf.specs.declared.class.Class.{Class}
use Rattle.addr2line_elf.specs.declared.class.Class.TheVariants.{Elf32, Elf64}
use Rattle.addr2line_elf.specs.declared.error.LoadError.{LoadError}
use Rattle.addr2line_elf.specs.declared.headers.FileHeader.{FileHeader}
use Rattle.addr2line_elf.specs.declared.headers.SectionHeader.{SectionHeader}
use Rattle.addr2line_elf.specs.ElfClasses.{section_header_size}
use Rattle.addr2line_elf.specs.ImageLoading.{read_in}
use Rattle.addr2line_elf.specs.ElfHeaders.{file_header, header_at}
use Rattle.addr2line_elf.specs.ElfImages.{Image, identification, section_at, section_named, addresses_at, image_of}
use Rattle.addr2line_decompress.specs.declared.error.DecompressError.{DecompressError}
use Rattle.addr2line_decompress.specs.declared.error.DecompressError.TheVariants.{OverlappingHeaders, TooLarge}
use Rattle.addr2line_decompress.specs.declared.sections.DebugSections.{DebugSections}
use Rattle.addr2line_decompress.specs.DecompressResults.{refuse_if, or_image}
use Rattle.addr2line_decompress.specs.ImageTables.{ImageTable, file_header_size, table_of}
use Rattle.addr2line_decompress.specs.CompressedSections.{has_compressed, new_names, names_start, refuse_names, refuse_all_names, refuse_new_names, sections_from}
use Rattle.addr2line_decompress.specs.DecompressedBytes.{size_limit, size_after, SectionTexts, section_texts, texts_if_small, bytes_after, if_any, new_image, new_image_if_any, decompressed}
use Rattle.addr2line_decompress.specs.Decompression.{index_after, text_at_index, waits, IsSectionAfter, IsDecompressionOf, texts_if_any, texts_of, Decompresses, AreBytes}
use Rattle.addr2line_decompress.proofs.TableReads.{TableParts, table_parts, table_sections, no_table, some_table, SectionsRead, MayBeRead, ok_parts, Entries}
use Rattle.addr2line_decompress.proofs.SectionsAfter.{sections_all}
use Rattle.addr2line_decompress.proofs.ImagesAfter.{Known, image_is, after, table}
use Rattle.addr2line_decompress.proofs.NameChoices.{others_same, present_same, none_renamed}
use Rattle.addr2line_decompress.proofs.Relations.{decompression}

image_parts_of : {A : Type 0} (r : Result A LoadError) (x : A) → or_image r ≡ Ok x → r ≡ Ok x
image_parts_of (Ok y) x is = cc
image_parts_of (Err e) x is = absurd cc

-- the value of one result
abbrev ok : {A : Type 0} → A → Result A DecompressError
ok x = Ok x

ok_same : {A : Type 0} (x y : A) → ok x ≡ ok y → x ≡ y
ok_same x y is = cc

test_fails : (b : Bool) (e : DecompressError) → refuse_if b e ≡ Ok tt → b ≡ false
test_fails true e is = absurd cc
test_fails false e is = refl

not_false : (b : Bool) → not b ≡ false → b ≡ true
not_false true is = refl
not_false false is = absurd cc

-- ---- an image in which nothing is compressed

no_text : (o : Option ℕ) → text_at_index [] o ≡ None
no_text None = refl
no_text (Some i) = refl

unchanged : (which : DebugSections) (image : Image) → has_compressed which image 0 image.sections ≡ false
    → IsDecompressionOf which [] image image
unchanged which image none = record {
  class = refl;
  order = refl;
  file_type = refl;
  sections = λ name.
      let o = index_after which name image in
      subst (λ (t : Option (List ℕ)). IsSectionAfter t image.file.is_big (waits o image) (section_at o image)
      (section_named name image)) (sym (no_text o))
      (ap (λ (p : Option ℕ). section_at p image) (none_renamed which image name none));
  ranges = λ name _. ap (λ (p : Option ℕ). addresses_at p image) (none_renamed which image name none);
  others = others_same which image;
  present = present_same which image;
  symbols = refl;
}

-- ---- an image that is changed

-- what is read of it
record ReadAfter (which : DebugSections) (texts : List (Option (List ℕ))) (image : Image)
    (bytes : List ℕ) : Type 0 where
  pub image_after : Image
  pub after_is : image_of bytes ≡ Ok image_after
  pub decompression : IsDecompressionOf which texts image image_after

has_room : (class : Class) (n : ℕ) → file_header_size class ≤ n → n ≡ 0 → ⊥
has_room Elf32 n h e = absurd (omega arith)
has_room Elf64 n h e = absurd (omega arith)

module _ (which : DebugSections) (class : Class) (is_big : Bool) (file : List ℕ) (file_type : ℕ)
    (headers : List SectionHeader) (names : View) (header : FileHeader) (first : SectionHeader) (found : SectionTexts)
  where
    abbrev t : ImageTable
    t = table which class is_big file file_type headers names header first None [] []

    abbrev fresh : Option (List ℕ)
    fresh = new_names which t.image

    changed_file : (identified : identification file ≡ Ok (record { class = class; is_big = is_big }))
        → read_in (bytes_at is_big 0 file) (file_header class) ≡ Ok header → header.file_type ≡ file_type
        → read_in (bytes_at is_big 0 file) (header_at class header.table_offset) ≡ Ok first
        → MayBeRead class is_big file header first (record { headers = headers; names = names }) → AreBytes file
        → (h : SectionHeader) (rest : List SectionHeader) → headers ≡ h ∷ rest
        → section_texts which t ≡ Ok found
        → ReadAfter which found.texts t.image (bytes_after t found.sections found.texts)
    changed_file identified header_is type_is first_is read are_bytes h rest some is =
        let a = ok_parts (refuse_if (nat_lt header.table_offset
        (file_header_size class)) OverlappingHeaders) _ found is in
        let b = ok_parts (refuse_all_names which t) _ found a.2 in
        let n = ok_parts (refuse_new_names t fresh) _ found b.2 in
        let start = names_start t.image fresh in
        let c = ok_parts (sections_from which t fresh 0 start headers) _ found n.2 in
        let d = ok_parts (texts_if_small t c.0) _ found c.2 in
        let e = ok_parts (refuse_if (not (nat_lt (size_after t c.0) (size_limit class))) TooLarge) _ d.0 d.1 in
        let f = ok_parts (refuse_names which t.image t.names_index (slice_get headers t.names_index)) _ tt b.1 in
        let apart : file_header_size class ≤ header.table_offset =
        ltb-false header.table_offset (file_header_size class) (test_fails _ OverlappingHeaders a.1) in
        let room = ltb-true (size_after t c.0) (size_limit class) (not_false _ (test_fails _ TooLarge e.1)) in
        let whole : (record { sections = c.0; texts = d.0 }) ≡ found = ok_same _ found d.2 in
        let r = section_headers read apart in
        let at_start : header.table_offset ≡ header.table_offset + 0 * section_header_size class = omega arith in
        let entries = subst (λ (n : ℕ). Entries class is_big headers (drop n file)) at_start r.read.entries in
        let known : Known which class is_big file file_type headers names header first fresh c.0 d.0 = record {
          identified = identified;
          header_is = header_is;
          type_is = type_is;
          first_is = first_is;
          read = r;
          apart = apart;
          fresh_are = refl;
          names_stay = f.1;
          fit = n.1;
          all = sections_all which t fresh 0 start headers c.0 d.0 entries c.1 e.2;
          room = room;
          are_bytes = are_bytes;
        } in
        subst (λ (g : SectionTexts). ReadAfter which g.texts t.image (bytes_after t g.sections g.texts)) whole
        (record {
          image_after = after which class is_big file file_type headers names header first fresh c.0 d.0 known;
          after_is =
              image_is which class is_big file file_type headers names header first fresh c.0 d.0 known h rest some;
          decompression =
              decompression which class is_big file file_type headers names header first fresh c.0 d.0 known f.2;
        })
      where
        section_headers : MayBeRead class is_big file header first (record { headers = headers; names = names })
            → file_header_size class ≤ header.table_offset
            → SectionsRead class is_big file header first (record { headers = headers; names = names })
        section_headers (no_table at_zero none) apart =
            absurd (has_room class header.table_offset apart (eqb-true header.table_offset 0 at_zero))
        section_headers (some_table r) apart = r

-- ---- the table of a file, by its parts

abbrev table_with : ImageTable → FileHeader → SectionHeader → List ℕ → DebugSections → ImageTable
table_with t header first file which =
    table which t.image.class t.image.file.is_big file t.image.file_type t.image.sections t.image.names
    header first None
    [] []

table_same : (which : DebugSections) (file : List ℕ) (t : ImageTable) (p : TableParts file t)
    → t ≡ table_with t p.parts.header p.first file which
table_same which file t p =
    ap (λ (v : View). record {
      image = record {
        file = v;
        class = t.image.class;
        file_type = t.image.file_type;
        sections = t.image.sections;
        names = t.image.names;
      };
      offset = t.offset;
      names_index = t.names_index;
    }) p.parts.file_is
    ∙ ap (λ (n : ℕ). with_places n t.names_index) p.offset_is
    ∙ ap (λ (n : ℕ). with_places p.parts.header.table_offset n) p.names_are
  where
    with_places : ℕ → ℕ → ImageTable
    with_places offset index = record {
      image = record {
        file = bytes_at t.image.file.is_big 0 file;
        class = t.image.class;
        file_type = t.image.file_type;
        sections = t.image.sections;
        names = t.image.names;
      };
      offset = offset;
      names_index = index;
    }

some_header : (which : DebugSections) (image : Image) (hs : List SectionHeader) → has_compressed which image 0 hs ≡ true
    → (h : SectionHeader) × (rest : List SectionHeader) × (hs ≡ h ∷ rest)
some_header which image [] is = absurd cc
some_header which image (h ∷ rest) is = (h, rest, refl)

read_after : (which : DebugSections) (file : List ℕ) (t : ImageTable) (found : SectionTexts) → table_of file ≡ Ok t
    → AreBytes file → has_compressed which t.image 0 t.image.sections ≡ true → section_texts which t ≡ Ok found
    → ReadAfter which found.texts t.image (bytes_after t found.sections found.texts)
read_after which file t found table_is are_bytes some is =
    let p = table_parts file t table_is in
    let header = p.parts.header in
    let same = table_same which file t p in
    let view_is = p.parts.file_is in
    let h = some_header which t.image t.image.sections some in
    subst (λ (u : ImageTable). ReadAfter which found.texts u.image (bytes_after u found.sections found.texts))
    (sym same)
    (changed_file which t.image.class t.image.file.is_big file t.image.file_type t.image.sections t.image.names header
    p.first found p.parts.identified
    (ap (λ (v : View). read_in v (file_header t.image.class)) (sym view_is) ∙ p.parts.header_is)
    p.parts.type_is
    (ap (λ (v : View). read_in v (header_at t.image.class header.table_offset)) (sym view_is) ∙ p.first_is)
    (table_sections file t p) are_bytes h.0 h.1 h.2
    (ap (section_texts which) (sym same) ∙ is))

-- ---- both

module _ (which : DebugSections) (file after : List ℕ) (are_bytes : AreBytes file) (t : ImageTable)
    (table_is : table_of file ≡ Ok t) where
  texts_from_table : (found : Option SectionTexts) → if_any which t (section_texts which t) ≡ Ok found
      → texts_of which file ≡ Ok (texts_if_any found)
  texts_from_table found is =
      ap (λ (r : Result ImageTable LoadError). or_image r >>= λ u. if_any which u (section_texts which u) >>= λ f.
      Ok (texts_if_any f)) table_is
      ∙ ap (λ (r : Result (Option SectionTexts) DecompressError). r >>= λ f. Ok (texts_if_any f)) is

  of_any : (b : Bool) → has_compressed which t.image 0 t.image.sections ≡ b → (o : Option (List ℕ))
      → cond b (some_of (new_image which t)) (Ok None) ≡ Ok o → unwrap_or o file ≡ after
      → Decompresses which file after
  of_any true some o is after_is =
      let a = ok_parts (new_image which t) (λ x. Ok (Some x)) o is in
      let b = ok_parts (section_texts which t) (λ found. Ok (bytes_after t found.sections found.texts)) a.0 a.1 in
      let option_is : Some a.0 ≡ o = ok_same (Some a.0) o a.2 in
      let bytes_are : bytes_after t b.0.sections b.0.texts ≡ a.0 = ok_same _ a.0 b.2 in
      let whole : bytes_after t b.0.sections b.0.texts ≡ after =
      bytes_are ∙ ap (λ (x : Option (List ℕ)). unwrap_or x file) option_is ∙ after_is in
      let r = subst (λ (bytes : List ℕ). ReadAfter which b.0.texts t.image bytes) whole
      (read_after which file t b.0 table_is are_bytes some b.1) in
      let found_is : if_any which t (section_texts which t) ≡ Ok (Some b.0) =
      ap (λ (c : Bool). cond c (some_of (section_texts which t)) (Ok None)) some
      ∙ ap (λ (x : Result SectionTexts DecompressError). some_of x) b.1 in
      record {
        texts = b.0.texts;
        texts_are = texts_from_table (Some b.0) found_is;
        image_before = t.image;
        before_is = (table_parts file t table_is).image_is;
        image_after = r.image_after;
        after_is = r.after_is;
        decompression = r.decompression;
      }
  of_any false none o is after_is =
      let option_is : None ≡ o = ok_same None o is in
      let same : file ≡ after = ap (λ (x : Option (List ℕ)). unwrap_or x file) option_is ∙ after_is in
      let found_is : if_any which t (section_texts which t) ≡ Ok None =
      ap (λ (c : Bool). cond c (some_of (section_texts which t)) (Ok None)) none in
      let image = (table_parts file t table_is).image_is in
      record {
        texts = [];
        texts_are = texts_from_table None found_is;
        image_before = t.image;
        before_is = image;
        image_after = t.image;
        after_is = subst (λ (l : List ℕ). image_of l ≡ Ok t.image) same image;
        decompression = unchanged which t.image none;
      }

pub decompresses : (which : DebugSections) (file after : List ℕ) → AreBytes file → decompressed which file ≡ Ok after
    → Decompresses which file after
decompresses which file after are_bytes is =
    let a = ok_parts (new_image_if_any which file) (λ o. Ok (unwrap_or o file)) after is in
    let b = ok_parts (or_image (table_of file)) (λ t. if_any which t (new_image which t)) a.0 a.1 in
    let after_is : unwrap_or a.0 file ≡ after = ok_same (unwrap_or a.0 file) after a.2 in
    of_any which file after are_bytes b.0 (image_parts_of (table_of file) b.0 b.1)
    (has_compressed which b.0.image 0 b.0.image.sections) refl a.0 b.2 after_is
