-- The sections of an image are found by their names.
use Rattle.std.proofs.Common.{◌≡◌, ℕ, suc, ◌+◌, ◌<◌, ◌≤◌, Bool, true, false, cond, eqb, List, [], ◌∷◌, ◌++◌, length, take, Option, Some, None, Result, Ok, Err, inl, inr, refl, sym, ap, subst, ◌∙◌, arith, append_assoc}
use Rattle.std.specs.Prelude.{◌^◌, flat_map, nat_eq, option_map, bit_and}
use Rattle.std.specs.List.{list_any, position, position_or_len, find, slice_get}
use Rattle.std.specs.Cmp.Lexicographic.{pointwise}
use Rattle.std.proofs.lemmas.Bool.{le-ltb, lt-ltb, not-true}
use Rattle.std.proofs.lemmas.List.{length-append, take_at, drop_at}
use Rattle.std.proofs.lemmas.List.Folds.{find_at}
use Rattle.std.proofs.lemmas.Option.{slice_get_cases}
use Rattle.gimli_lines_write_bytes.specs.Error.{Error}
use Rattle.gimli_lines_write_bytes.specs.View.{View, prefix, unexpected_end}
use Rattle.gimli_lines_write_bytes.specs.Parsers.{proceed, truncate, here, index_or_end, skip}
use Rattle.gimli_lines_write_bytes.specs.BytesAt.{bytes_at}
use Rattle.gimli_lines_write_bytes.proofs.PrefixReads.{spelled_by, prefix_is, zero_found}
use Rattle.addr2line_elf.specs.declared.class.Class.{Class}
use Rattle.addr2line_elf.specs.declared.error.LoadError.{LoadError}
use Rattle.addr2line_elf.specs.declared.error.LoadError.TheVariants.{CompressedSection}
use Rattle.addr2line_elf.specs.ElfClasses.{word_size}
use Rattle.gimli_lines_write_bytes.specs.Results.{◌>>=◌}
use Rattle.addr2line_elf.specs.declared.headers.SectionHeader.{SectionHeader}
use Rattle.addr2line_elf.specs.ImageLoading.{or_truncated}
use Rattle.addr2line_elf.specs.ElfTexts.{text_before_zero, text_at, is_text}
use Rattle.addr2line_elf.specs.ElfImages.{Image, contents, section_at, section_named, debug_contents, plain_contents}
use Rattle.gimli_lines_write_bytes.specs.Parsers.{value_of}
use Rattle.linemap_elf.specs.declared.constants.TheConstants.{ET_EXEC}
use Rattle.linemap_elf.specs.SpelledImages.{ImageSection, spelled_name, null_header, header_of, headers_from}
use Rattle.linemap_elf.specs.ImageLaws.{is_name, bytes_named}
use Rattle.linemap_elf.proofs.HeadersRead.{again_skip, AllFitHeaders}

-- ---- bytes of a section

truncate_is : (v : View) (xs rest : List ℕ) → v.bytes ≡ xs ++ rest → truncate (length xs) v ≡ Ok (tt, spelled_by v xs)
truncate_is v xs rest whole =
    let enough : length xs ≤ length v.bytes = omega (arith, ap length whole, length-append xs rest) in
    ap (λ (b : Bool). cond {A = Result (Unit {0} × View) Error} b (Err (unexpected_end v))
    (Ok (tt, prefix (length xs) v))) (le-ltb _ _ enough)
    ∙ ap (λ (w : View). Ok (tt, w)) (prefix_is v xs rest (length xs) whole refl)

-- the sections with bytes in the file have these types
pub record IsOfContents (section_type : ℕ) : Type 0 where
  pub no_symtab : eqb section_type 2 ≡ false
  pub no_nobits : eqb section_type 8 ≡ false
  pub no_dynsym : eqb section_type 11 ≡ false
  pub small : section_type < 256 ^ 4

pub contents_are : (is_big : Bool) (before rest : List ℕ) (name offset : ℕ) (s : ImageSection)
    → IsOfContents s.section_type → length before ≡ offset
    → contents (header_of name offset s) (bytes_at is_big 0 (before ++ (s.bytes ++ rest)))
    ≡ Ok (bytes_at is_big offset s.bytes)
contents_are is_big before rest name offset s types at =
    let size = length s.bytes in
    let v = bytes_at is_big 0 (before ++ (s.bytes ++ rest)) in
    let w = bytes_at is_big (0 + length before) (s.bytes ++ rest) in
    let start : 0 + length before ≡ offset = omega arith in
    let skipped : skip offset v ≡ Ok (tt, w) = (again_skip is_big 0 offset before at).again (s.bytes ++ rest) in
    rw types.no_nobits
    (ap (λ (r : Result (Unit {0} × View) Error).
    or_truncated (value_of (proceed (proceed r (λ _. truncate size)) (λ _. here)))) skipped
    ∙ ap (λ (r : Result (Unit {0} × View) Error). or_truncated (value_of (proceed r (λ _. here))))
    (truncate_is w s.bytes rest refl)
    ∙ ap (λ (n : ℕ). Ok (bytes_at is_big n s.bytes)) start)

-- ---- names

index_is : (o : Option ℕ) (v : View) (n : ℕ) → index_or_end o v ≡ Ok n → o ≡ Some n
index_is (Some m) v n e = cc
index_is None v n e = absurd cc

pub text_is : (before name rest : List ℕ) (offset : ℕ) → is_name name ≡ true → length before ≡ offset
    → text_at (before ++ (spelled_name name ++ rest)) offset ≡ Some name
text_is before name rest offset good at =
    let joined : spelled_name name ++ rest ≡ name ++ 0 ∷ rest = append_assoc name (0 ∷ []) rest in
    let v = bytes_at false 0 (spelled_name name ++ rest) in
    let none = not-true (list_any (λ b. eqb b 0) name) good in
    let index : position (λ b. eqb b 0) (spelled_name name ++ rest) ≡ Some (length name) =
    index_is _ v (length name) (zero_found v name rest none joined) in
    ap text_before_zero (drop_at before (spelled_name name ++ rest) offset at)
    ∙ ap (option_map (λ n. take n (spelled_name name ++ rest))) index
    ∙ ap Some (ap (take (length name)) joined ∙ take_at name (0 ∷ rest) (length name) refl)

-- ---- sections by name

-- the bytes that a header describes, in a file; none without a header
abbrev pub contents_of_any : Option SectionHeader → View → Result View LoadError
contents_of_any None file = Ok (prefix 0 file)
contents_of_any (Some h) file = contents h file

-- no header, or a plain one
abbrev IsPlain : Option SectionHeader → Type 0
IsPlain None = Unit {0}
IsPlain (Some h) = (h.flags ≡ 0) × (eqb h.section_type 8 ≡ false)

abbrev pub image_with : Class → View → List SectionHeader → View → Image
image_with class file headers names = record {
  file = file;
  class = class;
  file_type = ET_EXEC;
  sections = null_header ∷ headers;
  names = names;
}

-- sections that are read and aren't compressed
after_flags : (flags : ℕ) → flags ≡ 0 → (r : Result View LoadError)
    → (r >>= λ view. cond (eqb (bit_and flags 0x800) 0) (Ok view) (Err CompressedSection)) ≡ r
after_flags flags none (Ok v) = rw none refl
after_flags flags none (Err e) = refl

module _ (class : Class) (file : View) (headers : List SectionHeader) (names : View) where
  abbrev image : Image
  image = image_with class file headers names

  plain_is : (index : ℕ) (h : SectionHeader) → IsPlain (Some h) → debug_contents index (Some h) image ≡ contents h file
  plain_is index h plain =
      ap (λ (b : Bool). cond b (contents h file) (plain_contents index h image)) plain.1
      ∙ after_flags h.flags plain.0 (contents h file)

  pub section_is : (name : List ℕ)
      → IsPlain (find (λ h. is_text (text_at names.bytes h.name) name) headers)
      → section_named name image
      ≡ contents_of_any (find (λ h. is_text (text_at names.bytes h.name) name) headers) file
  section_is name plain =
      elim (slice_get_cases headers k).1 [ inl h ↦ found h.0 h.1 h.2 | inr h ↦ missing h.0 h.1 ]
    where
      test : SectionHeader → Bool
      test = λ h. is_text (text_at names.bytes h.name) name

      k : ℕ
      k = position_or_len test headers

      found : (h : SectionHeader) → k < length headers → slice_get headers k ≡ Some h
          → section_named name image ≡ contents_of_any (find test headers) file
      found h within e =
          let is = find_at test headers ∙ e in
          let one : k + 1 ≡ suc k = omega arith in
          ap (λ (b : Bool). section_at (option_map (λ n. n + 1) (cond b (Some k) None)) image)
          (lt-ltb k (length headers) within)
          ∙ ap (λ (o : Option SectionHeader). debug_contents (k + 1) o image)
          (ap (slice_get (null_header ∷ headers)) one ∙ e)
          ∙ plain_is (k + 1) h (subst IsPlain is plain)
          ∙ ap (λ (o : Option SectionHeader). contents_of_any o file) (sym is)

      missing : length headers ≤ k → slice_get headers k ≡ None
          → section_named name image ≡ contents_of_any (find test headers) file
      missing past e =
          ap (λ (b : Bool). section_at (option_map (λ n. n + 1) (cond b (Some k) None)) image)
          (le-ltb k (length headers) past)
          ∙ ap (λ (o : Option SectionHeader). contents_of_any o file) (sym (find_at test headers ∙ e))

-- ---- headers of sections whose bytes and names follow each other

-- each name can be written, and each section has bytes
unfoldable pub AllOfContents : List ImageSection → Type 0
AllOfContents [] = Unit {0}
AllOfContents (s ∷ ss) = (is_name s.name ≡ true) × IsOfContents s.section_type × AllOfContents ss

module _ (is_big : Bool) (file names name : List ℕ) where
  abbrev view : View
  view = bytes_at is_big 0 file

  abbrev is_named : SectionHeader → Bool
  is_named h = is_text (text_at names h.name) name

  -- the first of the headers with the name has the bytes of the first section with it
  pub record IsFound (headers : List SectionHeader) (sections : List ImageSection) : Type 0 where
    pub first : ℕ
    pub plain : IsPlain (find is_named headers)
    pub contents_is : contents_of_any (find is_named headers) view
        ≡ Ok (bytes_at is_big first (bytes_named name sections))

  first_named : (h : SectionHeader) (hs : List SectionHeader) (s : ImageSection) (ss : List ImageSection) (first : ℕ)
      → is_named h ≡ pointwise nat_eq s.name name → IsPlain (Some h)
      → contents h view ≡ Ok (bytes_at is_big first s.bytes) → IsFound hs ss → IsFound (h ∷ hs) (s ∷ ss)
  first_named h hs s ss first same plain is others = by_test (pointwise nat_eq s.name name) refl
    where
      by_test : (b : Bool) → pointwise nat_eq s.name name ≡ b → IsFound (h ∷ hs) (s ∷ ss)
      by_test true here =
          let found : find is_named (h ∷ hs) ≡ Some h =
          ap (λ (b : Bool). cond b (Some h) (find is_named hs)) (same ∙ here) in
          record {
            first = first;
            plain = subst IsPlain (sym found) plain;
            contents_is = ap (λ (o : Option SectionHeader). contents_of_any o view) found ∙ is
                ∙ ap (λ (b : Bool). Ok (bytes_at is_big first (cond b s.bytes (bytes_named name ss)))) (sym here);
          }
      by_test false here =
          let found : find is_named (h ∷ hs) ≡ find is_named hs =
          ap (λ (b : Bool). cond b (Some h) (find is_named hs)) (same ∙ here) in
          record {
            first = others.first;
            plain = subst IsPlain (sym found) others.plain;
            contents_is = ap (λ (o : Option SectionHeader). contents_of_any o view) found ∙ others.contents_is
                ∙ ap (λ (b : Bool). Ok (bytes_at is_big others.first (cond b s.bytes (bytes_named name ss))))
                (sym here);
          }

  pub sections_found : (ss : List ImageSection) (n o : ℕ) (before rest names_before names_rest : List ℕ)
      → file ≡ before ++ (flat_map (λ s. s.bytes) ss ++ rest) → length before ≡ o
      → names ≡ names_before ++ (flat_map (λ s. spelled_name s.name) ss ++ names_rest) → length names_before ≡ n
      → AllOfContents ss → IsFound (headers_from n o ss) ss
  unfolding AllOfContents
  sections_found [] n o before rest names_before names_rest whole at names_whole names_at good =
      record { first = 0; plain = tt; contents_is = refl }
  sections_found (s ∷ ss) n o before rest names_before names_rest whole at names_whole names_at good =
      let bytes = flat_map (λ (t : ImageSection). t.bytes) ss in
      let texts = flat_map (λ (t : ImageSection). spelled_name t.name) ss in
      let text = spelled_name s.name in
      let split : file ≡ before ++ (s.bytes ++ (bytes ++ rest)) =
      whole ∙ ap (λ (bs : List ℕ). before ++ bs) (append_assoc s.bytes bytes rest) in
      let names_split : names ≡ names_before ++ (text ++ (texts ++ names_rest)) =
      names_whole ∙ ap (λ (bs : List ℕ). names_before ++ bs) (append_assoc text texts names_rest) in
      let h = header_of n o s in
      first_named h (headers_from (n + length text) (o + length s.bytes) ss) s ss o
      (ap (λ (bs : List ℕ). is_text (text_at bs n) name) names_split
      ∙ ap (λ (t : Option (List ℕ)). is_text t name)
      (text_is names_before s.name (texts ++ names_rest) n good.0 names_at))
      (refl, good.1.no_nobits)
      (ap (λ (bs : List ℕ). contents h (bytes_at is_big 0 bs)) split
      ∙ contents_are is_big before (bytes ++ rest) n o s good.1 at)
      (sections_found ss (n + length text) (o + length s.bytes) (before ++ s.bytes) rest (names_before ++ text)
      names_rest (split ∙ sym (append_assoc before s.bytes (bytes ++ rest)))
      (omega (arith, length-append before s.bytes))
      (names_split ∙ sym (append_assoc names_before text (texts ++ names_rest)))
      (omega (arith, length-append names_before text)) good.2)

-- ---- more of such headers

pub none_of_type : (t : ℕ) → ((n : ℕ) → IsOfContents n → eqb n t ≡ false) → (ss : List ImageSection) (n o : ℕ)
    → AllOfContents ss → find (λ h. eqb h.section_type t) (headers_from n o ss) ≡ None
unfolding AllOfContents
none_of_type t other [] n o good = refl
none_of_type t other (s ∷ ss) n o good =
    ap (λ (b : Bool). cond b (Some (header_of n o s))
    (find (λ h. eqb h.section_type t) (headers_from (n + length (spelled_name s.name)) (o + length s.bytes) ss)))
    (other s.section_type good.1)
    ∙ none_of_type t other ss (n + length (spelled_name s.name)) (o + length s.bytes) good.2

pub length-headers_from : (ss : List ImageSection) (n o : ℕ) → length (headers_from n o ss) ≡ length ss
length-headers_from [] n o = refl
length-headers_from (s ∷ ss) n o =
    ap suc (length-headers_from ss (n + length (spelled_name s.name)) (o + length s.bytes))

pub last_header : (ss : List ImageSection) (n o : ℕ) (s : ImageSection)
    → slice_get (headers_from n o (ss ++ s ∷ [])) (length ss)
    ≡ Some (header_of (n + length (flat_map (λ t. spelled_name t.name) ss)) (o + length (flat_map (λ t. t.bytes) ss)) s)
last_header [] n o s =
    let a : n ≡ n + 0 = omega arith in
    let b : o ≡ o + 0 = omega arith in
    ap (λ (k : ℕ). Some (header_of k o s)) a ∙ ap (λ (k : ℕ). Some (header_of (n + 0) k s)) b
last_header (t ∷ ss) n o s =
    let text = spelled_name t.name in
    let texts = flat_map (λ (u : ImageSection). spelled_name u.name) ss in
    let bytes = flat_map (λ (u : ImageSection). u.bytes) ss in
    let a : n + length text + length texts ≡ n + length (text ++ texts) = omega (arith, length-append text texts) in
    let b : o + length t.bytes + length bytes ≡ o + length (t.bytes ++ bytes) =
    omega (arith, length-append t.bytes bytes) in
    last_header ss (n + length text) (o + length t.bytes) s
    ∙ ap (λ (k : ℕ). Some (header_of k (o + length t.bytes + length bytes) s)) a
    ∙ ap (λ (k : ℕ). Some (header_of (n + length (text ++ texts)) k s)) b

pub all_fit : (class : Class) (ss : List ImageSection) (n o most end : ℕ)
    → n + length (flat_map (λ s. spelled_name s.name) ss) ≤ most → o + length (flat_map (λ s. s.bytes) ss) ≤ end
    → most < 256 ^ 4 → end < 256 ^ word_size class → AllOfContents ss → AllFitHeaders class (headers_from n o ss)
unfolding AllOfContents AllFitHeaders
all_fit class [] n o most end few low names_fit fits good = tt
all_fit class (s ∷ ss) n o most end few low names_fit fits good =
    let text = spelled_name s.name in
    let names_split = length-append text (flat_map (λ (t : ImageSection). spelled_name t.name) ss) in
    let split = length-append s.bytes (flat_map (λ (t : ImageSection). t.bytes) ss) in (
      record {
        name = omega arith;
        section_type = good.1.small;
        flags = omega arith;
        address = omega arith;
        offset = omega arith;
        size = omega arith;
        link = omega arith;
        info = omega arith;
      },
      all_fit class ss (n + length text) (o + length s.bytes) most end (omega arith) (omega arith) names_fit fits
          good.2,
    )
