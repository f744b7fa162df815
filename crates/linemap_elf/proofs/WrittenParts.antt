-- The parts of an image as they are written.
use Rattle.std.proofs.Common.{◌≡◌, ℕ, zero, suc, ◌+◌, ◌*◌, ◌<◌, ◌≤◌, ◌^◌, List, [], ◌∷◌, ◌++◌, length, map, take, drop, get_or, refl, sym, ap, ◌∙◌, arith, append_assoc, append-nil}
use Rattle.std.specs.Prelude.{flat_map, replicate}
use Rattle.std.proofs.lemmas.List.{length-append, drop_more}
use Rattle.std.proofs.lemmas.List.Concat.{flat_map-append}
use Rattle.std.proofs.lemmas.List.Folds.{flat_map-map}
use Rattle.addr2line_elf.specs.declared.class.Class.{Class}
use Rattle.addr2line_elf.specs.declared.class.Class.TheVariants.{Elf32, Elf64}
use Rattle.addr2line_elf.specs.ElfClasses.{word_size, section_header_size}
use Rattle.linemap_elf.specs.SpelledImages.{file_header_size, FitsHeader, plain_header, NamedBytes, ImageSection, program_section, spelled_name, names_name, names_section, body, body_end, table_offset, header_count, image_size}
use Rattle.linemap_elf.specs.WrittenImages.{ImageBytes, append, bytes_joined, names_joined}
use Rattle.linemap_elf.specs.ImageLaws.{ImageFits}
use Rattle.linemap_elf.proofs.ImageSizes.{multiple_after}

-- ---- names

names_last : (sections : List NamedBytes) (own : List ℕ)
    → flat_map spelled_name (map (λ (s : NamedBytes). s.name) sections ++ own ∷ [])
    ≡ names_joined sections ++ spelled_name own
names_last [] own = append-nil (spelled_name own)
names_last (s ∷ ss) own =
    ap (λ (bs : List ℕ). spelled_name s.name ++ bs) (names_last ss own)
    ∙ sym (append_assoc (spelled_name s.name) (names_joined ss) (spelled_name own))

pub names_section_is : (sections : List NamedBytes)
    → (names_section sections).bytes ≡ 0 ∷ (names_joined sections ++ spelled_name names_name)
names_section_is sections = ap (λ (bs : List ℕ). 0 ∷ bs) (names_last sections names_name)

pub length_names_section : (sections : List NamedBytes)
    → length (names_section sections).bytes ≡ length (names_joined sections) + 11
length_names_section sections =
    let whole = ap length (names_section_is sections) in
    let parts = length-append (names_joined sections) (spelled_name names_name) in
    sum _ _ _ whole parts
  where
    sum : (x j a : ℕ) → x ≡ suc a → a ≡ j + 10 → x ≡ j + 11
    sum x j a p q = omega arith

-- ---- bytes

pub body_is : (sections : List NamedBytes) → body sections ≡ bytes_joined sections ++ (names_section sections).bytes
body_is sections =
    let own = names_section sections in
    flat_map-append (λ (s : ImageSection). s.bytes) (map program_section sections) (own ∷ [])
    ∙ ap (λ (bs : List ℕ). bs ++ (own.bytes ++ []))
    (flat_map-map (λ (s : ImageSection). s.bytes) program_section sections)
    ∙ ap (λ (bs : List ℕ). bytes_joined sections ++ bs) (append-nil own.bytes)

-- as they are written, one part after the other
pub body_parts : (sections : List NamedBytes) (before : List ℕ)
    → before ++ bytes_joined sections ++ (0 ∷ []) ++ names_joined sections ++ spelled_name names_name
    ≡ before ++ body sections
body_parts sections before =
    grouped before (bytes_joined sections) (0 ∷ []) (names_joined sections) (spelled_name names_name)
    ∙ ap (λ (bs : List ℕ). before ++ (bytes_joined sections ++ bs)) (sym (names_section_is sections))
    ∙ ap (λ (bs : List ℕ). before ++ bs) (sym (body_is sections))
  where
    grouped : (x b z n o : List ℕ) → x ++ b ++ z ++ n ++ o ≡ x ++ (b ++ (z ++ (n ++ o)))
    grouped x b z n o = simp append_assoc

pub length_body : (sections : List NamedBytes)
    → length (body sections) ≡ length (bytes_joined sections) + length (names_section sections).bytes
length_body sections =
    ap length (body_is sections) ∙ length-append (bytes_joined sections) (names_section sections).bytes

-- ---- what fits

abbrev word_is_small : Class → Type 0
word_is_small class = 256 ^ word_size class ≤ 2 ^ 64

small_word : (class : Class) → word_is_small class
small_word Elf32 = omega arith
small_word Elf64 = omega arith

some_table : (class : Class) (count : ℕ) → 2 ≤ count → 80 ≤ count * section_header_size class
some_table Elf32 count some = omega arith
some_table Elf64 count some = omega arith

-- bounds of an image whose fields have room for it
pub record IsBounded (class : Class) (sections : List NamedBytes) : Type 0 where
  pub names_few : length (names_joined sections) + 11 < 2 ^ 32
  pub body_few : body_end class sections
      ≡ file_header_size class + length (bytes_joined sections) + length (names_section sections).bytes
  pub body_before : body_end class sections ≤ table_offset class sections
  pub table_before : table_offset class sections + 80 ≤ image_size class sections
  pub image_low : image_size class sections < 256 ^ word_size class
  pub word_low : 256 ^ word_size class ≤ 2 ^ 64
  pub few : length sections + 2 < 0xff00

pub is_bounded : (class : Class) (sections : List NamedBytes) → ImageFits class sections → IsBounded class sections
is_bounded class sections fits =
    let names = length_names_section sections in
    let few_names = fits.names_fit in
    let whole = length_body sections in
    let table = some_table class (header_count sections) (omega arith) in
    record {
      names_few = omega arith;
      body_few = omega arith;
      body_before = multiple_after (body_end class sections);
      table_before = omega arith;
      image_low = fits.size_fits;
      word_low = small_word class;
      few = fits.few;
    }

-- ---- section headers

-- the names and the bytes of the sections from one on, by those of that one
pub names_more : (i : ℕ) (sections : List NamedBytes) (s : NamedBytes) → i < length sections → s ≡ get_or sections i s
    → length (names_joined (drop i sections)) ≡ length s.name + 1 + length (names_joined (drop (i + 1) sections))
names_more i sections s within is =
    let next : drop i sections ≡ s ∷ drop (i + 1) sections =
    drop_more sections i s within ∙ ap (λ (t : NamedBytes). t ∷ drop (i + 1) sections) (sym is) in
    let whole = length-append (spelled_name s.name) (names_joined (drop (i + 1) sections)) in
    let text = length-append s.name (0 ∷ []) in
    ap (λ (l : List NamedBytes). length (names_joined l)) next ∙ omega arith

pub bytes_more : (i : ℕ) (sections : List NamedBytes) (s : NamedBytes) → i < length sections → s ≡ get_or sections i s
    → length (bytes_joined (drop i sections)) ≡ length s.bytes + length (bytes_joined (drop (i + 1) sections))
bytes_more i sections s within is =
    let next : drop i sections ≡ s ∷ drop (i + 1) sections =
    drop_more sections i s within ∙ ap (λ (t : NamedBytes). t ∷ drop (i + 1) sections) (sym is) in
    ap (λ (l : List NamedBytes). length (bytes_joined l)) next
    ∙ length-append s.bytes (bytes_joined (drop (i + 1) sections))

-- that names and bytes fit, also those of the sections that are left
pub ruleset contents_fit = (is_bounded, names_more, bytes_more)

-- a section's header has room for it
pub fits_section : (class : Class) (section_type name offset size : ℕ) → section_type < 256 ^ 4 → name < 256 ^ 4
    → offset < 256 ^ word_size class → size < 256 ^ word_size class
    → FitsHeader class (plain_header section_type name offset size)
fits_section class section_type name offset size a b c d = record {
  name = b;
  section_type = a;
  flags = omega arith;
  address = omega arith;
  offset = c;
  size = d;
  link = omega arith;
  info = omega arith;
}

-- the body, part by part
pub body_written : (sections : List NamedBytes) (a b c d e : ImageBytes) → b ≡ append (bytes_joined sections) a
    → c ≡ append (0 ∷ []) b → d ≡ append (names_joined sections) c → e ≡ append (spelled_name names_name) d
    → e ≡ append (body sections) a
body_written sections a b c d e p q r s =
    s ∙ ap (append (spelled_name names_name)) (r ∙ ap (append (names_joined sections)) (q ∙ ap (append (0 ∷ [])) p))
    ∙ ap (λ (bs : List ℕ). record { bytes = bs; class = a.class; is_big = a.is_big }) (body_parts sections a.bytes)

-- ---- zero bytes

abbrev pub zeros : ℕ → List ℕ
zeros n = replicate n 0

pub take_replicate : (n m : ℕ) → n ≤ m → take n (zeros m) ≡ zeros n
take_replicate zero m few = refl
take_replicate (suc n) zero few = absurd (omega arith)
take_replicate (suc n) (suc m) few = ap (λ (l : List ℕ). 0 ∷ l) (take_replicate n m (omega arith))

-- ---- the whole

pub parts_joined : (h b p t : List ℕ) → [] ++ h ++ b ++ p ++ t ≡ h ++ (b ++ (p ++ t))
parts_joined h b p t = simp append_assoc
