-- How many bytes the parts of an image have.
use Rattle.std.proofs.Common.{◌≡◌, ℕ, ◌+◌, ◌-◌, ◌≤◌, Bool, List, [], ◌∷◌, ◌++◌, length, map, sum_by, refl, sym, ap, ◌∙◌, arith, append_assoc}
use Rattle.std.proofs.lemmas.List.{length-append, length-map, length-replicate}
use Rattle.std.proofs.lemmas.List.Sums.{sum_by-cons}
use Rattle.gimli_lines_write_bytes.specs.Fixed.{number_bytes}
use Rattle.gimli_lines_write_bytes.proofs.NumberRoundTrip.{length-spelled}
use Rattle.addr2line_elf.specs.declared.class.Class.{Class}
use Rattle.addr2line_elf.specs.declared.class.Class.TheVariants.{Elf32, Elf64}
use Rattle.linemap_elf.specs.SpelledImages.{SizedNumber, spelled_fields, file_header_size, spelled_identification, file_header_fields, NamedBytes, program_section, names_section, all_sections, body, body_end, next_multiple_of_8, table_offset, header_count, padding, spelled_file_header, spelled_table, spelled_image}

-- ---- headers

length-spelled_fields : (is_big : Bool) (fields : List SizedNumber)
    → length (spelled_fields is_big fields) ≡ sum_by (λ f. f.width) fields
length-spelled_fields is_big [] = refl
length-spelled_fields is_big (f ∷ fs) =
    length-append (number_bytes is_big f.width f.value) (spelled_fields is_big fs)
    ∙ ap (λ n. n + length (spelled_fields is_big fs)) (length-spelled is_big f.width f.value)
    ∙ ap (λ n. f.width + n) (length-spelled_fields is_big fs)
    ∙ sym (sum_by-cons (λ (g : SizedNumber). g.width) f fs)

file_header_widths : (class : Class) (offset count : ℕ)
    → 16 + sum_by (λ (f : SizedNumber). f.width) (file_header_fields class offset count) ≡ file_header_size class
file_header_widths Elf32 offset count = refl
file_header_widths Elf64 offset count = refl

pub length-file_header : (class : Class) (is_big : Bool) (sections : List NamedBytes)
    → length (spelled_file_header class is_big sections) ≡ file_header_size class
length-file_header class is_big sections =
    let fields = file_header_fields class (table_offset class sections) (header_count sections) in
    length-append (spelled_identification class is_big) (spelled_fields is_big fields)
    ∙ ap (λ n. 16 + n) (length-spelled_fields is_big fields)
    ∙ file_header_widths class (table_offset class sections) (header_count sections)

-- ---- sections

pub length-all_sections : (sections : List NamedBytes) → length (all_sections sections) ≡ length sections + 1
length-all_sections sections =
    length-append (map program_section sections) (names_section sections ∷ [])
    ∙ ap (λ n. n + 1) (length-map sections program_section)

-- ---- the parts

pub multiple_after : (n : ℕ) → n ≤ next_multiple_of_8 n
multiple_after n = omega arith

-- the bytes before the section headers
abbrev pub before_table : Class → Bool → List NamedBytes → List ℕ
before_table class is_big sections =
    spelled_file_header class is_big sections ++ (body sections ++ padding class sections)

pub length-before_table : (class : Class) (is_big : Bool) (sections : List NamedBytes)
    → length (before_table class is_big sections) ≡ table_offset class sections
length-before_table class is_big sections =
    let header = length-file_header class is_big sections in
    let whole = length-append (spelled_file_header class is_big sections) (body sections ++ padding class sections) in
    let rest = length-append (body sections) (padding class sections) in
    let zeros = length-replicate (table_offset class sections - body_end class sections) 0 in
    let high = multiple_after (body_end class sections) in
    sum _ _ _ _ _ _ _ header whole rest zeros high
  where
    sum : (h size b p e x t : ℕ) → h ≡ size → x ≡ h + e → e ≡ b + p → p ≡ t - (size + b) → size + b ≤ t → x ≡ t
    sum h size b p e x t i j k l m = omega arith

-- the file's header, the sections, and the section headers, in another grouping
pub table_last : (class : Class) (is_big : Bool) (sections : List NamedBytes)
    → spelled_image class is_big sections ≡ before_table class is_big sections ++ spelled_table class is_big sections
table_last class is_big sections =
    grouped (spelled_file_header class is_big sections) (body sections) (padding class sections)
    (spelled_table class is_big sections)
  where
    grouped : (h b p t : List ℕ) → h ++ (b ++ (p ++ t)) ≡ (h ++ (b ++ p)) ++ t
    grouped h b p t = simp append_assoc
