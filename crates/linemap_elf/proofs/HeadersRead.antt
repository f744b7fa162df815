-- The headers of an image are read again.
use Rattle.std.proofs.Common.{◌≡◌, ℕ, suc, ◌+◌, ◌-◌, ◌*◌, ◌<◌, ◌≤◌, ◌^◌, Bool, cond, List, [], ◌∷◌, ◌++◌, length, Result, Ok, Err, refl, sym, ap, subst, ◌∙◌, arith, append_assoc, append-nil}
use Rattle.std.specs.Prelude.{flat_map}
use Rattle.std.proofs.lemmas.Bool.{le-ltb}
use Rattle.std.proofs.lemmas.List.{length-append}
use Rattle.gimli_lines_write_bytes.specs.Error.{Error}
use Rattle.gimli_lines_write_bytes.specs.View.{View, after, unexpected_end}
use Rattle.gimli_lines_write_bytes.specs.Parsers.{Parser, skip}
use Rattle.gimli_lines_write_bytes.specs.Repetition.{times}
use Rattle.gimli_lines_write_bytes.specs.Fixed.{number_bytes}
use Rattle.gimli_lines_write_bytes.specs.BytesAt.{bytes_at}
use Rattle.gimli_lines_write_bytes.proofs.NumberRoundTrip.{length-spelled}
use Rattle.gimli_lines_write_bytes.proofs.PrefixReads.{after_is}
use Rattle.gimli_lines_write_bytes.proofs.FollowedReads.{Again, again_nothing, again_onward, again_then, again_fixed}
use Rattle.addr2line_elf.specs.declared.class.Class.{Class}
use Rattle.addr2line_elf.specs.declared.class.Class.TheVariants.{Elf32, Elf64}
use Rattle.addr2line_elf.specs.declared.headers.FileHeader.{FileHeader}
use Rattle.addr2line_elf.specs.declared.headers.SectionHeader.{SectionHeader}
use Rattle.addr2line_elf.specs.ElfClasses.{word_size, section_header_size}
use Rattle.addr2line_elf.specs.ElfHeaders.{file_header, section_header}
use Rattle.linemap_elf.specs.declared.constants.TheConstants.{EV_CURRENT, ET_EXEC, EM_NONE}
use Rattle.linemap_elf.specs.SpelledImages.{file_header_size, spelled_identification, spelled_fields, file_header_fields, spelled_section_header, FitsHeader, null_header}

-- ---- bytes that are skipped

pub again_skip : (is_big : Bool) (first k : ℕ) (xs : List ℕ) → length xs ≡ k → Again is_big first (skip k) tt xs
again_skip is_big first k xs len = record {
  again = λ rest.
      let v = bytes_at is_big first (xs ++ rest) in
      let enough : k ≤ length (xs ++ rest) = omega (arith, length-append xs rest) in
      ap (λ (b : Bool). cond {A = Result (Unit {0} × View) Error} b (Err (unexpected_end v)) (Ok (tt, after k v)))
      (le-ltb _ _ enough)
      ∙ ap (λ (w : View). Ok (tt, w)) (after_is v xs rest k refl len)
      ∙ ap (λ (n : ℕ). Ok (tt, bytes_at is_big (first + n) rest)) (sym len);
}

-- the same bytes, grouped in another way
pub again_regrouped : {A : Type 0} {is_big : Bool} {first : ℕ} {p : Parser A} {x : A} {xs ys : List ℕ} → xs ≡ ys
    → Again is_big first p x xs → Again is_big first p x ys
again_regrouped {is_big = is_big} {first = first} {p = p} {x = x} same h =
    subst (λ (zs : List ℕ). Again is_big first p x zs) same h

-- ---- the file's header

length-identification : (class : Class) (is_big : Bool) → length (spelled_identification class is_big) ≡ 16
length-identification class is_big = refl

regroup : (a b c d e f g h i j k l m n : List ℕ)
    → a ++ (b ++ ((c ++ d) ++ (e ++ (f ++ (g ++ ((h ++ (i ++ (j ++ k))) ++ (l ++ (m ++ n))))))))
    ≡ a ++ (b ++ (c ++ (d ++ (e ++ (f ++ (g ++ (h ++ (i ++ (j ++ (k ++ (l ++ (m ++ (n ++ [])))))))))))))
regroup a b c d e f g h i j k l m n = simp (append_assoc, append-nil)

abbrev pub file_header_of : Class → ℕ → ℕ → FileHeader
file_header_of class offset count = record {
  file_type = ET_EXEC;
  table_offset = offset;
  entry_size = section_header_size class;
  count = count;
  names = count - 1;
}

size_fits_half : (class : Class) → section_header_size class < 256 ^ 2
size_fits_half Elf32 = omega arith
size_fits_half Elf64 = omega arith

pub file_header_again : (class : Class) (is_big : Bool) (first offset count : ℕ) → offset < 256 ^ word_size class
    → count < 256 ^ 2
    → Again is_big first (file_header class) (file_header_of class offset count)
    (spelled_identification class is_big ++ spelled_fields is_big (file_header_fields class offset count))
unfolding file_header
file_header_again class is_big first offset count low few =
    let w = word_size class in
    let half = number_bytes is_big 2 in
    let word = number_bytes is_big 4 in
    let address = number_bytes is_big w in
    let six : length (half EM_NONE ++ word EV_CURRENT) ≡ 6 =
    omega (
      arith,
      length-append (half EM_NONE) (word EV_CURRENT),
      length-spelled is_big 2 EM_NONE,
      length-spelled is_big 4 EV_CURRENT,
    ) in
    let ten : length (word 0 ++ (half (file_header_size class) ++ (half 0 ++ half 0))) ≡ 10 =
    omega (
      arith,
      length-append (word 0) (half (file_header_size class) ++ (half 0 ++ half 0)),
      length-append (half (file_header_size class)) (half 0 ++ half 0),
      length-append (half 0) (half 0),
      length-spelled is_big 4 0,
      length-spelled is_big 2 (file_header_size class),
      length-spelled is_big 2 0,
    ) in
    again_regrouped
    (regroup (spelled_identification class is_big) (half ET_EXEC) (half EM_NONE) (word EV_CURRENT) (address 0)
    (address 0) (address offset) (word 0) (half (file_header_size class)) (half 0) (half 0)
    (half (section_header_size class)) (half count) (half (count - 1)))
    (again_onward _ {xs = spelled_identification class is_big}
    (again_skip is_big _ 16 (spelled_identification class is_big) (length-identification class is_big))
    (again_onward _ (again_fixed is_big _ 2 ET_EXEC (omega arith))
    (again_onward _ (again_skip is_big _ 6 _ six)
    (again_onward _ (again_skip is_big _ w _ (length-spelled is_big w 0))
    (again_onward _ (again_skip is_big _ w _ (length-spelled is_big w 0))
    (again_onward _ (again_fixed is_big _ w offset low)
    (again_onward _ (again_skip is_big _ 10 _ ten)
    (again_onward _ (again_fixed is_big _ 2 (section_header_size class) (size_fits_half class))
    (again_onward _ (again_fixed is_big _ 2 count few)
    (again_then _ (again_fixed is_big _ 2 (count - 1) (omega arith)) (λ v. refl)))))))))))

-- ---- section headers

regroup_fields : (a b c d e f g h i j : List ℕ)
    → a ++ (b ++ (c ++ (d ++ (e ++ (f ++ (g ++ (h ++ (i ++ j))))))))
    ≡ a ++ (b ++ (c ++ (d ++ (e ++ (f ++ (g ++ (h ++ (i ++ (j ++ [])))))))))
regroup_fields a b c d e f g h i j = simp append-nil

pub section_header_again : (class : Class) (is_big : Bool) (first alignment : ℕ) (h : SectionHeader)
    → FitsHeader class h
    → Again is_big first (section_header class) h (spelled_section_header class is_big alignment h)
unfolding section_header
section_header_again class is_big first alignment h fits =
    let w = word_size class in
    let word = number_bytes is_big 4 in
    let address = number_bytes is_big w in
    let rest : length (address alignment ++ address 0) ≡ 2 * w =
    omega (
      arith,
      length-append (address alignment) (address 0),
      length-spelled is_big w alignment,
      length-spelled is_big w 0,
    ) in
    again_regrouped
    (regroup_fields (word h.name) (word h.section_type) (address h.flags) (address h.address) (address h.offset)
    (address h.size) (word h.link) (word h.info) (address alignment) (address 0))
    (again_onward _ (again_fixed is_big _ 4 h.name fits.name)
    (again_onward _ (again_fixed is_big _ 4 h.section_type fits.section_type)
    (again_onward _ (again_fixed is_big _ w h.flags fits.flags)
    (again_onward _ (again_fixed is_big _ w h.address fits.address)
    (again_onward _ (again_fixed is_big _ w h.offset fits.offset)
    (again_onward _ (again_fixed is_big _ w h.size fits.size)
    (again_onward _ (again_fixed is_big _ 4 h.link fits.link)
    (again_onward _ (again_fixed is_big _ 4 h.info fits.info)
    (again_then _ (again_skip is_big _ (2 * w) _ rest) (λ v. refl))))))))))

-- ---- a table

unfoldable pub AllFitHeaders : Class → List SectionHeader → Type 0
AllFitHeaders class [] = Unit {0}
AllFitHeaders class (h ∷ hs) = FitsHeader class h × AllFitHeaders class hs

pub headers_again : (class : Class) (is_big : Bool) (hs : List SectionHeader) (first : ℕ) → AllFitHeaders class hs
    → Again is_big first (times (length hs) (section_header class)) hs
    (flat_map (spelled_section_header class is_big 1) hs)
unfolding times AllFitHeaders
headers_again class is_big [] first fit = again_nothing is_big first []
headers_again class is_big (h ∷ hs) first fit =
    again_onward _ (section_header_again class is_big first 1 h fit.0)
    (again_then _ (headers_again class is_big hs _ fit.1) (λ v. refl))

-- and before it the header of no section
pub table_again : (class : Class) (is_big : Bool) (first : ℕ) (hs : List SectionHeader) → FitsHeader class null_header
    → AllFitHeaders class hs
    → Again is_big first (times (suc (length hs)) (section_header class)) (null_header ∷ hs)
    (spelled_section_header class is_big 0 null_header ++ flat_map (spelled_section_header class is_big 1) hs)
unfolding times
table_again class is_big first hs none fit =
    again_onward _ (section_header_again class is_big first 0 null_header none)
    (again_then _ (headers_again class is_big hs _ fit) (λ v. refl))
