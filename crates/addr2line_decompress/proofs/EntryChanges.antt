-- The bytes of a section header read as one, as they are and with another name, other flags, offset and size.
use Rattle.std.proofs.Common.{◌≡◌, ℕ, zero, suc, ◌+◌, ◌*◌, ◌<◌, ◌≤◌, ◌^◌, Bool, true, false, List, [], ◌∷◌, ◌++◌, length, take, drop, get_or, refl, sym, ap, ◌∙◌, arith, append_assoc, length-drop}
use Rattle.std.proofs.Math.Nat.{pow-succ', mul-le-mul_right}
use Rattle.std.proofs.lemmas.List.{length-take, take-append-drop, drop-drop}
use Rattle.gimli_core_readers.specs.Fixed.{number, number_bytes, little, big}
use Rattle.gimli_core_readers.specs.NumberParsers.{fixed}
use Rattle.gimli_lines_write_bytes.proofs.FollowedReads.{Again, again_onward, again_then, again_fixed}
use Rattle.addr2line_elf.specs.declared.class.Class.{Class}
use Rattle.addr2line_elf.specs.declared.class.Class.TheVariants.{Elf32, Elf64}
use Rattle.addr2line_elf.specs.declared.headers.SectionHeader.{SectionHeader}
use Rattle.addr2line_elf.specs.ElfClasses.{word_size, section_header_size}
use Rattle.addr2line_elf.specs.ElfHeaders.{section_header}
use Rattle.addr2line_decompress.specs.DecompressedBytes.{changed_entry}
use Rattle.addr2line_decompress.proofs.EntryReads.{again_skip, again_number, again_regrouped}

-- ---- a header from the bytes of its fields

-- wherever it begins, a number of n bytes is read from these
abbrev Field : Bool → ℕ → ℕ → List ℕ → Type 0
Field is_big n x xs = (first : ℕ) → Again is_big first (fixed n) x xs

fields_again : (class : Class) (is_big : Bool) (first : ℕ) (a b c d f g i j k : List ℕ) (h : SectionHeader)
    → Field is_big 4 h.name a → Field is_big 4 h.section_type b → Field is_big (word_size class) h.flags c
    → Field is_big (word_size class) h.address d → Field is_big (word_size class) h.offset f
    → Field is_big (word_size class) h.size g → Field is_big 4 h.link i → Field is_big 4 h.info j
    → length k ≡ 2 * word_size class
    → Again is_big first (section_header class) h (a ++ (b ++ (c ++ (d ++ (f ++ (g ++ (i ++ (j ++ k))))))))
unfolding section_header
fields_again class is_big first a b c d f g i j k h ha hb hc hd hf hg hi hj len =
    again_onward _ (ha _) (again_onward _ (hb _) (again_onward _ (hc _) (again_onward _ (hd _)
    (again_onward _ (hf _) (again_onward _ (hg _) (again_onward _ (hi _) (again_onward _ (hj _)
    (again_then _ (again_skip is_big _ (2 * word_size class) k len) (λ v. refl)))))))))

-- ---- the parts of an entry

more_part : (m n : ℕ) (e rest : List ℕ) → drop (m + n) e ≡ rest → drop m e ≡ take n (drop m e) ++ rest
more_part m n e rest is =
    sym (take-append-drop n (drop m e)) ∙ ap (λ (ys : List ℕ). take n (drop m e) ++ ys) (drop-drop n m e ∙ is)

-- the header of the numbers in an entry
abbrev pub header_of : Class → Bool → List ℕ → SectionHeader
header_of class is_big e =
    let w = word_size class in
    record {
      name = number is_big (take 4 e);
      section_type = number is_big (take 4 (drop 4 e));
      flags = number is_big (take w (drop 8 e));
      address = number is_big (take w (drop (8 + w) e));
      offset = number is_big (take w (drop (8 + 2 * w) e));
      size = number is_big (take w (drop (8 + 3 * w) e));
      link = number is_big (take 4 (drop (8 + 4 * w) e));
      info = number is_big (take 4 (drop (12 + 4 * w) e));
    }

number_field : (is_big : Bool) (m n : ℕ) (e : List ℕ) → m + n ≤ length e
    → Field is_big n (number is_big (take n (drop m e))) (take n (drop m e))
number_field is_big m n e within first =
    again_number is_big first n (take n (drop m e))
    (omega (arith, length-take n (drop m e), length-drop m e))

first_field : (is_big : Bool) (n : ℕ) (e : List ℕ) → n ≤ length e → Field is_big n (number is_big (take n e)) (take n e)
first_field is_big n e within first = again_number is_big first n (take n e) (omega (arith, length-take n e))

spelled_field : (is_big : Bool) (n x : ℕ) → x < 256 ^ n → Field is_big n x (number_bytes is_big n x)
spelled_field is_big n x low first = again_fixed is_big first n x low

whole_32 : (e : List ℕ) → e ≡ take 4 e ++ (take 4 (drop 4 e) ++ (take 4 (drop 8 e) ++ (take 4 (drop 12 e)
    ++ (take 4 (drop 16 e) ++ (take 4 (drop 20 e) ++ (take 4 (drop 24 e) ++ (take 4 (drop 28 e) ++ drop 32 e)))))))
whole_32 e =
    sym (take-append-drop 4 e) ∙ ap (λ (ys : List ℕ). take 4 e ++ ys)
    (more_part 4 4 e _ (more_part 8 4 e _ (more_part 12 4 e _ (more_part 16 4 e _ (more_part 20 4 e _
    (more_part 24 4 e _ (more_part 28 4 e _ refl)))))))

whole_64 : (e : List ℕ) → e ≡ take 4 e ++ (take 4 (drop 4 e) ++ (take 8 (drop 8 e) ++ (take 8 (drop 16 e)
    ++ (take 8 (drop 24 e) ++ (take 8 (drop 32 e) ++ (take 4 (drop 40 e) ++ (take 4 (drop 44 e) ++ drop 48 e)))))))
whole_64 e =
    sym (take-append-drop 4 e) ∙ ap (λ (ys : List ℕ). take 4 e ++ ys)
    (more_part 4 4 e _ (more_part 8 8 e _ (more_part 16 8 e _ (more_part 24 8 e _ (more_part 32 8 e _
    (more_part 40 4 e _ (more_part 44 4 e _ refl)))))))

pub entry_again : (class : Class) (is_big : Bool) (first : ℕ) (e : List ℕ) → length e ≡ section_header_size class
    → Again is_big first (section_header class) (header_of class is_big e) e
entry_again Elf32 is_big first e len =
    again_regrouped (sym (whole_32 e))
    (fields_again Elf32 is_big first _ _ _ _ _ _ _ _ _ (header_of Elf32 is_big e)
    (first_field is_big 4 e (omega arith)) (number_field is_big 4 4 e (omega arith))
    (number_field is_big 8 4 e (omega arith)) (number_field is_big 12 4 e (omega arith))
    (number_field is_big 16 4 e (omega arith)) (number_field is_big 20 4 e (omega arith))
    (number_field is_big 24 4 e (omega arith)) (number_field is_big 28 4 e (omega arith))
    (omega (arith, length-drop 32 e)))
entry_again Elf64 is_big first e len =
    again_regrouped (sym (whole_64 e))
    (fields_again Elf64 is_big first _ _ _ _ _ _ _ _ _ (header_of Elf64 is_big e)
    (first_field is_big 4 e (omega arith)) (number_field is_big 4 4 e (omega arith))
    (number_field is_big 8 8 e (omega arith)) (number_field is_big 16 8 e (omega arith))
    (number_field is_big 24 8 e (omega arith)) (number_field is_big 32 8 e (omega arith))
    (number_field is_big 40 4 e (omega arith)) (number_field is_big 44 4 e (omega arith))
    (omega (arith, length-drop 48 e)))

-- the same with another name, other flags, another offset and another size
abbrev pub with_changes : SectionHeader → SectionHeader → SectionHeader
with_changes h k = record h { name = k.name; flags = k.flags; offset = k.offset; size = k.size }

-- the numbers have room
pub record FitsFields (class : Class) (h : SectionHeader) : Type 0 where
  pub name : h.name < 256 ^ 4
  pub flags : h.flags < 256 ^ word_size class
  pub offset : h.offset < 256 ^ word_size class
  pub size : h.size < 256 ^ word_size class

regroup_changed : (a b c d f g r s : List ℕ) → r ≡ s
    → (a ++ b) ++ (c ++ (d ++ (f ++ (g ++ r)))) ≡ a ++ (b ++ (c ++ (d ++ (f ++ (g ++ s)))))
regroup_changed a b c d f g r s same =
    append_assoc a b (c ++ (d ++ (f ++ (g ++ r))))
    ∙ ap (λ (zs : List ℕ). a ++ (b ++ (c ++ (d ++ (f ++ (g ++ zs)))))) same

pub changed_again : (class : Class) (is_big : Bool) (first : ℕ) (e : List ℕ) (k : SectionHeader)
    → length e ≡ section_header_size class → FitsFields class k
    → Again is_big first (section_header class) (with_changes (header_of class is_big e) k)
    (changed_entry class is_big k e)
changed_again Elf32 is_big first e k len fits =
    again_regrouped
    (sym (regroup_changed (number_bytes is_big 4 k.name) (take 4 (drop 4 e)) (number_bytes is_big 4 k.flags)
    (take 4 (drop 12 e)) (number_bytes is_big 4 k.offset) (number_bytes is_big 4 k.size) (drop 24 e) _
    (more_part 24 4 e _ (more_part 28 4 e _ refl))))
    (fields_again Elf32 is_big first _ _ _ _ _ _ _ _ _ (with_changes (header_of Elf32 is_big e) k)
    (spelled_field is_big 4 k.name fits.name) (number_field is_big 4 4 e (omega arith))
    (spelled_field is_big 4 k.flags fits.flags) (number_field is_big 12 4 e (omega arith))
    (spelled_field is_big 4 k.offset fits.offset) (spelled_field is_big 4 k.size fits.size)
    (number_field is_big 24 4 e (omega arith)) (number_field is_big 28 4 e (omega arith))
    (omega (arith, length-drop 32 e)))
changed_again Elf64 is_big first e k len fits =
    again_regrouped
    (sym (regroup_changed (number_bytes is_big 4 k.name) (take 4 (drop 4 e)) (number_bytes is_big 8 k.flags)
    (take 8 (drop 16 e)) (number_bytes is_big 8 k.offset) (number_bytes is_big 8 k.size) (drop 40 e) _
    (more_part 40 4 e _ (more_part 44 4 e _ refl))))
    (fields_again Elf64 is_big first _ _ _ _ _ _ _ _ _ (with_changes (header_of Elf64 is_big e) k)
    (spelled_field is_big 4 k.name fits.name) (number_field is_big 4 4 e (omega arith))
    (spelled_field is_big 8 k.flags fits.flags) (number_field is_big 16 8 e (omega arith))
    (spelled_field is_big 8 k.offset fits.offset) (spelled_field is_big 8 k.size fits.size)
    (number_field is_big 40 4 e (omega arith)) (number_field is_big 44 4 e (omega arith))
    (omega (arith, length-drop 48 e)))

-- ---- a number of bytes is below a power of 256

-- all numbers of a list are those of bytes
abbrev pub AreBytes : List ℕ → Type 0
AreBytes xs = (k : ℕ) → get_or xs k 0 < 256

tail_bytes : (b : ℕ) (bs : List ℕ) → AreBytes (b ∷ bs) → AreBytes bs
tail_bytes b bs h = λ k. h (suc k)

pow_pos : (n : ℕ) → 0 < 256 ^ n
pow_pos zero = omega arith
pow_pos (suc n) = omega (arith, pow-succ' 256 n, pow_pos n)

little_below : (bs : List ℕ) → AreBytes bs → little bs < 256 ^ length bs
little_below [] h = omega arith
little_below (b ∷ bs) h =
    let head : b < 256 = h 0 in
    omega (arith, pow-succ' 256 (length bs), little_below bs (tail_bytes b bs h))

big_below : (bs : List ℕ) → AreBytes bs → big bs < 256 ^ length bs
big_below [] h = omega arith
big_below (b ∷ bs) h =
    let head : b < 256 = h 0 in
    below b (256 ^ length bs) (big bs) (256 ^ suc (length bs)) head (big_below bs (tail_bytes b bs h))
    (pow-succ' 256 (length bs))
  where
    below : (b p x q : ℕ) → b < 256 → x < p → q ≡ 256 * p → b * p + x < q
    below b p x q hb hx is =
        let most : b ≤ 255 = omega arith in
        let times : b * p ≤ 255 * p = mul-le-mul_right p most in
        omega arith

pub number_below : (is_big : Bool) (bs : List ℕ) → AreBytes bs → number is_big bs < 256 ^ length bs
number_below true bs h = big_below bs h
number_below false bs h = little_below bs h
