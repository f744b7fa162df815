-- Section headers that are written are read again.
use Rattle.std.proofs.Common.{◌≡◌, ℕ, zero, suc, ◌+◌, ◌*◌, ◌<◌, ◌^◌, Bool, List, [], ◌∷◌, ◌++◌, length, take, drop, Option, Some, None, refl, sym, ap, subst, ◌∙◌, arith, length-drop}
use Rattle.std.specs.Prelude.{sum_by, bit_xor}
use Rattle.std.proofs.lemmas.List.{length-append, length-take, get_or-drop}
use Rattle.std.proofs.lemmas.List.Sums.{sum_by-cons}
use Rattle.std.proofs.lemmas.Nat.{xor_lt}
use Rattle.gimli_core_readers.specs.Repetition.{times}
use Rattle.gimli_core_readers.specs.Fixed.{number_bytes, number}
use Rattle.gimli_lines_write_bytes.proofs.NumberRoundTrip.{length-spelled}
use Rattle.gimli_lines_write_bytes.proofs.FollowedReads.{Again, again_nothing, again_onward, again_then}
use Rattle.addr2line_elf.specs.declared.class.Class.{Class}
use Rattle.addr2line_elf.specs.declared.class.Class.TheVariants.{Elf32, Elf64}
use Rattle.addr2line_elf.specs.declared.headers.SectionHeader.{SectionHeader}
use Rattle.addr2line_elf.specs.ElfClasses.{word_size, section_header_size}
use Rattle.addr2line_elf.specs.ElfHeaders.{section_header}
use Rattle.addr2line_decompress.specs.declared.sections.DebugSections.{DebugSections}
use Rattle.addr2line_decompress.specs.Compression.{size_of, Change}
use Rattle.addr2line_decompress.specs.ImageTables.{ImageTable, file_bytes}
use Rattle.addr2line_decompress.specs.CompressedSections.{new_name_of, ended, added_names, Section, entry_of}
use Rattle.addr2line_decompress.specs.DecompressedBytes.{new_size, changed_header, headers_after, changed_entry, table_bytes, size_limit}
use Rattle.addr2line_decompress.proofs.EntryChanges.{entry_again, with_changes, FitsFields, changed_again, AreBytes, number_below}
use Rattle.addr2line_decompress.proofs.SectionsAfter.{SectionsOf, end, stay, change, section_with, next_name, entry_is, Changes, flagged, renamed, named}
use Rattle.addr2line_decompress.proofs.NewNames.{Placed, place_next, place_new}

-- ---- bytes of parts

bytes_take : (n : ℕ) (xs : List ℕ) → AreBytes xs → AreBytes (take n xs)
bytes_take zero xs h k = omega arith
bytes_take (suc n) [] h k = omega arith
bytes_take (suc n) (x ∷ xs) h zero = h 0
bytes_take (suc n) (x ∷ xs) h (suc k) = bytes_take n xs (λ j. h (suc j)) k

bytes_drop : (n : ℕ) (xs : List ℕ) → AreBytes xs → AreBytes (drop n xs)
bytes_drop n xs h k = rw get_or-drop (h (n + k))

seven_sizes : (a b c d f g h : List ℕ) → length ((a ++ b) ++ (c ++ (d ++ (f ++ (g ++ h)))))
    ≡ length a + length b + (length c + (length d + (length f + (length g + length h))))
seven_sizes a b c d f g h = simp length-append

-- ---- fields have room

flags_below : (class : Class) (flags n : ℕ) → flags < 256 ^ n → n ≡ word_size class
    → bit_xor flags 0x800 < 256 ^ word_size class
flags_below Elf32 flags n low is =
    let small : flags < 2 ^ 32 = subst (λ (k : ℕ). flags < 256 ^ k) is low in xor_lt 32 flags 0x800 small (omega arith)
flags_below Elf64 flags n low is =
    let small : flags < 2 ^ 64 = subst (λ (k : ℕ). flags < 256 ^ k) is low in xor_lt 64 flags 0x800 small (omega arith)

limit_below : (class : Class) (n : ℕ) → n < size_limit class → n < 256 ^ word_size class
limit_below Elf32 n low = omega arith
limit_below Elf64 n low = omega arith

flags_size : (class : Class) (e : List ℕ) → length e ≡ section_header_size class
    → length (take (word_size class) (drop 8 e)) ≡ word_size class
flags_size Elf32 e size = omega (arith, length-take 4 (drop 8 e), length-drop 8 e)
flags_size Elf64 e size = omega (arith, length-take 8 (drop 8 e), length-drop 8 e)

name_size : (class : Class) (e : List ℕ) → length e ≡ section_header_size class → length (take 4 e) ≡ 4
name_size Elf32 e size = omega (arith, length-take 4 e)
name_size Elf64 e size = omega (arith, length-take 4 e)

-- ---- a header that is changed

-- the name and the flags of a header that is read
record LowFields (class : Class) (h : SectionHeader) : Type 0 where
  pub name : h.name < 256 ^ 4
  pub flags : h.flags < 256 ^ word_size class
  pub cleared : bit_xor h.flags 0x800 < 256 ^ word_size class

-- the same of a change
record LowChange (class : Class) (c : Change) : Type 0 where
  pub name : c.name < 256 ^ 4
  pub flags : c.flags < 256 ^ word_size class

low_change : (which : DebugSections) (table : ImageTable) (names : Option (List ℕ)) (i at : ℕ) (h : SectionHeader)
    (c : Change) (all rest : List ℕ) → LowFields table.image.class h → Changes which table names i at h c
    → Placed all at (ended (new_name_of which table.image i h) ++ rest) → LowChange table.image.class c
low_change which table names i at h c all rest low (flagged x b none) p =
    record { name = low.name; flags = low.cleared }
low_change which table names i at h c all rest low (renamed x n new) p =
    record { name = (place_new which table.image i h all at n rest new p).low; flags = low.flags }
low_change which table names i at h c all rest low (named n some b other none) p =
    record { name = low.name; flags = low.flags }

module _ (table : ImageTable) (are_bytes : AreBytes (file_bytes table)) where
  abbrev class : Class
  class = table.image.class

  abbrev is_big : Bool
  is_big = table.image.file.is_big

  low_fields : (i : ℕ) (h : SectionHeader) → entry_is table i h → LowFields class h
  low_fields i h e =
      let entry = entry_of table i in
      let bytes : AreBytes entry = bytes_take _ _ (bytes_drop _ (file_bytes table) are_bytes) in
      let four = take 4 entry in
      let field = take (word_size class) (drop 8 entry) in
      let name_below = number_below is_big four (bytes_take 4 entry bytes) in
      let below = number_below is_big field (bytes_take (word_size class) (drop 8 entry) (bytes_drop 8 entry bytes)) in
      let name_is : h.name ≡ number is_big four = ap (λ (g : SectionHeader). g.name) e.header in
      let flags_are : h.flags ≡ number is_big field = ap (λ (g : SectionHeader). g.flags) e.header in
      let low_flags : h.flags < 256 ^ length field =
      subst (λ (n : ℕ). n < 256 ^ length field) (sym flags_are) below in
      record {
        name = subst (λ (n : ℕ). h.name < 256 ^ n) (name_size class entry e.size)
            (subst (λ (n : ℕ). n < 256 ^ length four) (sym name_is) name_below);
        flags = subst (λ (n : ℕ). h.flags < 256 ^ n) (flags_size class entry e.size) low_flags;
        cleared = flags_below class h.flags (length field) low_flags (flags_size class entry e.size);
      }

  changed_fits : (h : SectionHeader) (c : Change) (offset : ℕ) → LowChange class c
      → offset + size_of c.content < size_limit class → FitsFields class (changed_header h offset (Some c))
  changed_fits h c offset low room =
      let at : offset < size_limit class = omega arith in
      let small : size_of c.content < size_limit class = omega arith in
      record {
        name = low.name;
        flags = low.flags;
        offset = limit_below class offset at;
        size = limit_below class (size_of c.content) small;
      }

  pub stays_again : (i : ℕ) (h : SectionHeader) (first : ℕ) → entry_is table i h
      → Again is_big first (section_header class) h (entry_of table i)
  stays_again i h first e =
      subst (λ (g : SectionHeader). Again is_big first (section_header class) g (entry_of table i)) (sym e.header)
      (entry_again class is_big first (entry_of table i) e.size)

  changes_again : (i : ℕ) (h : SectionHeader) (c : Change) (offset first : ℕ) → entry_is table i h → LowChange class c
      → offset + size_of c.content < size_limit class
      → Again is_big first (section_header class) (changed_header h offset (Some c))
      (changed_entry class is_big (changed_header h offset (Some c)) (entry_of table i))
  changes_again i h c offset first e low room =
      let k = changed_header h offset (Some c) in
      subst (λ (g : SectionHeader). Again is_big first (section_header class) g
      (changed_entry class is_big k (entry_of table i)))
      (ap (λ (g : SectionHeader). with_changes g k) (sym e.header))
      (changed_again class is_big first (entry_of table i) k e.size (changed_fits h c offset low room))

  abbrev sizes : List Section → ℕ
  sizes ss = sum_by (λ s. new_size s.change) ss

  sizes_cons : (s : Section) (ss : List Section) → sizes (s ∷ ss) ≡ new_size s.change + sizes ss
  sizes_cons s ss = sum_by-cons (λ t. new_size t.change) s ss

  pub table_again : (which : DebugSections) (names : Option (List ℕ)) (all : List ℕ) (i at : ℕ)
      (hs : List SectionHeader)
      (ss : List Section) (ts : List (Option (List ℕ))) (offset first : ℕ) → SectionsOf which table names i at hs ss ts
      → Placed all at (added_names which table.image i hs) → offset + sizes ss < size_limit class
      → Again is_big first (times (length hs) (section_header class)) (headers_after offset ss)
      (table_bytes class is_big offset ss)
  unfolding times
  table_again which names all i at hs ss ts offset first (end _ _) p room = again_nothing is_big first []
  table_again which names all i at hs ss ts offset first (stay _ _ h hs' ss' ts' e s rest) p room =
      let more : (offset + 0) + sizes ss' < size_limit class = omega
      (arith, sizes_cons (section_with table i h None) ss') in
      let q = place_next all at (ended (new_name_of which table.image i h))
      (added_names which table.image (i + 1) hs') p in
      again_onward _ (stays_again i h first e)
      (again_then _ (table_again which names all (i + 1) (next_name which table i at h) hs' ss' ts'
      (offset + 0) _ rest q more)
      (λ v. refl))
  table_again which names all i at hs ss ts offset first (change _ _ h hs' ss' ts' c t e ch text rest) p room =
      let size = size_of c.content in
      let cons = sizes_cons (section_with table i h (Some c)) ss' in
      let one : offset + size < size_limit class = omega (arith, cons) in
      let more : (offset + size) + sizes ss' < size_limit class = omega (arith, cons) in
      let low = low_change which table names i at h c all (added_names which table.image (i + 1) hs')
      (low_fields i h e) ch p in
      let q = place_next all at (ended (new_name_of which table.image i h))
      (added_names which table.image (i + 1) hs') p in
      again_onward _ (changes_again i h c offset first e low one)
      (again_then _ (table_again which names all (i + 1) (next_name which table i at h) hs' ss' ts'
      (offset + size) _ rest q more)
      (λ v. refl))

  -- ---- how many bytes they have

  changed_size : (class : Class) (b : Bool) (h : SectionHeader) (e : List ℕ) → length e ≡ section_header_size class
      → length (changed_entry class b h e) ≡ section_header_size class
  changed_size Elf32 b h e size =
      seven_sizes (number_bytes b 4 h.name) (take 4 (drop 4 e)) (number_bytes b 4 h.flags) (take 4 (drop 12 e))
      (number_bytes b 4 h.offset) (number_bytes b 4 h.size) (drop 24 e)
      ∙ omega (
        arith,
        length-take 4 (drop 4 e),
        length-drop 4 e,
        length-take 4 (drop 12 e),
        length-drop 12 e,
        length-drop 24 e,
        length-spelled b 4 h.name,
        length-spelled b 4 h.flags,
        length-spelled b 4 h.offset,
        length-spelled b 4 h.size,
      )
  changed_size Elf64 b h e size =
      seven_sizes (number_bytes b 4 h.name) (take 4 (drop 4 e)) (number_bytes b 8 h.flags) (take 8 (drop 16 e))
      (number_bytes b 8 h.offset) (number_bytes b 8 h.size) (drop 40 e)
      ∙ omega (
        arith,
        length-take 4 (drop 4 e),
        length-drop 4 e,
        length-take 8 (drop 16 e),
        length-drop 16 e,
        length-drop 40 e,
        length-spelled b 4 h.name,
        length-spelled b 8 h.flags,
        length-spelled b 8 h.offset,
        length-spelled b 8 h.size,
      )

  size_sums : (class : Class) (a b n : ℕ) → a ≡ section_header_size class → b ≡ n * section_header_size class
      → a + b ≡ suc n * section_header_size class
  size_sums Elf32 a b n p q = omega arith
  size_sums Elf64 a b n p q = omega arith

  pub table_size : (which : DebugSections) (names : Option (List ℕ)) (i at : ℕ) (hs : List SectionHeader)
      (ss : List Section) (ts : List (Option (List ℕ))) (offset : ℕ) → SectionsOf which table names i at hs ss ts
      → length (table_bytes class is_big offset ss) ≡ length hs * section_header_size class
  table_size which names i at hs ss ts offset (end _ _) = omega arith
  table_size which names i at hs ss ts offset (stay _ _ h hs' ss' ts' e s rest) =
      length-append (entry_of table i) (table_bytes class is_big (offset + 0) ss')
      ∙ size_sums class _ _ (length hs') e.size
      (table_size which names (i + 1) (next_name which table i at h) hs' ss' ts' (offset + 0) rest)
  table_size which names i at hs ss ts offset (change _ _ h hs' ss' ts' c t e ch text rest) =
      let k = changed_header h offset (Some c) in
      let entry = changed_entry class is_big k (entry_of table i) in
      length-append entry (table_bytes class is_big (offset + size_of c.content) ss')
      ∙ size_sums class _ _ (length hs') (changed_size class is_big k (entry_of table i) e.size)
      (table_size which names (i + 1) (next_name which table i at h) hs' ss' ts' (offset + size_of c.content) rest)
