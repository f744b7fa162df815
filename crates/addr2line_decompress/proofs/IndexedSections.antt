-- The section of an index, before and after decompression.
use Rattle.std.proofs.Common.{◌≡◌, ℕ, zero, suc, ◌+◌, ◌*◌, ◌<◌, ◌^◌, ◌%◌, ◌&&◌, ◌||◌, not, Bool, true, false, cond, eqb, List, [], ◌∷◌, ◌++◌, length, map, drop, Option, Some, None, Ok, refl, sym, ap, subst, ◌∙◌, arith, append_assoc}
use Rattle.std.specs.Prelude.{flat_map, bit_and, bit_xor}
use Rattle.std.specs.List.{slice_get, find, list_any}
use Rattle.std.specs.Int.{bit_at}
use Rattle.std.proofs.lemmas.Bool.{and_parts, or_parts, eq-eqb, eqb-true}
use Rattle.std.proofs.lemmas.Nat.Bits.{and_pow, bit_at_xor, bit_at-pow_same, bit_at-lt}
use Rattle.std.proofs.lemmas.List.{length-append}
use Rattle.addr2line_elf.specs.declared.headers.SectionHeader.{SectionHeader}
use Rattle.addr2line_elf.specs.ElfTexts.{text_at}
use Rattle.addr2line_elf.specs.ElfImages.{Image, name_of, changes}
use Rattle.addr2line_decompress.specs.declared.sections.DebugSections.{DebugSections}
use Rattle.addr2line_decompress.specs.Compression.{size_of, Change}
use Rattle.addr2line_decompress.specs.ImageTables.{ImageTable}
use Rattle.addr2line_decompress.specs.CompressedSections.{has_other_type, is_flagged, new_name_of, name_or, name_after, ended, added_names, holds, refuse_staying, Section}
use Rattle.addr2line_decompress.specs.DecompressedBytes.{changed_header, headers_after, text_bytes}
use Rattle.addr2line_decompress.specs.Decompression.{names_after}
use Rattle.addr2line_decompress.proofs.NewNames.{not_true, named as name_facts, Placed, place_next, place_new}
use Rattle.addr2line_decompress.proofs.SectionsAfter.{SectionsOf, end, stay, change, next_name, Stays, Changes, flagged, renamed, named, HasText}

-- ---- the type of a section that changes

pub record HasPlainType (h : SectionHeader) : Type 0 where
  pub no_nobits : eqb h.section_type 8 ≡ false
  pub no_symtab : eqb h.section_type 2 ≡ false
  pub no_dynsym : eqb h.section_type 11 ≡ false
  pub no_rela : eqb h.section_type 4 ≡ false
  pub no_rel : eqb h.section_type 9 ≡ false

plain_type : (h : SectionHeader) → has_other_type h ≡ false → HasPlainType h
plain_type h is =
    let t = h.section_type in
    let d = or_parts (eqb t 8 || eqb t 2 || eqb t 11 || eqb t 4) (eqb t 9) is in
    let e = or_parts (eqb t 8 || eqb t 2 || eqb t 11) (eqb t 4) d.0 in
    let f = or_parts (eqb t 8 || eqb t 2) (eqb t 11) e.0 in
    let g = or_parts (eqb t 8) (eqb t 2) f.0 in
    record { no_nobits = g.0; no_symtab = g.1; no_dynsym = f.1; no_rela = e.1; no_rel = d.1 }

-- a flag that is cleared
flag_cleared : (f : ℕ) → eqb (bit_and f 0x800) 0 ≡ false → bit_and (bit_xor f 0x800) 0x800 ≡ 0
flag_cleared f set =
    let some : bit_and f 0x800 ≡ 0 → ⊥ = λ e. let t = eq-eqb (bit_and f 0x800) 0 e in absurd cc in
    let old : bit_and f 0x800 ≡ bit_at f 11 * 0x800 = and_pow f 11 in
    let new : bit_and (bit_xor f 0x800) 0x800 ≡ bit_at (bit_xor f 0x800) 11 * 0x800 = and_pow (bit_xor f 0x800) 11 in
    let one : bit_at 0x800 11 ≡ 1 = bit_at-pow_same 11 in
    sums (bit_and f 0x800) (bit_and (bit_xor f 0x800) 0x800) (bit_at f 11) (bit_at (bit_xor f 0x800) 11)
    (bit_at 0x800 11)
    some old new (bit_at_xor f 0x800 11) one (bit_at-lt f 11)
  where
    sums : (a x b c d : ℕ) → (a ≡ 0 → ⊥) → a ≡ b * 0x800 → x ≡ c * 0x800 → c ≡ (b + d) % 2 → d ≡ 1 → b < 2 → x ≡ 0
    sums a x b c d h i j k l m = omega arith

pub record IsChanged (i : ℕ) (h : SectionHeader) (c : Change) : Type 0 where
  pub later : eqb i 0 ≡ false
  pub unflagged : bit_and c.flags 0x800 ≡ 0
  pub plain : HasPlainType h

not_false : (b : Bool) → not b ≡ false → b ≡ true
not_false true is = refl
not_false false is = absurd cc

pub changed_is : (which : DebugSections) (table : ImageTable) (names : Option (List ℕ)) (i at : ℕ) (h : SectionHeader)
    (c : Change) → Changes which table names i at h c → IsChanged i h c
changed_is which table names i at h c (flagged x is none) =
    let a = and_parts (not (eqb i 0) && not (eqb (bit_and h.flags 0x800) 0) && not (has_other_type h)) _ is in
    let b = and_parts (not (eqb i 0) && not (eqb (bit_and h.flags 0x800) 0)) (not (has_other_type h)) a.0 in
    let d = and_parts (not (eqb i 0)) (not (eqb (bit_and h.flags 0x800) 0)) b.0 in
    record {
      later = not_true _ d.0;
      unflagged = flag_cleared h.flags (not_true _ d.1);
      plain = plain_type h (not_true _ b.1);
    }
changed_is which table names i at h c (renamed x n new) =
    let f = name_facts which table.image i h n new in
    record { later = f.later; unflagged = eqb-true (bit_and h.flags 0x800) 0 f.unflagged; plain = plain_type h f.plain }
changed_is which table names i at h c (named n some is other none) =
    let o = or_parts (has_other_type h) (not (eqb (bit_and h.flags 0x800) 0)) other in
    let holds_it : holds table.names_index i (Some n) ≡ true = ap (holds table.names_index i) (sym some) ∙ is in
    let p = and_parts (not (eqb i 0)) (eqb i table.names_index) holds_it in
    record {
      later = not_true _ p.0;
      unflagged = eqb-true (bit_and h.flags 0x800) 0 (not_false _ o.1);
      plain = plain_type h o.0;
    }

-- ---- the section of an index

-- where a text is: after other bytes, and before others
pub record IsIn (file : List ℕ) (offset : ℕ) (text : List ℕ) : Type 0 where
  pub before : List ℕ
  pub after : List ℕ
  pub whole : file ≡ before ++ (text ++ after)
  pub place : length before ≡ offset

pub data AtIndex (which : DebugSections) (table : ImageTable) (names : Option (List ℕ)) (file : List ℕ) (i : ℕ)
    : Option SectionHeader → Option SectionHeader → Option (Option (List ℕ)) → Type 0 where
  missing : AtIndex which table names file i None None None
  stays : (h : SectionHeader) → Stays which table names i h
      → AtIndex which table names file i (Some h) (Some h) (Some None)
  changed : (at : ℕ) (h : SectionHeader) (c : Change) (t : List ℕ) (offset : ℕ) → Changes which table names i at h c
      → HasText i c t → IsIn file offset t
      → AtIndex which table names file i (Some h) (Some (changed_header h offset (Some c))) (Some (Some t))

pub same_index : (which : DebugSections) (table : ImageTable) (names : Option (List ℕ)) (file : List ℕ) (i j : ℕ)
    (a b : Option SectionHeader) (t : Option (Option (List ℕ))) → i ≡ j → AtIndex which table names file i a b t
    → AtIndex which table names file j a b t
same_index which table names file i j a b t same x = subst (λ (k : ℕ). AtIndex which table names file k a b t) same x

pub at_index : (which : DebugSections) (table : ImageTable) (names : Option (List ℕ)) (file before : List ℕ) (i at : ℕ)
    (hs : List SectionHeader) (ss : List Section) (ts : List (Option (List ℕ))) (offset : ℕ)
    → SectionsOf which table names i at hs ss ts → file ≡ before ++ flat_map text_bytes ts → length before ≡ offset
    → (k : ℕ)
    → AtIndex which table names file (i + k) (slice_get hs k) (slice_get (headers_after offset ss) k) (slice_get ts k)
at_index which table names file before i at hs ss ts offset (end _ _) whole place k = missing
at_index which table names file before i at hs ss ts offset (stay _ _ h hs' ss' ts' e s rest) whole place zero =
    same_index which table names file i (i + 0) _ _ _ (omega arith) (stays h s)
at_index which table names file before i at hs ss ts offset (stay _ _ h hs' ss' ts' e s rest) whole place (suc k) =
    same_index which table names file (i + 1 + k) (i + suc k) _ _ _ (omega arith)
    (at_index which table names file before (i + 1) (next_name which table i at h) hs' ss' ts' (offset + 0) rest whole
    (omega arith) k)
at_index which table names file before i at hs ss ts offset
    (change _ _ h hs' ss' ts' c t e ch text rest) whole place zero =
    same_index which table names file i (i + 0) _ _ _ (omega arith)
    (changed at h c t offset ch text
    (record { before = before; after = flat_map text_bytes ts'; whole = whole; place = place }))
at_index which table names file before i at hs ss ts offset (change _ _ h hs' ss' ts' c t e ch text rest) whole place
    (suc k) =
    let size = text.size in
    let long : length (before ++ t) ≡ offset + size_of c.content = omega (arith, length-append before t) in
    same_index which table names file (i + 1 + k) (i + suc k) _ _ _ (omega arith)
    (at_index which table names file (before ++ t) (i + 1) (next_name which table i at h) hs' ss' ts'
    (offset + size_of c.content) rest (whole ∙ sym (append_assoc before t (flat_map text_bytes ts'))) long k)

-- ---- names

-- the names of headers are the same in a string table with more names
abbrev pub AllKept : List ℕ → Image → List SectionHeader → Type 0
AllKept all image [] = Unit {0}
AllKept all image (h ∷ hs) = (text_at all h.name ≡ name_of h image) × AllKept all image hs

no_new : (which : DebugSections) (image : Image) (i : ℕ) (h : SectionHeader) (all : List ℕ)
    → new_name_of which image i h ≡ None → text_at all h.name ≡ name_of h image
    → text_at all h.name ≡ name_after which image i h
no_new which image i h all none kept =
    kept ∙ sym (ap (λ (o : Option (List ℕ)). name_or o (name_of h image)) none)

changed_name : (which : DebugSections) (table : ImageTable) (names : Option (List ℕ)) (i at : ℕ) (h : SectionHeader)
    (c : Change) (all rest : List ℕ) → Changes which table names i at h c
    → Placed all at (ended (new_name_of which table.image i h) ++ rest) → text_at all h.name ≡ name_of h table.image
    → text_at all c.name ≡ name_after which table.image i h
changed_name which table names i at h c all rest (flagged x is none) p kept = no_new which table.image i h all none kept
changed_name which table names i at h c all rest (renamed x n new) p kept =
    (place_new which table.image i h all at n rest new p).text
    ∙ sym (ap (λ (o : Option (List ℕ)). name_or o (name_of h table.image)) new)
changed_name which table names i at h c all rest (named n some is other none) p kept =
    no_new which table.image i h all none kept

abbrev pub names_in : List ℕ → List SectionHeader → List (Option (List ℕ))
names_in all hs = map (λ (h : SectionHeader). text_at all h.name) hs

pub names_are : (which : DebugSections) (table : ImageTable) (names : Option (List ℕ)) (all : List ℕ) (i at : ℕ)
    (hs : List SectionHeader) (ss : List Section) (ts : List (Option (List ℕ))) (offset : ℕ)
    → SectionsOf which table names i at hs ss ts → Placed all at (added_names which table.image i hs)
    → AllKept all table.image hs → names_in all (headers_after offset ss) ≡ names_after which table.image i hs
names_are which table names all i at hs ss ts offset (end _ _) p kept = refl
names_are which table names all i at hs ss ts offset (stay _ _ h hs' ss' ts' e s rest) p kept =
    let q = place_next all at (ended (new_name_of which table.image i h))
    (added_names which table.image (i + 1) hs') p in
    ap (λ (o : Option (List ℕ)). o ∷ names_in all (headers_after (offset + 0) ss'))
    (no_new which table.image i h all s.unnamed kept.0)
    ∙ ap (λ (l : List (Option (List ℕ))). name_after which table.image i h ∷ l)
    (names_are which table names all (i + 1) (next_name which table i at h) hs' ss' ts' (offset + 0) rest q kept.1)
names_are which table names all i at hs ss ts offset (change _ _ h hs' ss' ts' c t e ch text rest) p kept =
    let q = place_next all at (ended (new_name_of which table.image i h))
    (added_names which table.image (i + 1) hs') p in
    let size = size_of c.content in
    ap (λ (o : Option (List ℕ)). o ∷ names_in all (headers_after (offset + size) ss'))
    (changed_name which table names i at h c all (added_names which table.image (i + 1) hs') ch p kept.0)
    ∙ ap (λ (l : List (Option (List ℕ))). name_after which table.image i h ∷ l)
    (names_are which table names all (i + 1) (next_name which table i at h) hs' ss' ts' (offset + size) rest q kept.1)

-- the same from index 1 on
pub later_names : (which : DebugSections) (table : ImageTable) (names : Option (List ℕ)) (all : List ℕ) (at : ℕ)
    (hs : List SectionHeader) (ss : List Section) (ts : List (Option (List ℕ))) (offset : ℕ)
    → SectionsOf which table names 0 at hs ss ts → Placed all at (added_names which table.image 0 hs)
    → AllKept all table.image (drop 1 hs)
    → names_in all (drop 1 (headers_after offset ss)) ≡ names_after which table.image 1 (drop 1 hs)
later_names which table names all at hs ss ts offset (end _ _) p kept = refl
later_names which table names all at hs ss ts offset (stay _ _ h hs' ss' ts' e s rest) p kept =
    let q = place_next all at (ended (new_name_of which table.image 0 h)) (added_names which table.image 1 hs') p in
    names_are which table names all 1 (next_name which table 0 at h) hs' ss' ts' (offset + 0) rest q kept
later_names which table names all at hs ss ts offset (change _ _ h hs' ss' ts' c t e ch text rest) p kept =
    let q = place_next all at (ended (new_name_of which table.image 0 h)) (added_names which table.image 1 hs') p in
    names_are which table names all 1 (next_name which table 0 at h) hs' ss' ts'
    (offset + size_of c.content) rest q kept

-- ---- what is asked of all headers

-- a section of a plain type changes no other
changes_not : (index : ℕ) (h : SectionHeader) → HasPlainType h → changes index h ≡ false
changes_not index h plain = rw plain.no_rela (rw plain.no_rel refl)

pub changes_same : (which : DebugSections) (table : ImageTable) (names : Option (List ℕ)) (i at : ℕ)
    (hs : List SectionHeader) (ss : List Section) (ts : List (Option (List ℕ))) (offset index : ℕ)
    → SectionsOf which table names i at hs ss ts
    → list_any (changes index) (headers_after offset ss) ≡ list_any (changes index) hs
changes_same which table names i at hs ss ts offset index (end _ _) = refl
changes_same which table names i at hs ss ts offset index (stay _ _ h hs' ss' ts' e s rest) =
    ap (λ (b : Bool). changes index h || b)
    (changes_same which table names (i + 1) (next_name which table i at h) hs' ss' ts' (offset + 0) index rest)
changes_same which table names i at hs ss ts offset index (change _ _ h hs' ss' ts' c t e ch text rest) =
    let size = size_of c.content in
    let k = changed_header h offset (Some c) in
    let p = (changed_is which table names i at h c ch).plain in
    let q : HasPlainType k = record {
      no_nobits = p.no_nobits;
      no_symtab = p.no_symtab;
      no_dynsym = p.no_dynsym;
      no_rela = p.no_rela;
      no_rel = p.no_rel;
    } in
    ap (λ (b : Bool). b || list_any (changes index) (headers_after (offset + size) ss')) (changes_not index k q)
    ∙ changes_same which table names (i + 1) (next_name which table i at h) hs' ss' ts' (offset + size) index rest
    ∙ sym (ap (λ (b : Bool). b || list_any (changes index) hs') (changes_not index h p))

-- the first section of a type that no section has that changes
pub record FoundSame (table : ImageTable) (a b : Option SectionHeader) : Type 0 where
  pub same : a ≡ b
  pub stays : (h : SectionHeader) → b ≡ Some h → (i : ℕ) × (refuse_staying table i h ≡ Ok tt)

pub found_same : (which : DebugSections) (table : ImageTable) (names : Option (List ℕ)) (n i at : ℕ)
    (hs : List SectionHeader) (ss : List Section) (ts : List (Option (List ℕ))) (offset : ℕ)
    → ((h : SectionHeader) → HasPlainType h → eqb h.section_type n ≡ false) → SectionsOf which table names i at hs ss ts
    → FoundSame table (find (λ h. eqb h.section_type n) (headers_after offset ss)) (find (λ h. eqb h.section_type n) hs)
found_same which table names n i at hs ss ts offset other (end _ _) = record { same = refl; stays = λ h is. absurd cc }
found_same which table names n i at hs ss ts offset other (stay _ _ h hs' ss' ts' e s rest) =
    let r = found_same which table names n (i + 1) (next_name which table i at h) hs' ss' ts' (offset + 0) other rest in
    cases (eqb h.section_type n) r
  where
    cases : (b : Bool) → FoundSame table (find (λ h. eqb h.section_type n) (headers_after (offset + 0) ss'))
        (find (λ h. eqb h.section_type n) hs')
        → FoundSame table (cond b (Some h) (find (λ h. eqb h.section_type n) (headers_after (offset + 0) ss')))
        (cond b (Some h) (find (λ h. eqb h.section_type n) hs'))
    cases true r = record {
      same = refl;
      stays = λ g is. let same : h ≡ g = cc in
          (i, subst (λ (x : SectionHeader). refuse_staying table i x ≡ Ok tt) same s.stays);
    }
    cases false r = r
found_same which table names n i at hs ss ts offset other (change _ _ h hs' ss' ts' c t e ch text rest) =
    let size = size_of c.content in
    let r = found_same which table names n (i + 1) (next_name which table i at h) hs' ss' ts'
    (offset + size) other rest in
    let none : eqb h.section_type n ≡ false = other h (changed_is which table names i at h c ch).plain in
    rw none r
