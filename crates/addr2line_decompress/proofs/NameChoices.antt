-- Which section a name leads to, among names in other places, and among those after decompression.
use Rattle.std.proofs.Common.{◌≡◌, ℕ, suc, ◌+◌, ◌||◌, not, Bool, true, false, cond, eqb, List, [], ◌∷◌, length, map, drop, Option, Some, None, refl, sym, ap, ◌∙◌, nat_lt, nat_eq}
use Rattle.std.specs.Prelude.{option_map, codes}
use Rattle.std.specs.Option.{is_some, is_none}
use Rattle.std.specs.List.{position, prefix_len, position_or_len, starts_with}
use Rattle.std.specs.Cmp.Lexicographic.{pointwise, same_text}
use Rattle.std.proofs.lemmas.Bool.{or_parts}
use Rattle.addr2line_elf.specs.declared.headers.SectionHeader.{SectionHeader}
use Rattle.addr2line_elf.specs.ElfTexts.{is_text}
use Rattle.addr2line_elf.specs.ElfImages.{Image, name_of, index_named}
use Rattle.addr2line_decompress.specs.declared.sections.DebugSections.{DebugSections}
use Rattle.addr2line_decompress.specs.DebugSectionNames.{is_debug_name, is_old_name, new_name}
use Rattle.addr2line_decompress.specs.CompressedSections.{is_flagged, new_name_of, is_compressed, has_compressed, name_or, name_after}
use Rattle.addr2line_decompress.specs.Decompression.{names_after, index_after}
use Rattle.addr2line_decompress.proofs.NewNames.{named}

-- ---- the first name of a list

module _ (f : SectionHeader → Option (List ℕ)) (q : Option (List ℕ) → Bool) where
  prefix_map : (hs : List SectionHeader)
      → prefix_len (λ h. not (q (f h))) hs ≡ prefix_len (λ o. not (q o)) (map f hs)
  prefix_map [] = refl
  prefix_map (h ∷ hs) = ap (λ (n : ℕ). cond (not (q (f h))) (1 + n) 0) (prefix_map hs)

  length_map : (hs : List SectionHeader) → length hs ≡ length (map f hs)
  length_map [] = refl
  length_map (h ∷ hs) = ap suc (length_map hs)

abbrev index_below : ℕ → ℕ → Option ℕ
index_below n len = cond (nat_lt n len) (Some n) None

pub position_map : (f : SectionHeader → Option (List ℕ)) (q : Option (List ℕ) → Bool) (hs : List SectionHeader)
    (names : List (Option (List ℕ))) → map f hs ≡ names → position (λ h. q (f h)) hs ≡ position q names
position_map f q hs names same =
    ap (λ (n : ℕ). index_below n (length hs)) (prefix_map f q hs)
    ∙ ap (index_below (position_or_len q (map f hs))) (length_map f q hs)
    ∙ ap (position q) same

-- ---- names that stay

differ : (a b : List ℕ) → (a ≡ b → ⊥) → pointwise nat_eq a b ≡ false
differ a b ne = of (pointwise nat_eq a b) refl
  where
    of : (t : Bool) → pointwise nat_eq a b ≡ t → t ≡ false
    of true h = absurd (ne (same_text a b (sym h)))
    of false h = refl

module _ (which : DebugSections) (image : Image) (name : List ℕ) (young : is_old_name name ≡ false)
    (other : (m : List ℕ) → is_none (index_named (new_name m) image) ≡ true → new_name m ≡ name → ⊥) where
  abbrev is_it : Option (List ℕ) → Bool
  is_it o = is_text o name

  same_test : (i : ℕ) (h : SectionHeader) → is_it (name_after which image i h) ≡ is_it (name_of h image)
  same_test i h = of (new_name_of which image i h) refl
    where
      of : (o : Option (List ℕ)) → new_name_of which image i h ≡ o
          → is_it (name_or o (name_of h image)) ≡ is_it (name_of h image)
      of None none = refl
      of (Some n) new =
          let f = named which image i h n new in
          let free : is_none (index_named (new_name f.old) image) ≡ true =
          ap (λ (l : List ℕ). is_none (index_named l image)) f.new_is ∙ f.free in
          differ n name (λ is. other f.old free (f.new_is ∙ is))
          ∙ sym (ap is_it f.old_is ∙ differ f.old name (λ is. let no : true ≡ false = sym f.is_old ∙ ap is_old_name is
          ∙ young in absurd cc))

  same_prefix : (i : ℕ) (hs : List SectionHeader)
      → prefix_len (λ o. not (is_it o)) (names_after which image i hs)
      ≡ prefix_len (λ h. not (is_it (name_of h image))) hs
  same_prefix i [] = refl
  same_prefix i (h ∷ hs) =
      ap (λ (t : Bool). cond (not t) (1 + prefix_len (λ o. not (is_it o)) (names_after which image (i + 1) hs)) 0)
      (same_test i h)
      ∙ ap (λ (n : ℕ). cond (not (is_it (name_of h image))) (1 + n) 0) (same_prefix (i + 1) hs)

  as_many : (i : ℕ) (hs : List SectionHeader) → length (names_after which image i hs) ≡ length hs
  as_many i [] = refl
  as_many i (h ∷ hs) = ap suc (as_many (i + 1) hs)

  same_position : (i : ℕ) (hs : List SectionHeader)
      → position is_it (names_after which image i hs) ≡ position (λ h. is_it (name_of h image)) hs
  same_position i hs =
      ap (λ (n : ℕ). index_below n (length (names_after which image i hs))) (same_prefix i hs)
      ∙ ap (index_below (position_or_len (λ h. is_it (name_of h image)) hs)) (as_many i hs)

  same_index : index_after which name image ≡ index_named name image
  same_index = ap (option_map (λ n. n + 1)) (same_position 1 (drop 1 image.sections))

-- a name that isn't one of debugging information
pub others_same : (which : DebugSections) (image : Image) (name : List ℕ) → is_debug_name name ≡ false
    → index_after which name image ≡ index_named name image
others_same which image name other =
    let parts = or_parts (starts_with nat_eq name (codes ".debug_")) (is_old_name name) other in
    same_index which image name parts.1
    (λ m free is. let yes : true ≡ false = ap is_debug_name is ∙ other in absurd cc)

-- a name that a section had
pub present_same : (which : DebugSections) (image : Image) (name : List ℕ) (index : ℕ) → is_old_name name ≡ false
    → index_named name image ≡ Some index → index_after which name image ≡ Some index
present_same which image name index young present =
    same_index which image name young
    (λ m free is.
    let none : is_none (index_named name image) ≡ true =
    ap (λ (l : List ℕ). is_none (index_named l image)) (sym is) ∙ free in
    let no : false ≡ true = sym (ap (λ (o : Option ℕ). is_none o) present) ∙ none in
    absurd cc)
    ∙ present

-- ---- an image in which nothing is compressed

none_if : {A : Type 0} (o : Option A) → is_some o ≡ false → o ≡ None
none_if None is = refl
none_if (Some x) is = absurd cc

module _ (which : DebugSections) (image : Image) where
  same_names : (i : ℕ) (hs : List SectionHeader) → has_compressed which image i hs ≡ false
      → map (λ (h : SectionHeader). name_of h image) hs ≡ names_after which image i hs
  same_names i [] is = refl
  same_names i (h ∷ hs) is =
      let a = or_parts (is_compressed which image i h) (has_compressed which image (i + 1) hs) is in
      let b = or_parts (is_flagged which image i h) (is_some (new_name_of which image i h)) a.0 in
      ap (λ (o : Option (List ℕ)). name_or o (name_of h image) ∷ map (λ (g : SectionHeader). name_of g image) hs)
      (sym (none_if (new_name_of which image i h) b.1))
      ∙ ap (λ (l : List (Option (List ℕ))). name_after which image i h ∷ l) (same_names (i + 1) hs a.1)

  later_same : (hs : List SectionHeader) → has_compressed which image 0 hs ≡ false
      → map (λ (h : SectionHeader). name_of h image) (drop 1 hs) ≡ names_after which image 1 (drop 1 hs)
  later_same [] is = refl
  later_same (h ∷ hs) is =
      same_names 1 hs (or_parts (is_compressed which image 0 h) (has_compressed which image 1 hs) is).1

  pub none_renamed : (name : List ℕ) → has_compressed which image 0 image.sections ≡ false
      → index_named name image ≡ index_after which name image
  none_renamed name is =
      ap (option_map (λ n. n + 1))
      (position_map (λ (h : SectionHeader). name_of h image)
      (λ (o : Option (List ℕ)). is_text o name) (drop 1 image.sections)
      (names_after which image 1 (drop 1 image.sections)) (later_same image.sections is))
