-- The new names of sections, in the string table that is made of the old names and of them.
use Rattle.std.proofs.Common.{◌≡◌, ℕ, zero, suc, ◌+◌, ◌<◌, ◌^◌, ◌&&◌, ◌||◌, not, Bool, true, false, cond, eqb, List, [], ◌∷◌, ◌++◌, length, take, drop, Option, Some, None, option_map, refl, sym, ap, subst, ◌∙◌, arith, append_assoc}
use Rattle.std.specs.Prelude.{bit_and, codes}
use Rattle.std.specs.Option.{is_some, is_none}
use Rattle.std.specs.List.{list_any}
use Rattle.std.proofs.lemmas.Bool.{and_parts, or_parts}
use Rattle.std.proofs.lemmas.List.{length-append, drop_at}
use Rattle.addr2line_elf.specs.declared.headers.SectionHeader.{SectionHeader}
use Rattle.addr2line_elf.specs.ElfTexts.{text_before_zero, text_at}
use Rattle.addr2line_elf.specs.ElfImages.{Image, name_of, index_named}
use Rattle.addr2line_elf.proofs.TextLemmas.{before, before_is}
use Rattle.addr2line_decompress.specs.declared.sections.DebugSections.{DebugSections}
use Rattle.addr2line_decompress.specs.DebugSectionNames.{is_among, is_old_name, new_name}
use Rattle.addr2line_decompress.specs.CompressedSections.{has_other_type, is_flagged, if_free, new_name_for, new_name_of, ended}

-- ---- the text before the first zero byte

abbrev is_zero : ℕ → Bool
is_zero b = eqb b 0

abbrev no_zero : List ℕ → Bool
no_zero xs = list_any is_zero xs

some_is : {A : Type 0} (x y : A) → Some x ≡ Some y → x ≡ y
some_is x y is = cc

kept_more : (b : ℕ) (t : Bool) (o p : Option (List ℕ)) (m : List ℕ)
    → ((n : List ℕ) → o ≡ Some n → p ≡ Some n)
    → cond t (Some []) (option_map (λ u. b ∷ u) o) ≡ Some m → cond t (Some []) (option_map (λ u. b ∷ u) p) ≡ Some m
kept_more b true o p m h is = is
kept_more b false None p m h is = absurd cc
kept_more b false (Some n) p m h is = ap (option_map (λ u. b ∷ u)) (h n refl) ∙ is

kept : (xs ys m : List ℕ) → before xs ≡ Some m → before (xs ++ ys) ≡ Some m
kept [] ys m is = absurd cc
kept (b ∷ xs) ys m is = kept_more b (eqb b 0) (before xs) (before (xs ++ ys)) m (kept xs ys) is

-- a text that ends in a string table ends there, whatever follows the table
pub text_kept : (table more : List ℕ) (offset : ℕ) (m : List ℕ) → text_at table offset ≡ Some m
    → text_at (table ++ more) offset ≡ Some m
text_kept table more offset m is =
    before_is (drop offset (table ++ more)) ∙ dropped table offset (sym (before_is (drop offset table)) ∙ is)
  where
    dropped : (xs : List ℕ) (n : ℕ) → before (drop n xs) ≡ Some m → before (drop n (xs ++ more)) ≡ Some m
    dropped xs zero h = kept xs more m h
    dropped [] (suc n) h = absurd cc
    dropped (x ∷ xs) (suc n) h = dropped xs n h

none_in : (xs m : List ℕ) → before xs ≡ Some m → no_zero m ≡ false
none_in [] m is = absurd cc
none_in (b ∷ xs) m is = cases (λ n. none_in xs n) (eqb b 0) refl (before xs) refl is
  where
    cases : ((n : List ℕ) → before xs ≡ Some n → no_zero n ≡ false) → (t : Bool) → eqb b 0 ≡ t
        → (o : Option (List ℕ)) → before xs ≡ o
        → cond t (Some []) (option_map (λ u. b ∷ u) o) ≡ Some m → no_zero m ≡ false
    cases rest true h o g k = subst (λ (l : List ℕ). no_zero l ≡ false) (some_is [] m k) refl
    cases rest false h None g k = absurd cc
    cases rest false h (Some n) g k =
        subst (λ (l : List ℕ). no_zero l ≡ false) (some_is (b ∷ n) m k)
        (ap (λ (t : Bool). t || no_zero n) h ∙ rest n g)

-- a text has no zero byte
pub text_has_none : (table : List ℕ) (offset : ℕ) (m : List ℕ) → text_at table offset ≡ Some m → no_zero m ≡ false
text_has_none table offset m is = none_in (drop offset table) m (sym (before_is (drop offset table)) ∙ is)

up_to_zero : (xs rest : List ℕ) → no_zero xs ≡ false → before (xs ++ 0 ∷ rest) ≡ Some xs
up_to_zero [] rest none = refl
up_to_zero (b ∷ xs) rest none =
    let parts = or_parts (is_zero b) (no_zero xs) none in
    ap (λ (t : Bool). cond t (Some []) (option_map (λ u. b ∷ u) (before (xs ++ 0 ∷ rest)))) parts.0
    ∙ ap (option_map (λ u. b ∷ u)) (up_to_zero xs rest parts.1)

-- ---- a section that gets a new name

-- its old name, and what is known of both
pub record NewName (which : DebugSections) (image : Image) (i : ℕ) (h : SectionHeader) (n : List ℕ) : Type 0 where
  pub old : List ℕ
  pub old_is : name_of h image ≡ Some old
  pub is_old : is_old_name old ≡ true
  pub new_is : new_name old ≡ n
  pub free : is_none (index_named n image) ≡ true
  pub later : eqb i 0 ≡ false
  pub unflagged : eqb (bit_and h.flags 0x800) 0 ≡ true
  pub plain : has_other_type h ≡ false

-- a section that may get one, by its index, flags and type
abbrev may_rename : ℕ → SectionHeader → Bool
may_rename i h = not (eqb i 0) && eqb (bit_and h.flags 0x800) 0 && not (has_other_type h)

pub not_true : (b : Bool) → not b ≡ true → b ≡ false
not_true true is = absurd cc
not_true false is = refl

pub named : (which : DebugSections) (image : Image) (i : ℕ) (h : SectionHeader) (n : List ℕ)
    → new_name_of which image i h ≡ Some n → NewName which image i h n
named which image i h n is = of_test (may_rename i h) refl is
  where
    of_free : (m : List ℕ) → name_of h image ≡ Some m → is_old_name m ≡ true
        → may_rename i h ≡ true
        → (b : Bool) → (is_among which (new_name m) && is_none (index_named (new_name m) image)) ≡ b
        → cond b (Some (new_name m)) None ≡ Some n → NewName which image i h n
    of_free m name old test true free k =
        let a = and_parts (not (eqb i 0) && eqb (bit_and h.flags 0x800) 0) (not (has_other_type h)) test in
        let c = and_parts (not (eqb i 0)) (eqb (bit_and h.flags 0x800) 0) a.0 in
        let f = and_parts (is_among which (new_name m)) (is_none (index_named (new_name m) image)) free in
        let same : new_name m ≡ n = some_is (new_name m) n k in
        record {
          old = m;
          old_is = name;
          is_old = old;
          new_is = same;
          free = ap (λ (l : List ℕ). is_none (index_named l image)) (sym same) ∙ f.1;
          later = not_true _ c.0;
          unflagged = c.1;
          plain = not_true _ a.1;
        }
    of_free m name old test false free k = absurd cc

    of_old : (m : List ℕ) → name_of h image ≡ Some m
        → may_rename i h ≡ true
        → (b : Bool) → is_old_name m ≡ b → cond b (if_free which image (new_name m)) None ≡ Some n
        → NewName which image i h n
    of_old m name test true old k =
        of_free m name old test (is_among which (new_name m) && is_none (index_named (new_name m) image)) refl k
    of_old m name test false old k = absurd cc

    of_name : (o : Option (List ℕ)) → name_of h image ≡ o
        → may_rename i h ≡ true
        → new_name_for which image o ≡ Some n → NewName which image i h n
    of_name None name test k = absurd cc
    of_name (Some m) name test k = of_old m name test (is_old_name m) refl k

    of_test : (b : Bool)
        → may_rename i h ≡ b
        → cond b (new_name_for which image (name_of h image)) None ≡ Some n → NewName which image i h n
    of_test true test k = of_name (name_of h image) refl test k
    of_test false test k = absurd cc

-- a section that is flagged gets none
pub no_new_name : (which : DebugSections) (image : Image) (i : ℕ) (h : SectionHeader)
    → is_flagged which image i h ≡ true → new_name_of which image i h ≡ None
no_new_name which image i h is =
    let a = and_parts (not (eqb i 0) && not (eqb (bit_and h.flags 0x800) 0) && not (has_other_type h)) _ is in
    let b = and_parts (not (eqb i 0) && not (eqb (bit_and h.flags 0x800) 0)) (not (has_other_type h)) a.0 in
    let c = and_parts (not (eqb i 0)) (not (eqb (bit_and h.flags 0x800) 0)) b.0 in
    let set : eqb (bit_and h.flags 0x800) 0 ≡ false = not_true _ c.1 in
    ap (λ (t : Bool). cond (not (eqb i 0) && t && not (has_other_type h))
    (new_name_for which image (name_of h image)) None) set
    ∙ ap (λ (t : Bool). cond (t && not (has_other_type h)) (new_name_for which image (name_of h image)) None)
    (and_false (not (eqb i 0)))
  where
    and_false : (b : Bool) → (b && false) ≡ false
    and_false true = refl
    and_false false = refl

-- the bytes of a new name have no zero byte among them
pub new_has_none : (which : DebugSections) (image : Image) (i : ℕ) (h : SectionHeader) (n : List ℕ)
    → NewName which image i h n → no_zero n ≡ false
new_has_none which image i h n new =
    ap no_zero (sym new.new_is)
    ∙ dropped (length (codes ".zdebug_")) new.old (text_has_none image.names.bytes h.name new.old new.old_is)
  where
    dropped : (k : ℕ) (xs : List ℕ) → no_zero xs ≡ false → no_zero (drop k xs) ≡ false
    dropped zero xs none = none
    dropped (suc k) [] none = refl
    dropped (suc k) (x ∷ xs) none = dropped k xs (or_parts (is_zero x) (no_zero xs) none).1

-- ---- where the new names are

-- names that are added end a string table, from an offset of 32 bits on; or none is
pub data Placed (all : List ℕ) (at : ℕ) (added : List ℕ) : Type 0 where
  nothing : added ≡ [] → Placed all at added
  placed : (front : List ℕ) → all ≡ front ++ added → length front ≡ at → length all < 2 ^ 32 → Placed all at added

pub place_next : (all : List ℕ) (at : ℕ) (xs rest : List ℕ) → Placed all at (xs ++ rest)
    → Placed all (at + length xs) rest
place_next all at [] rest (nothing none) = nothing none
place_next all at (x ∷ xs) rest (nothing none) = absurd cc
place_next all at xs rest (placed front is place low) =
    placed (front ++ xs) (is ∙ sym (append_assoc front xs rest))
    (length-append front xs ∙ ap (λ (n : ℕ). n + length xs) place) low

-- the next one
pub record IsNext (all : List ℕ) (at : ℕ) (n : List ℕ) : Type 0 where
  pub text : text_at all at ≡ Some n
  pub low : at < 2 ^ 32

pub place_first : (all : List ℕ) (at : ℕ) (n rest : List ℕ) → no_zero n ≡ false
    → Placed all at (ended (Some n) ++ rest) → IsNext all at n
place_first all at [] rest clear (nothing none) = absurd cc
place_first all at (b ∷ n) rest clear (nothing none) = absurd cc
place_first all at n rest clear (placed front is place low) =
    let whole : (n ++ 0 ∷ []) ++ rest ≡ n ++ 0 ∷ rest = append_assoc n (0 ∷ []) rest in
    record {
      text =
          ap (λ (l : List ℕ). text_at l at) is
          ∙ ap text_before_zero (drop_at front ((n ++ 0 ∷ []) ++ rest) at place)
          ∙ ap text_before_zero whole
          ∙ before_is (n ++ 0 ∷ rest) ∙ up_to_zero n rest clear;
      low = let long = ap length is in
          omega (arith, length-append front ((n ++ 0 ∷ []) ++ rest));
    }

pub place_new : (which : DebugSections) (image : Image) (i : ℕ) (h : SectionHeader) (all : List ℕ) (at : ℕ)
    (n rest : List ℕ)
    → new_name_of which image i h ≡ Some n → Placed all at (ended (new_name_of which image i h) ++ rest)
    → IsNext all at n
place_new which image i h all at n rest new p =
    place_first all at n rest (new_has_none which image i h n (named which image i h n new))
    (subst (λ (o : Option (List ℕ)). Placed all at (ended o ++ rest)) new p)
