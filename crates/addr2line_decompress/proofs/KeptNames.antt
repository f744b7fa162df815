-- Refusals that did not come, and names that stay after decompression.
use Rattle.std.proofs.Common.{◌≡◌, ℕ, zero, suc, inl, inr, ◌+◌, ◌<◌, ◌^◌, ◌&&◌, ◌||◌, not, Bool, true, false, eqb, ltb, nat_lt, List, [], ◌∷◌, ◌++◌, length, drop, Option, Some, None, Result, Ok, refl, sym, ap, ◌∙◌, arith}
use Rattle.std.specs.Option.{is_none}
use Rattle.std.proofs.lemmas.Bool.{ltb-true}
use Rattle.std.proofs.lemmas.Bool.Decides.{eqb_tells}
use Rattle.gimli_core_readers.specs.View.{View}
use Rattle.addr2line_elf.specs.declared.error.LoadError.{LoadError}
use Rattle.addr2line_elf.specs.declared.headers.SectionHeader.{SectionHeader}
use Rattle.addr2line_elf.specs.ElfTexts.{text_at}
use Rattle.addr2line_elf.specs.ElfSymbols.{symbol_table}
use Rattle.addr2line_elf.specs.ElfImages.{Image, name_of, names_index}
use Rattle.addr2line_decompress.specs.declared.error.DecompressError.{DecompressError}
use Rattle.addr2line_decompress.specs.declared.error.DecompressError.TheVariants.{SharedNames, NameCut, TooLarge}
use Rattle.addr2line_decompress.specs.declared.sections.DebugSections.{DebugSections}
use Rattle.addr2line_decompress.specs.DecompressResults.{refuse_if}
use Rattle.addr2line_decompress.specs.ImageTables.{ImageTable}
use Rattle.addr2line_decompress.specs.CompressedSections.{new_name_of, ended, added_names, link_of, refuse_unnamed, refuse_new_names}
use Rattle.addr2line_decompress.proofs.TableReads.{ok_parts}
use Rattle.addr2line_decompress.proofs.IndexedSections.{AllKept}
use Rattle.addr2line_decompress.proofs.NewNames.{named as name_facts, text_kept}

-- ---- refusals that didn't come

pub test_fails : (b : Bool) (e : DecompressError) → refuse_if b e ≡ Ok tt → b ≡ false
test_fails true e is = absurd cc
test_fails false e is = refl

pub true_or : (a b : Bool) → a ≡ true → (a || b) ≡ true
true_or a b is = ap (λ (t : Bool). t || b) is

pub or_true : (a b : Bool) → b ≡ true → (a || b) ≡ true
or_true true b is = refl
or_true false b is = is

pub either_false : (a b : Bool) (P : Type 0) → (a && b) ≡ false → (a ≡ false → P) → (b ≡ false → P) → P
either_false true b P is f g = g is
either_false false b P is f g = f refl

-- ---- names

abbrev pub view_ok : View → Result View LoadError
view_ok v = Ok v

abbrev pub text_ok : List ℕ → Result (List ℕ) DecompressError
text_ok t = Ok t

pub ok_view_same : (x y : View) → view_ok x ≡ view_ok y → x ≡ y
ok_view_same x y is = cc

pub ok_text_same : (x y : List ℕ) → text_ok x ≡ text_ok y → x ≡ y
ok_text_same x y is = cc

pub some_same : (x y : List ℕ) → Some x ≡ Some y → x ≡ y
some_same x y is = cc

-- without a string table no section has a name
nothing_named : (xs : List ℕ) (n : ℕ) → xs ≡ [] → text_at xs n ≡ None
nothing_named [] zero is = refl
nothing_named [] (suc n) is = refl
nothing_named (x ∷ xs) n is = absurd cc

pub none_added : (which : DebugSections) (image : Image) → image.names.bytes ≡ [] → (i : ℕ) (hs : List SectionHeader)
    → added_names which image i hs ≡ []
none_added which image empty i [] = refl
none_added which image empty i (h ∷ hs) =
    ap (λ (o : Option (List ℕ)). ended o ++ added_names which image (i + 1) hs)
    (no_name (new_name_of which image i h) refl)
    ∙ none_added which image empty (i + 1) hs
  where
    no_name : (o : Option (List ℕ)) → new_name_of which image i h ≡ o → new_name_of which image i h ≡ None
    no_name None is = is
    no_name (Some n) is =
        let f = name_facts which image i h n is in
        let both : None ≡ Some f.old = sym (nothing_named image.names.bytes h.name empty) ∙ f.old_is in
        absurd cc

positive : (i : ℕ) → eqb (i + 1) 0 ≡ false
positive i = elim (eqb_tells (i + 1) 0) [ inl same ↦ absurd (zero_not i same.1) | inr other ↦ other.0 ]
  where
    zero_not : (i : ℕ) → i + 1 ≡ 0 → ⊥
    zero_not i e = absurd (omega arith)

not_false : (b : Bool) → not b ≡ false → b ≡ true
not_false true is = refl
not_false false is = absurd cc

pub none_kept : (image : Image) (hs : List SectionHeader) → AllKept image.names.bytes image hs
none_kept image [] = tt
none_kept image (h ∷ hs) = (refl, none_kept image hs)

-- each name ends, but for that of the section at index 0
kept_from : (image : Image) (more : List ℕ) (i : ℕ) (hs : List SectionHeader) → refuse_unnamed image (i + 1) hs ≡ Ok tt
    → AllKept (image.names.bytes ++ more) image hs
kept_from image more i [] is = tt
kept_from image more i (h ∷ hs) is =
    let later : eqb (i + 1) 0 ≡ false = positive i in
    let a = ok_parts (refuse_if (not (eqb (i + 1) 0) && is_none (name_of h image)) (NameCut (i + 1))) _ tt is in
    let test = test_fails _ (NameCut (i + 1)) a.1 in
    let named_it : is_none (name_of h image) ≡ false =
    sym (ap (λ (t : Bool). not t && is_none (name_of h image)) later) ∙ test in
    (of (name_of h image) refl named_it, kept_from image more (i + 1) hs a.2)
  where
    of : (o : Option (List ℕ)) → name_of h image ≡ o → is_none o ≡ false
        → text_at (image.names.bytes ++ more) h.name ≡ name_of h image
    of None is some = absurd cc
    of (Some m) is some = text_kept image.names.bytes more h.name m is ∙ sym is

pub later_kept : (image : Image) (more : List ℕ) (hs : List SectionHeader) → refuse_unnamed image 0 hs ≡ Ok tt
    → AllKept (image.names.bytes ++ more) image (drop 1 hs)
later_kept image more [] is = tt
later_kept image more (h ∷ hs) is = kept_from image more 0 hs is

module _ (table : ImageTable) (n : List ℕ) (fit : refuse_new_names table (Some n) ≡ Ok tt) where
  pub all_named : refuse_unnamed table.image 0 table.image.sections ≡ Ok tt
  all_named =
      let a = ok_parts (refuse_if (eqb (link_of (symbol_table table.image.sections)) table.names_index)
      (SharedNames table.names_index)) _ tt fit in
      (ok_parts (refuse_unnamed table.image 0 table.image.sections) _ tt a.2).1

  pub fits : length n < 2 ^ 32
  fits =
      let a = ok_parts (refuse_if (eqb (link_of (symbol_table table.image.sections)) table.names_index)
      (SharedNames table.names_index)) _ tt fit in
      let b = ok_parts (refuse_unnamed table.image 0 table.image.sections) _ tt a.2 in
      ltb-true (length n) (2 ^ 32) (not_false _ (test_fails (not (nat_lt (length n) (2 ^ 32))) TooLarge b.2))
