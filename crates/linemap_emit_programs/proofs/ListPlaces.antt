-- Items that are each there once: where they are, and that they stay.
use Rattle.std.proofs.Common.{◌≡◌, ℕ, suc, ◌+◌, ◌<◌, ◌≤◌, Bool, true, false, cond, not, ◌||◌, List, [], ◌∷◌, ◌++◌, length, Some, slice_get, refl, sym, ap, ◌∙◌, true≢false, arith, append-nil, append_assoc, nat_eq}
use Rattle.std.specs.List.{list_any}
use Rattle.std.specs.Cmp.Lexicographic.{bytes_decides}
use Rattle.std.proofs.lemmas.Bool.{eqb-true, and_parts}
use Rattle.std.proofs.lemmas.List.{length-append}
use Rattle.std.proofs.lemmas.Option.{slice_get_within, get_or_from_slice_get, slice_get-get_or}
use Rattle.std.proofs.Math.ListN.{get_or-append}
use Rattle.std.proofs.Math.Seq.{get_or-append_seam}
use Rattle.gimli_lines_write_tables.specs.StringSections.{with_item, item_index}
use Rattle.gimli_lines_write_tables.specs.FileTables.{Text, in_header, of_strings, of_line_strings, File, is_same, is_same_file}
use Rattle.gimli_lines_write_tables.proofs.Keys.{with_new, with_old}
use Rattle.gimli_lines_write_tables.proofs.TextTableLemmas.{index-none}

-- ---- lists

-- items that stay as others come after them
pub record Extends {A : Type 0} (old new : List A) : Type 0 where
  pub more : List A
  pub are : new ≡ old ++ more

pub stays_same : {A : Type 0} (xs : List A) → Extends xs xs
stays_same xs = record { more = []; are = sym (append-nil xs) }

pub extends_on : {A : Type 0} {xs ys zs : List A} → Extends xs ys → Extends ys zs → Extends xs zs
extends_on {A} {xs} {ys} {zs} g h = record {
  more = g.more ++ h.more;
  are = h.are ∙ ap (λ (l : List A). l ++ h.more) g.are ∙ append_assoc xs g.more h.more;
}

pub get_left : {A : Type 0} (xs ys : List A) (i : ℕ) (x : A) → slice_get xs i ≡ Some x
    → slice_get (xs ++ ys) i ≡ Some x
get_left xs ys i x h =
    let below = slice_get_within xs i x h in
    slice_get-get_or (xs ++ ys) i x (omega (arith, length-append xs ys, below))
    ∙ ap Some (get_or-append xs ys x i below ∙ get_or_from_slice_get xs i x x h)

pub get_extended : {A : Type 0} (xs ys : List A) (i : ℕ) (x : A) → Extends xs ys → slice_get xs i ≡ Some x
    → slice_get ys i ≡ Some x
get_extended xs ys i x e h = ap (λ l. slice_get l i) e.are ∙ get_left xs e.more i x h

pub length-extended : {A : Type 0} (xs ys : List A) → Extends xs ys → length xs ≤ length ys
length-extended xs ys e = omega (arith, length-append xs e.more, ap length e.are)

get_end : {A : Type 0} (xs : List A) (x : A) → slice_get (xs ++ x ∷ []) (length xs) ≡ Some x
get_end xs x = slice_get-get_or (xs ++ x ∷ []) (length xs) x
    (more (length xs) (length (xs ++ x ∷ [])) (length-append xs (x ∷ []))) ∙ ap Some (get_or-append_seam xs x [] x)
  where
    more : (n m : ℕ) → m ≡ n + 1 → n < m
    more n m e = omega arith

-- ---- items

pub item_extends : {A : Type 0} (same : A → A → Bool) (items : List A) (x : A)
    → Extends items (with_item same items x)
item_extends {A} same items x = by (list_any (same x) items)
  where
    by : (b : Bool) → Extends items (cond b items (items ++ x ∷ []))
    by true = stays_same items
    by false = record { more = x ∷ []; are = refl }

-- at most one more
pub length-with_item : {A : Type 0} (same : A → A → Bool) (items : List A) (x : A)
    → length (with_item same items x) ≤ length items + 1
length-with_item {A} same items x = by (list_any (same x) items)
  where
    by : (b : Bool) → length (cond b items (items ++ x ∷ [])) ≤ length items + 1
    by true = omega arith
    by false = omega (arith, length-append items (x ∷ []))

module _ {A : Type 0} (same : A → A → Bool) (equal : (x y : A) → same x y ≡ true → x ≡ y) where
  found : (x : A) (items : List A) → list_any (same x) items ≡ true
      → slice_get items (item_index same items x) ≡ Some x
  found x [] h = absurd (true≢false (sym h))
  found x (y ∷ items) h = by (same x y) refl h (found x items)
    where
      by : (b : Bool) → same x y ≡ b → (b || list_any (same x) items) ≡ true
          → (list_any (same x) items ≡ true → slice_get items (item_index same items x) ≡ Some x)
          → slice_get (y ∷ items) (cond (not b) (1 + item_index same items x) 0) ≡ Some x
      by true e g rest = ap Some (sym (equal x y e))
      by false e g rest = ap (slice_get (y ∷ items)) (next (item_index same items x)) ∙ rest g
        where
          next : (n : ℕ) → 1 + n ≡ suc n
          next n = omega arith

  -- an item that was added is at its place
  pub item_there : (items : List A) (x : A) → slice_get (with_item same items x) (item_index same items x) ≡ Some x
  item_there items x = by (list_any (same x) items) refl
    where
      by : (b : Bool) → list_any (same x) items ≡ b
          → slice_get (with_item same items x) (item_index same items x) ≡ Some x
      by true e = ap (λ (l : List A). slice_get l (item_index same items x)) (with_old same items x e)
          ∙ found x items e
      by false e = ap (λ (l : List A). slice_get l (item_index same items x)) (with_new same items x e)
          ∙ ap (slice_get (items ++ x ∷ [])) (index-none (same x) items e) ∙ get_end items x

-- ---- texts and files

pub texts_equal : (a b : Text) → is_same a b ≡ true → a ≡ b
texts_equal (in_header a) (in_header b) h = ap in_header ((bytes_decides a b).0 h)
texts_equal (in_header a) (of_strings b) h = absurd cc
texts_equal (in_header a) (of_line_strings b) h = absurd cc
texts_equal (of_strings a) (in_header b) h = absurd cc
texts_equal (of_strings a) (of_strings b) h = ap of_strings (eqb-true a b h)
texts_equal (of_strings a) (of_line_strings b) h = absurd cc
texts_equal (of_line_strings a) (in_header b) h = absurd cc
texts_equal (of_line_strings a) (of_strings b) h = absurd cc
texts_equal (of_line_strings a) (of_line_strings b) h = ap of_line_strings (eqb-true a b h)

pub files_equal : (a b : File) → is_same_file a b ≡ true → a ≡ b
files_equal a b h =
    let parts = and_parts (is_same a.path b.path) (nat_eq a.directory b.directory) h in
    ap (λ (t : Text). record { path = t; directory = a.directory }) (texts_equal a.path b.path parts.0)
    ∙ ap (λ (n : ℕ). record { path = b.path; directory = n }) (eqb-true a.directory b.directory parts.1)
