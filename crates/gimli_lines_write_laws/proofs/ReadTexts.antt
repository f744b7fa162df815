-- The texts of a header are read as the texts of the tables that hold them.
use Rattle.std.proofs.Common.{◌≡◌, ◌≢◌, ℕ, suc, ◌+◌, ◌-◌, ◌<◌, ◌≤◌, Bool, List, [], ◌∷◌, drop, map, length, get_or, Option, Some, None, refl, sym, ap, ◌∙◌, arith, append-nil}
use Rattle.std.specs.Prelude.{All, slice_get}
use Rattle.std.proofs.lemmas.List.{length-append, length-drop}
use Rattle.std.proofs.lemmas.List.Elements.{All-nil, All-head, All-tail}
use Rattle.std.proofs.lemmas.Option.{slice_get-get_or}
use Rattle.gimli_lines_rows.specs.View.{View}
use Rattle.gimli_lines_write_unit.specs.SectionReads.{string_at}
use Rattle.gimli_lines_write_unit.specs.StringSections.{IsText, section_of, offset_of}
use Rattle.gimli_lines_write_unit.specs.FileTables.{Text, in_header, of_strings, of_line_strings, HasNoZero, HasBytes}
use Rattle.gimli_lines_write_unit.specs.HeaderTexts.{value_of_text}
use Rattle.gimli_lines_write_unit.specs.HeaderContents.{header_text, strings_after, line_strings_after, empty_text}
use Rattle.gimli_lines_write_unit.specs.LineStrings.{IsKnown, bytes_of_text}
use Rattle.gimli_lines_write_unit.specs.BytesAt.{values_at}
use Rattle.gimli_lines_write_unit.proofs.SectionTexts.{from_text, read_again, text_at_index}
use Rattle.gimli_lines_write_laws.specs.UnitReadBack.{IsBelow}
use Rattle.gimli_lines_write_laws.specs.ProgramReadBack.{bytes_if_read, text_read, Holds}

-- ---- lists

-- what is read of things one after the other
pub values_read : {S T A B : Type 0} (write : S → T) (string : T → List ℕ) (value : ℕ → T → A) (see : A → B)
    (built : S → B) (xs : List S) (first : ℕ) → All (λ x. (n : ℕ) → see (value n (write x)) ≡ built x) xs
    → map see (values_at string value first (map write xs)) ≡ map built xs
values_read write string value see built [] first all = refl
values_read write string value see built (x ∷ xs) first all =
    let next = first + length (string (write x)) in
    ap (λ b. b ∷ map see (values_at string value next (map write xs)))
    (All-head (λ y. (n : ℕ) → see (value n (write y)) ≡ built y) x xs all first)
    ∙ ap (λ bs. built x ∷ bs) (values_read write string value see built xs next
    (All-tail (λ y. (n : ℕ) → see (value n (write y)) ≡ built y) x xs all))

-- ---- texts by reference

-- the string at the offset of a text is that text
string_again : (texts : List (List ℕ)) → All IsText texts → (v : View) → Holds texts v → (i : ℕ) → i < length texts
    → bytes_if_read (string_at (offset_of texts i) v) ≡ slice_get texts i
string_again texts free v holds i within =
    let there = slice_get-get_or texts i [] within in
    ap bytes_if_read (read_again texts i (get_or texts i []) holds.0 v free there holds.1) ∙ sym there

-- a text begins within its section
offset_within : (texts : List (List ℕ)) (i : ℕ) → i < length texts → offset_of texts i < length (section_of texts)
offset_within texts i within =
    let t = get_or texts i [] in
    let rest = from_text texts i t [] (slice_get-get_or texts i [] within) in
    above (offset_of texts i) (length (section_of texts)) (length t) (length rest.0)
    (sym (length-drop (offset_of texts i) (section_of texts))
    ∙ ap (λ l. length (drop (offset_of texts i) l)) (sym (append-nil (section_of texts)))
    ∙ ap length rest.1 ∙ length-append t (0 ∷ rest.0))
  where
    above : (offset whole a b : ℕ) → whole - offset ≡ a + suc b → offset < whole
    above offset whole a b e = omega arith

-- ---- texts

module _ (strings line_strings : List (List ℕ)) where
  pub text_again : All IsText strings → All IsText line_strings → (str line_str : View) → Holds strings str
      → Holds line_strings line_str → (is_big : Bool) (first : ℕ) (t : Text) → IsKnown strings line_strings t
      → text_read str line_str (value_of_text is_big first (header_text strings line_strings t))
      ≡ bytes_of_text strings line_strings t
  text_again free line_free str line_str s l is_big first (in_header bytes) known = refl
  text_again free line_free str line_str s l is_big first (of_strings place) known =
      string_again strings free str s place known
  text_again free line_free str line_str s l is_big first (of_line_strings place) known =
      string_again line_strings line_free line_str l place known

  -- a reader that can hold the sections' lengths can hold its offset
  pub text_below : (limit : ℕ) → length (section_of strings) ≤ limit → length (section_of line_strings) ≤ limit
      → (t : Text) → IsKnown strings line_strings t → IsBelow limit (header_text strings line_strings t)
  text_below limit s l (in_header bytes) known = tt
  text_below limit s l (of_strings place) known = omega (arith, offset_within strings place known)
  text_below limit s l (of_line_strings place) known = omega (arith, offset_within line_strings place known)

  pub text_zero_free : (t : Text) → HasNoZero t → HasNoZero (header_text strings line_strings t)
  text_zero_free (in_header bytes) free = free
  text_zero_free (of_strings place) free = tt
  text_zero_free (of_line_strings place) free = tt

  pub text_filled : (t : Text) → HasBytes t → HasBytes (header_text strings line_strings t)
  text_filled (in_header bytes) filled = filled
  text_filled (of_strings place) filled = tt
  text_filled (of_line_strings place) filled = tt

-- the empty text that is written where a file has none
pub empty_is_empty : (strings line_strings : List (List ℕ)) (needed : Option Text)
    → bytes_of_text (strings_after needed strings) (line_strings_after needed line_strings)
    (empty_text strings line_strings needed) ≡ Some []
empty_is_empty strings line_strings None = refl
empty_is_empty strings line_strings (Some (in_header bytes)) = refl
empty_is_empty strings line_strings (Some (of_strings place)) = text_at_index strings []
empty_is_empty strings line_strings (Some (of_line_strings place)) = text_at_index line_strings []

pub empty_zero_free : (strings line_strings : List (List ℕ)) (needed : Option Text)
    → HasNoZero (empty_text strings line_strings needed)
empty_zero_free strings line_strings None = All-nil (λ b. b ≢ 0)
empty_zero_free strings line_strings (Some (in_header bytes)) = All-nil (λ b. b ≢ 0)
empty_zero_free strings line_strings (Some (of_strings place)) = tt
empty_zero_free strings line_strings (Some (of_line_strings place)) = tt
