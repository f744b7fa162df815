-- The tables that gained the empty text still have every text, and that one.
use Rattle.std.proofs.Common.{◌≡◌, ℕ, ◌<◌, ◌≤◌, Bool, true, false, cond, List, [], ◌∷◌, ◌++◌, length, Option, Some, None, unwrap_or, inl, inr, arith}
use Rattle.std.specs.List.{list_any}
use Rattle.std.proofs.lemmas.List.{length-append}
use Rattle.std.proofs.lemmas.Option.{slice_get_within}
use Rattle.std.proofs.lemmas.List.Elements.{All-weaker}
use Rattle.gimli_lines_write_tables.specs.StringSections.{same_bytes, with_text, text_index}
use Rattle.gimli_lines_write_tables.specs.FileTables.{Text, in_header, of_strings, of_line_strings, File, Info, ProgramFiles}
use Rattle.gimli_lines_write_unit.specs.declared.details.FileDetails.{FileDetails}
use Rattle.gimli_lines_write_unit.specs.HeaderContents.{AllKnown, strings_after, line_strings_after, empty_text, empty_form_of, GainsEmpty}
use Rattle.gimli_lines_write_tables.specs.LineStrings.{IsKnown}
use Rattle.gimli_lines_write_tables.proofs.SectionTexts.{text_at_index}

with_text-longer : (texts : List (List ℕ)) (t : List ℕ) → length texts ≤ length (with_text texts t)
with_text-longer texts t = by (list_any (same_bytes t) texts)
  where
    by : (b : Bool) → length texts ≤ length (cond b texts (texts ++ t ∷ []))
    by true = omega arith
    by false = omega (arith, length-append texts (t ∷ []))

strings-longer : (needed : Option Text) (strings : List (List ℕ))
    → length strings ≤ length (strings_after needed strings)
strings-longer None strings = omega arith
strings-longer (Some (in_header bytes)) strings = omega arith
strings-longer (Some (of_strings place)) strings = with_text-longer strings []
strings-longer (Some (of_line_strings place)) strings = omega arith

line_strings-longer : (needed : Option Text) (strings : List (List ℕ))
    → length strings ≤ length (line_strings_after needed strings)
line_strings-longer None strings = omega arith
line_strings-longer (Some (in_header bytes)) strings = omega arith
line_strings-longer (Some (of_strings place)) strings = omega arith
line_strings-longer (Some (of_line_strings place)) strings = with_text-longer strings []

known_stays : (s l s' l' : List (List ℕ)) → length s ≤ length s' → length l ≤ length l' → (t : Text) → IsKnown s l t
    → IsKnown s' l' t
known_stays s l s' l' p q (in_header bytes) known = tt
known_stays s l s' l' p q (of_strings place) known = omega arith
known_stays s l s' l' p q (of_line_strings place) known = omega arith

place_within : (texts : List (List ℕ)) (t : List ℕ) → text_index texts t < length (with_text texts t)
place_within texts t = slice_get_within (with_text texts t) (text_index texts t) t (text_at_index texts t)

empty_known : (s l : List (List ℕ)) (needed : Option Text)
    → IsKnown (strings_after needed s) (line_strings_after needed l) (empty_text s l needed)
empty_known s l None = tt
empty_known s l (Some (in_header bytes)) = tt
empty_known s l (Some (of_strings place)) = place_within s []
empty_known s l (Some (of_line_strings place)) = place_within l []

-- what was known is known after the empty text, which is there where there is none
pub known_with_longer : (s l : List (List ℕ)) (k : ProgramFiles) (d : FileDetails) → AllKnown s l k d (in_header [])
    → AllKnown (strings_after (empty_form_of k d) s) (line_strings_after (empty_form_of k d) l) k d
    (empty_text s l (empty_form_of k d))
known_with_longer s l k d known = record {
  directories = All-weaker (IsKnown s l)
      (IsKnown (strings_after (empty_form_of k d) s) (line_strings_after (empty_form_of k d) l)) (λ t h. stays t h)
      k.directories known.directories;
  paths = All-weaker (λ (f : File). IsKnown s l f.path)
      (λ (f : File). IsKnown (strings_after (empty_form_of k d) s) (line_strings_after (empty_form_of k d) l) f.path)
      (λ f h. stays f.path h) k.files known.paths;
  sources = λ present. All-weaker (λ (i : Info). IsKnown s l (unwrap_or i.source (in_header [])))
      (λ (i : Info). IsKnown (strings_after (empty_form_of k d) s) (line_strings_after (empty_form_of k d) l)
      (unwrap_or i.source (empty_text s l (empty_form_of k d))))
      (λ i h. source i.source h) k.infos (known.sources present);
}
  where
    stays : (t : Text) → IsKnown s l t → IsKnown (strings_after (empty_form_of k d) s)
        (line_strings_after (empty_form_of k d) l) t
    stays = known_stays s l (strings_after (empty_form_of k d) s) (line_strings_after (empty_form_of k d) l)
        (strings-longer (empty_form_of k d) s) (line_strings-longer (empty_form_of k d) l)

    source : (o : Option Text) → IsKnown s l (unwrap_or o (in_header []))
        → IsKnown (strings_after (empty_form_of k d) s) (line_strings_after (empty_form_of k d) l)
        (unwrap_or o (empty_text s l (empty_form_of k d)))
    source (Some t) h = stays t h
    source None h = empty_known s l (empty_form_of k d)

-- a table that gained the empty text or didn't
pub strings_gain : (needed : Option Text) (strings new : List (List ℕ)) → new ≡ strings_after needed strings
    → GainsEmpty strings new
strings_gain None strings new is = inl is
strings_gain (Some (in_header bytes)) strings new is = inl is
strings_gain (Some (of_strings place)) strings new is = inr is
strings_gain (Some (of_line_strings place)) strings new is = inl is

pub line_strings_gain : (needed : Option Text) (strings new : List (List ℕ)) → new ≡ line_strings_after needed strings
    → GainsEmpty strings new
line_strings_gain None strings new is = inl is
line_strings_gain (Some (in_header bytes)) strings new is = inl is
line_strings_gain (Some (of_strings place)) strings new is = inl is
line_strings_gain (Some (of_line_strings place)) strings new is = inr is

-- either table
pub ruleset gains = (strings_gain, line_strings_gain)
