-- Keys that are equal are seen as the same things, and an inserted key is found where it is seen.
use Rattle.std.proofs.Common.{◌≡◌, ◌+◌, Bool, true, false, cond, not, ◌||◌, List, [], ◌∷◌, ◌++◌, map, refl, sym, ap, ◌∙◌}
use Rattle.std.specs.List.{list_any, position_or_len}
use Rattle.std.proofs.lemmas.List.{map-append}
use Rattle.indexmap.specs.IndexSet.{insert_key}
use Rattle.gimli_lines_write_tables.specs.declared.line_string.LineString.{LineString}
use Rattle.gimli_lines_write_tables.specs.declared.line_string.LineString.TheVariants.{String, StringRef, LineStringRef}
use Rattle.gimli_lines_write_tables.specs.contracts.line_string.LineStringPartialEq.TheImpl as equality
use Rattle.std.specs.Prelude.{◌&&◌, nat_eq}
use Rattle.gimli_lines_write_tables.specs.declared.file.FileKey.{FileKey}
use Rattle.gimli_lines_write_tables.specs.contracts.file.FileKeyPartialEq.TheImpl as file_equality
use Rattle.gimli_lines_write_tables.specs.FileTables.{text_of, is_same, file_of, is_same_file}
use Rattle.gimli_lines_write_tables.specs.StringSections.{with_item, item_index}

pub equal_is_same : (a b : LineString) → equality.eq-value.it a b ≡ is_same (text_of a) (text_of b)
equal_is_same (String a) (String b) = refl
equal_is_same (String a) (StringRef b) = refl
equal_is_same (String a) (LineStringRef b) = refl
equal_is_same (StringRef a) (String b) = refl
equal_is_same (StringRef a) (StringRef b) = refl
equal_is_same (StringRef a) (LineStringRef b) = refl
equal_is_same (LineStringRef a) (String b) = refl
equal_is_same (LineStringRef a) (StringRef b) = refl
equal_is_same (LineStringRef a) (LineStringRef b) = refl

module _ {K A : Type 0} (eq : K → K → Bool) (see : K → A) (same : A → A → Bool)
    (agrees : (a b : K) → eq a b ≡ same (see a) (see b)) where
  pub any_seen : (k : K) (ks : List K) → list_any (eq k) ks ≡ list_any (same (see k)) (map see ks)
  any_seen k [] = refl
  any_seen k (x ∷ ks) =
      ap (λ b. b || list_any (eq k) ks) (agrees k x) ∙ ap (λ b. same (see k) (see x) || b) (any_seen k ks)

  pub place_seen : (k : K) (ks : List K) → position_or_len (eq k) ks ≡ item_index same (map see ks) (see k)
  place_seen k [] = refl
  place_seen k (x ∷ ks) =
      ap (λ b. cond (not b) (1 + position_or_len (eq k) ks) 0) (agrees k x)
      ∙ ap (λ n. cond (not (same (see k) (see x))) (1 + n) 0) (place_seen k ks)

  pub inserted : (k : K) (ks : List K) → map see (insert_key eq ks k) ≡ with_item same (map see ks) (see k)
  inserted k ks = by (list_any (eq k) ks) refl
    where
      by : (b : Bool) → list_any (eq k) ks ≡ b → map see (cond b ks (ks ++ k ∷ []))
          ≡ with_item same (map see ks) (see k)
      by true e = ap (λ b. cond b (map see ks) (map see ks ++ see k ∷ [])) (sym e ∙ any_seen k ks)
      by false e =
          map-append see ks (k ∷ []) ∙ ap (λ b. cond b (map see ks) (map see ks ++ see k ∷ [])) (sym e ∙ any_seen k ks)

pub equal_is_same_file : (a b : FileKey) → file_equality.eq-value.it a b ≡ is_same_file (file_of a) (file_of b)
equal_is_same_file a b = ap (λ c. c && nat_eq a.directory.0 b.directory.0) (equal_is_same a.path b.path)

pub with_new : {A : Type 0} (same : A → A → Bool) (things : List A) (x : A) → list_any (same x) things ≡ false
    → with_item same things x ≡ things ++ x ∷ []
with_new same things x h = ap (λ b. cond b things (things ++ x ∷ [])) h

pub with_old : {A : Type 0} (same : A → A → Bool) (things : List A) (x : A) → list_any (same x) things ≡ true
    → with_item same things x ≡ things
with_old same things x h = ap (λ b. cond b things (things ++ x ∷ [])) h
