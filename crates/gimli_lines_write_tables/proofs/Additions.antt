-- What is kept stays so as directories and files are added.
use Rattle.std.proofs.Common.{◌≡◌, ◌≢◌, ℕ, ◌+◌, ◌<◌, ◌≤◌, Bool, true, false, cond, not, ◌||◌, List, [], ◌∷◌, ◌++◌, drop, length, refl, sym, ap, ◌∙◌, arith}
use Rattle.std.specs.Prelude.{All}
use Rattle.std.specs.List.{list_any, position_or_len}
use Rattle.std.proofs.lemmas.List.{length-append}
use Rattle.std.proofs.lemmas.List.Elements.{All-push, All-nil, All-weaker}
use Rattle.gimli_lines_write_tables.specs.FileTables.{Text, File, Info, IsConsistent, HasNoZero, HasBytes, is_same}
use Rattle.gimli_lines_write_tables.specs.StringSections.{with_item, item_index}
use Rattle.gimli_lines_write_tables.proofs.TextTableLemmas.{index-none}

module _ {A : Type 0} (P : A → Type 0) (same : A → A → Bool) where
  pub All-with : (things : List A) (x : A) → All P things → P x → All P (with_item same things x)
  All-with things x all is = by (list_any (same x) things)
    where
      by : (b : Bool) → All P (cond b things (things ++ x ∷ []))
      by true = all
      by false = All-push P things x all is

  -- after the first
  pub All-with-later : (things : List A) (x : A) → All P (drop 1 things) → (things ≢ [] → P x)
      → All P (drop 1 (with_item same things x))
  All-with-later [] x all is = All-nil P
  All-with-later (y ∷ things) x all is = by (list_any (same x) (y ∷ things))
    where
      by : (b : Bool) → All P (drop 1 (cond b (y ∷ things) (y ∷ things ++ x ∷ [])))
      by true = all
      by false = All-push P things x all (is (λ e. absurd (cc)))

-- ---- places

found_within : {A : Type 0} (p : A → Bool) (xs : List A) → list_any p xs ≡ true → position_or_len p xs < length xs
found_within p [] h = absurd (cc)
found_within p (x ∷ xs) h = by (p x) h (found_within p xs)
  where
    by : (b : Bool) → (b || list_any p xs) ≡ true → (list_any p xs ≡ true → position_or_len p xs < length xs)
        → cond (not b) (1 + position_or_len p xs) 0 < length (x ∷ xs)
    by true g rest = omega arith
    by false g rest = let t = rest g in omega arith

-- what was added has a place
pub place_within : {A : Type 0} (same : A → A → Bool) (things : List A) (x : A)
    → item_index same things x < length (with_item same things x)
place_within same things x = by (list_any (same x) things) refl
  where
    by : (b : Bool) → list_any (same x) things ≡ b
        → position_or_len (same x) things < length (cond b things (things ++ x ∷ []))
    by true is = found_within (same x) things is
    by false is = omega (arith, length-append things (x ∷ []), index-none (same x) things is)

-- and none is lost
with_item-longer : {A : Type 0} (same : A → A → Bool) (things : List A) (x : A)
    → length things ≤ length (with_item same things x)
with_item-longer same things x = by (list_any (same x) things)
  where
    by : (b : Bool) → length things ≤ length (cond b things (things ++ x ∷ []))
    by true = omega arith
    by false = omega (arith, length-append things (x ∷ []))

-- ---- tables

pub consistent_with_directory : (version : ℕ) (directories : List Text) (files : List File) (infos : List Info)
    (t : Text) → IsConsistent version directories files infos → HasNoZero t
    → (version ≤ 4 → directories ≢ [] → HasBytes t)
    → IsConsistent version (with_item is_same directories t) files infos
consistent_with_directory version directories files infos t consistent free filled = record {
  same_length = consistent.same_length;
  directories_zero_free = All-with HasNoZero is_same directories t consistent.directories_zero_free free;
  paths_zero_free = consistent.paths_zero_free;
  in_directories = All-weaker (λ (f : File). f.directory < length directories)
      (λ (f : File). f.directory < length (with_item is_same directories t))
      (λ f h. longer f.directory h) files consistent.in_directories;
  directories_not_empty = λ old.
      All-with-later HasBytes is_same directories t (consistent.directories_not_empty old) (filled old);
  paths_not_empty = consistent.paths_not_empty;
}
  where
    longer : (n : ℕ) → n < length directories → n < length (with_item is_same directories t)
    longer n h = omega (arith, h, with_item-longer is_same directories t)

abbrev PathFree : File → Type 0
PathFree f = HasNoZero f.path

abbrev PathFilled : File → Type 0
PathFilled f = HasBytes f.path

pub consistent_with_file : (version : ℕ) (directories : List Text) (files : List File) (infos : List Info) (f : File)
    (info : Info) → IsConsistent version directories files infos → HasNoZero f.path
    → f.directory < length directories → (version ≤ 4 → HasBytes f.path)
    → IsConsistent version directories (files ++ f ∷ []) (infos ++ info ∷ [])
consistent_with_file version directories files infos f info consistent free within filled = record {
  same_length =
      length-append infos (info ∷ []) ∙ ap (λ n. n + 1) consistent.same_length
      ∙ sym (length-append files (f ∷ []));
  directories_zero_free = consistent.directories_zero_free;
  paths_zero_free = All-push PathFree files f consistent.paths_zero_free free;
  in_directories = All-push (λ (f : File). f.directory < length directories) files f consistent.in_directories within;
  directories_not_empty = consistent.directories_not_empty;
  paths_not_empty = λ old. All-push PathFilled files f (consistent.paths_not_empty old) (filled old);
}
