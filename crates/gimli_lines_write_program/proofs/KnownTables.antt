-- The tests of texts hold exactly where their tables have them.
use Rattle.std.proofs.Common.{◌≡◌, ℕ, ◌<◌, nat_lt, Bool, true, false, ◌&&◌, ◌||◌, not, List, [], ◌∷◌, length, Option, Some, None, unwrap_or, refl}
use Rattle.std.specs.Prelude.{All, ◌↔◌}
use Rattle.std.specs.List.{list_all}
use Rattle.std.proofs.lemmas.Bool.{and_parts, ltb-true, lt-ltb}
use Rattle.std.proofs.lemmas.List.Elements.{All-nil, All-cons, All-head, All-tail}
use Rattle.gimli_lines_write_laws.specs.FileTables.{Text, in_header, of_strings, of_line_strings, File, Info, ProgramFiles}
use Rattle.gimli_lines_write_laws.specs.FileDetails.{FileDetails}
use Rattle.gimli_lines_write_laws.specs.HeaderContents.{AllKnown, records_source}
use Rattle.gimli_lines_write_laws.specs.LineStrings.{IsKnown}
use Rattle.gimli_lines_write_program.specs.TextTests.{is_known, is_source_known, has_texts}

-- ---- lists

pub true_both : (a b : Bool) → a ≡ true → b ≡ true → (a && b) ≡ true
true_both true true p q = refl
true_both true false p q = absurd (cc)
true_both false b p q = absurd (cc)

-- a test that decides a fact of each thing decides it of all
pub list_all_decides : {A : Type 0} (test : A → Bool) (P : A → Type 0) → ((x : A) → test x ≡ true ↔ P x) → (xs : List A)
    → list_all test xs ≡ true ↔ All P xs
list_all_decides test P each [] = ((λ h. All-nil P), λ h. refl)
list_all_decides test P each (x ∷ xs) =
    let rest = list_all_decides test P each xs in (
      (λ h. let b = and_parts (test x) (list_all test xs) h in
          All-cons P x xs ((each x).0 b.0) (rest.0 b.1)),
      (λ all. true_both (test x) (list_all test xs) ((each x).1 (All-head P x xs all)) (rest.1 (All-tail P x xs all))),
    )

-- ---- texts

module _ (s l : List (List ℕ)) where
  known_decides : (t : Text) → is_known s l t ≡ true ↔ IsKnown s l t
  known_decides (in_header bytes) = ((λ h. tt), λ h. refl)
  known_decides (of_strings place) = (ltb-true place (length s), lt_true place (length s))
    where
      lt_true : (a b : ℕ) → a < b → nat_lt a b ≡ true
      lt_true a b h = lt-ltb a b h
  known_decides (of_line_strings place) = (ltb-true place (length l), lt_true place (length l))
    where
      lt_true : (a b : ℕ) → a < b → nat_lt a b ≡ true
      lt_true a b h = lt-ltb a b h

  source_decides : (o : Option Text) → is_source_known s l o ≡ true ↔ IsKnown s l (unwrap_or o (in_header []))
  source_decides (Some t) = known_decides t
  source_decides None = ((λ h. tt), λ h. refl)

  sources_decide : (b : Bool) (infos : List Info)
      → (not b || list_all (λ (i : Info). is_source_known s l i.source) infos) ≡ true
      ↔ (b ≡ true → All (λ (i : Info). IsKnown s l (unwrap_or i.source (in_header []))) infos)
  sources_decide true infos =
      let all = list_all_decides (λ (i : Info). is_source_known s l i.source)
      (λ (i : Info). IsKnown s l (unwrap_or i.source (in_header []))) (λ i. source_decides i.source) infos in
      ((λ h present. all.0 h), λ h. all.1 (h refl))
  sources_decide false infos = ((λ h present. absurd (cc)), λ h. refl)

  pub tables_decide : (k : ProgramFiles) (d : FileDetails) → has_texts s l k d ≡ true ↔ AllKnown s l k d (in_header [])
  tables_decide k d =
      let directories = list_all_decides (is_known s l) (IsKnown s l) known_decides k.directories in
      let paths = list_all_decides (λ (f : File). is_known s l f.path) (λ (f : File). IsKnown s l f.path)
      (λ f. known_decides f.path) k.files in
      let sources = sources_decide (records_source k.version d) k.infos in
      let a = list_all (is_known s l) k.directories in
      let b = list_all (λ (f : File). is_known s l f.path) k.files in
      let c = not (records_source k.version d) || list_all (λ (i : Info). is_source_known s l i.source) k.infos in (
        (λ h. let p = and_parts (a && b) c h in
            let q = and_parts a b p.0 in
            record { directories = directories.0 q.0; paths = paths.0 q.1; sources = sources.0 p.1 }),
        (λ known. true_both (a && b) c (true_both a b (directories.1 known.directories) (paths.1 known.paths))
            (sources.1 known.sources)),
      )
