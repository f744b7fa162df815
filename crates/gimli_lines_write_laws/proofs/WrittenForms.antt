-- A program that was written is one that a header can express.
use Rattle.std.proofs.Common.{◌≡◌, ℕ, Bool, true, false, cond, not, ◌&&◌, List, [], ◌∷◌, map, length, Option, Some, None, unwrap_or, Result, Ok, refl, sym, ap, subst, ◌∙◌, arith}
use Rattle.std.specs.Prelude.{All, nat_le}
use Rattle.std.proofs.lemmas.List.Elements.{All-nil, All-cons, All-head, All-tail, All-weaker, All-map}
use Rattle.gimli_lines_write_unit.specs.LineRules.{LineRules}
use Rattle.gimli_lines_write_unit.specs.LineEntry.{LineEntry}
use Rattle.gimli_lines_write_unit.specs.WriteError.{Error}
use Rattle.gimli_lines_write_unit.specs.Address.{Address}
use Rattle.gimli_lines_write_unit.specs.FileTables.{Text, in_header, of_strings, of_line_strings, File, Info, ProgramFiles}
use Rattle.gimli_lines_write_unit.specs.HeaderTexts.{form_of, form_in, form_in_version}
use Rattle.gimli_lines_write_unit.specs.EntryFields.{WrittenFile}
use Rattle.gimli_lines_write_unit.specs.HeaderSpelling.{path_form, source_form}
use Rattle.gimli_lines_write_unit.specs.declared.details.FileDetails.{FileDetails}
use Rattle.gimli_lines_write_unit.specs.HeaderContents.{header_text, listed_directories, records_source, source_text, header_files, header_tables, empty_form_of, empty_text, strings_after, line_strings_after}
use Rattle.gimli_lines_write_unit.specs.UnitBytes.{unit_bytes}
use Rattle.gimli_lines_write_unit.proofs.KnownTexts.{All-view}
use Rattle.gimli_lines_write_laws.specs.ExpressiblePrograms.{text_form, list_form, HasOneForm, sources_of, paths_of, IsExpressible}
use Rattle.gimli_lines_write_laws.proofs.TableBytes.{TextIs, FileIs, header_is}
use Rattle.gimli_lines_write_laws.proofs.UnitBytesAgain.{unit_is}

-- ---- forms don't depend on the tables

pub form_same : (s l : List (List ℕ)) (t : Text) → form_of (header_text s l t) ≡ text_form t
form_same s l (in_header bytes) = refl
form_same s l (of_strings place) = refl
form_same s l (of_line_strings place) = refl

pub first_form_same : (s l : List (List ℕ)) (ts : List Text) → form_in (map (header_text s l) ts)
    ≡ form_in (map (header_text [] []) ts)
first_form_same s l [] = refl
first_form_same s l (t ∷ ts) = form_same s l t

-- texts that were written in one form
one_form : (s l : List (List ℕ)) (version : ℕ) (ts : List Text)
    → All (λ w. form_of w ≡ cond (nat_le version 4) 0x08 (form_in (map (header_text s l) ts)))
    (map (header_text s l) ts)
    → HasOneForm version ts
one_form s l version ts all =
    All-weaker _ (λ t. text_form t ≡ list_form version ts)
    (λ t h. sym (form_same s l t) ∙ h ∙ ap (λ n. cond (nat_le version 4) 0x08 n) (first_form_same s l ts)) ts
    (All-view (λ w. form_of w ≡ cond (nat_le version 4) 0x08 (form_in (map (header_text s l) ts))) (header_text s l) ts
    all)

-- ---- the texts of files

pub paths_written : (s l : List (List ℕ)) (present : Bool) (empty : Text) (files : List File) (infos : List Info)
    → length infos ≡ length files
    → map (λ (f : WrittenFile). f.path) (header_files s l present empty files infos)
    ≡ map (header_text s l) (paths_of files)
paths_written s l present empty [] infos same = refl
paths_written s l present empty (f ∷ files) [] same = absurd (cc)
paths_written s l present empty (f ∷ files) (i ∷ infos) same =
    ap (λ ts. header_text s l f.path ∷ ts) (paths_written s l present empty files infos (omega (arith, same)))

pub sources_written : (s l : List (List ℕ)) (present : Bool) (empty : Text) (files : List File) (infos : List Info)
    → length infos ≡ length files
    → map (λ (f : WrittenFile). f.source) (header_files s l present empty files infos)
    ≡ map (λ (i : Info). source_text s l present empty i.source) infos
sources_written s l present empty [] [] same = refl
sources_written s l present empty [] (i ∷ infos) same = absurd (cc)
sources_written s l present empty (f ∷ files) [] same = absurd (cc)
sources_written s l present empty (f ∷ files) (i ∷ infos) same =
    ap (λ ts. source_text s l present empty i.source ∷ ts)
    (sources_written s l present empty files infos (omega (arith, same)))

-- what holds of the texts that are written holds of those of the files that have one
sources_all : (s l : List (List ℕ)) (empty : Text) (form : ℕ) (infos : List Info)
    → All (λ (i : Info). form_of (header_text s l (unwrap_or i.source empty)) ≡ form) infos
    → All (λ t. text_form t ≡ form) (sources_of infos)
sources_all s l empty form [] all = All-nil _
sources_all s l empty form (i ∷ infos) all =
    by i.source refl
    (sources_all s l empty form infos
    (All-tail (λ (j : Info). form_of (header_text s l (unwrap_or j.source empty)) ≡ form) i infos all))
  where
    here : form_of (header_text s l (unwrap_or i.source empty)) ≡ form
    here = All-head (λ (j : Info). form_of (header_text s l (unwrap_or j.source empty)) ≡ form) i infos all

    by : (o : Option Text) → i.source ≡ o → All (λ t. text_form t ≡ form) (sources_of infos)
        → All (λ t. text_form t ≡ form) (sources_of (i ∷ infos))
    by None is rest = rw is rest
    by (Some t) is rest =
        rw is (All-cons (λ u. text_form u ≡ form) t (sources_of infos)
        (sym (form_same s l t) ∙ (rw is at here)) rest)

-- all have one form, and so the first's
as_first : (form : ℕ) (ts : List Text) → All (λ t. text_form t ≡ form) ts
    → All (λ t. text_form t ≡ form_in (map (header_text [] []) ts)) ts
as_first form [] all = All-nil _
as_first form (t ∷ ts) all = λ k d h. all k d h ∙ sym (All-head (λ u. text_form u ≡ form) t ts all)

recorded : (a b : Bool) → (not a && b) ≡ true → (a ≡ false) × (b ≡ true)
recorded false true h = (refl, refl)
recorded false false h = absurd (cc)
recorded true b h = absurd (cc)

-- ---- programs

module _ (s l : List (List ℕ)) (rules : LineRules) (k : ProgramFiles) (d : FileDetails)
    (same : k.version ≡ rules.encoding.version) (counted : length k.infos ≡ length k.files) where
  sources_in_form : All (FileIs rules.encoding (header_tables s l k d).details (path_form (header_tables s l k d))
      (source_form (header_tables s l k d))) (header_tables s l k d).files → records_source k.version d ≡ true
      → HasOneForm k.version (sources_of k.infos)
  sources_in_form files present_is =
      let t = header_tables s l k d in
      let s' = strings_after (empty_form_of k d) s in
      let l' = line_strings_after (empty_form_of k d) l in
      let empty = empty_text s l (empty_form_of k d) in
      let form = source_form t in
      let flags = recorded (nat_le k.version 4) d.has_source present_is in
      let InForm : Text → Type 0 = λ w. form_of w ≡ form in
      let written : All InForm (map (λ (f : WrittenFile). f.source) t.files) =
      All-map InForm (λ (f : WrittenFile). f.source) t.files
      (All-weaker (FileIs rules.encoding t.details (path_form t) (source_form t)) (λ (f : WrittenFile). InForm f.source)
      (λ f h. (h.1 (ap (λ v. nat_le v 4) (sym same) ∙ flags.0) flags.1).0) t.files files) in
      let sources : All InForm (map (λ (i : Info). source_text s' l' (records_source k.version d) empty i.source)
      k.infos) =
      subst (All InForm) (sources_written s' l' (records_source k.version d) empty k.files k.infos counted) written in
      let present : All InForm (map (λ (i : Info). header_text s' l' (unwrap_or i.source empty)) k.infos) =
      subst (λ b. All InForm (map (λ (i : Info). source_text s' l' b empty i.source) k.infos)) present_is sources in
      rw flags.0 (as_first form (sources_of k.infos) (sources_all s' l' empty form k.infos
      (All-view InForm (λ (i : Info). header_text s' l' (unwrap_or i.source empty)) k.infos present)))

  pub expressible_if_written : (address_of : Address → Result ℕ Error) (is_big : Bool) (entries : List LineEntry)
      (bytes : List ℕ) → unit_bytes address_of is_big rules (header_tables s l k d) entries ≡ Ok bytes
      → IsExpressible rules k d
  expressible_if_written address_of is_big entries bytes e =
      let t = header_tables s l k d in
      let s' = strings_after (empty_form_of k d) s in
      let l' = line_strings_after (empty_form_of k d) l in
      let empty = empty_text s l (empty_form_of k d) in
      let present = records_source k.version d in
      let parts = unit_is address_of is_big rules t entries bytes e in
      let tables = header_is rules.encoding t parts.1.none_refused in
      let Written : ℕ → List Text → Type 0 = λ v ts.
      All (λ w. form_of w ≡ cond (nat_le v 4) 0x08 (form_in ts)) ts in
      let paths : Written k.version (map (λ (f : WrittenFile). f.path) t.files) =
      subst (λ v. Written v (map (λ (f : WrittenFile). f.path) t.files)) (sym same)
      (All-map (λ w. form_of w ≡ cond (nat_le rules.encoding.version 4) 0x08 (path_form t))
      (λ (f : WrittenFile). f.path) t.files
      (All-weaker (FileIs rules.encoding t.details (path_form t) (source_form t))
      (λ (f : WrittenFile). form_of f.path ≡ cond (nat_le rules.encoding.version 4) 0x08 (path_form t))
      (λ f h. h.0.0) t.files tables.1)) in
      let directories : Written k.version t.directories =
      subst (λ v. Written v t.directories) (sym same)
      (All-weaker (TextIs rules.encoding (form_in_version rules.encoding.version (form_in t.directories)))
      (λ w. form_of w ≡ cond (nat_le rules.encoding.version 4) 0x08 (form_in t.directories)) (λ w h. h.0) t.directories
      tables.0) in
      record {
        first_version = parts.0.0;
        last_version = parts.0.1;
        operations = parts.0.2;
        directories = one_form s' l' k.version (listed_directories k.version k.directories) directories;
        paths = one_form s' l' k.version (paths_of k.files)
            (subst (Written k.version) (paths_written s' l' present empty k.files k.infos counted) paths);
        sources = λ present_is. sources_in_form tables.1 present_is;
      }
