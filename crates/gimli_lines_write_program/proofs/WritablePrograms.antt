-- The test of programs that can be written holds exactly of those that a header can express.
use Rattle.std.proofs.Common.{◌≡◌, ℕ, ◌≤◌, Bool, true, false, cond, ◌&&◌, ◌||◌, not, List, Option, Some, None, refl, sym, ap, subst, arith}
use Rattle.std.specs.Prelude.{All, ◌↔◌, ◌==◌, nat_le}
use Rattle.std.specs.Option.{IfSome}
use Rattle.std.proofs.lemmas.Bool.{and_parts, leb-true, leb-false, le-leb, eqb-true, eq-eqb}
use Rattle.std.proofs.lemmas.List.Folds.{list_all-map}
use Rattle.gimli_lines_write_laws.specs.FileTables.{Text, File, Info}
use Rattle.gimli_lines_write_laws.specs.HeaderContents.{listed_directories, first_source, records_source}
use Rattle.gimli_lines_write_laws.specs.ExpressiblePrograms.{text_form, list_form, HasOneForm, sources_of, paths_of}
use Rattle.gimli_lines_write_laws.proofs.ExpressedPrograms.{first_form_is, each_source, all_sources}
use Rattle.gimli_lines_write_program.specs.BuiltPrograms.{Program, CanBeWritten}
use Rattle.gimli_lines_write_program.specs.TextTests.{has_texts}
use Rattle.gimli_lines_write_program.specs.FormTests.{needed_form, have_form, have_paths_of_form, source_has_form, have_sources_of_form, has_version, has_forms, is_writable}
use Rattle.gimli_lines_write_program.proofs.KnownTables.{true_both, list_all_decides, tables_decide}

-- ---- numbers

same_decides : (a b : ℕ) → (a == b) ≡ true ↔ a ≡ b
same_decides a b = (eqb-true a b, eq-eqb a b)

operations_decide : (v n : ℕ) → (nat_le 4 v || nat_le n 1) ≡ true ↔ (v ≤ 3 → n ≤ 1)
operations_decide v n = (there (nat_le 4 v) (nat_le n 1) refl refl, back (nat_le 4 v) (nat_le n 1) refl refl)
  where
    there : (a b : Bool) → nat_le 4 v ≡ a → nat_le n 1 ≡ b → (a || b) ≡ true → v ≤ 3 → n ≤ 1
    there true b p q h old = absurd (omega (arith, leb-true 4 v p))
    there false true p q h old = leb-true n 1 q
    there false false p q h old = absurd (cc)

    back : (a b : Bool) → nat_le 4 v ≡ a → nat_le n 1 ≡ b → (v ≤ 3 → n ≤ 1) → (a || b) ≡ true
    back true b p q h = refl
    back false true p q h = refl
    back false false p q h =
        absurd (omega (arith, leb-false n 1 q, h (omega (arith, leb-false 4 v p))))

-- ---- forms

forms_same : (form : ℕ) (ts : List Text) → have_form form ts ≡ true ↔ All (λ t. text_form t ≡ form) ts
forms_same form ts =
    list_all_decides (λ t. text_form t == form) (λ t. text_form t ≡ form) (λ t. same_decides (text_form t) form) ts

paths_same : (form : ℕ) (files : List File)
    → have_paths_of_form form files ≡ true ↔ All (λ t. text_form t ≡ form) (paths_of files)
paths_same form files =
    subst (λ b. b ≡ true ↔ All (λ t. text_form t ≡ form) (paths_of files))
    (list_all-map (λ t. text_form t == form) (λ (f : File). f.path) files) (forms_same form (paths_of files))

source_decides : (form : ℕ) (o : Option Text) → source_has_form form o ≡ true ↔ IfSome o (λ t. text_form t ≡ form)
source_decides form (Some t) = same_decides (text_form t) form
source_decides form None = ((λ h. tt), λ h. refl)

-- the form of files' texts is that of the first that there is
sources_form : (version : ℕ) (infos : List Info) → needed_form version (first_source infos)
    ≡ list_form version (sources_of infos)
sources_form version infos = ap (λ n. cond (nat_le version 4) 0x08 n) (sym (first_form_is infos))

sources_same : (version : ℕ) (infos : List Info)
    → have_sources_of_form (needed_form version (first_source infos)) infos ≡ true
    ↔ HasOneForm version (sources_of infos)
sources_same version infos =
    let form = needed_form version (first_source infos) in
    let each = list_all_decides (λ (i : Info). source_has_form form i.source)
    (λ (i : Info). IfSome i.source (λ t. text_form t ≡ form)) (λ i. source_decides form i.source) infos in (
      (λ h. subst (λ n. All (λ t. text_form t ≡ n) (sources_of infos)) (sources_form version infos)
          (all_sources (λ t. text_form t ≡ form) infos (each.0 h))),
      (λ h. each.1 (each_source (λ t. text_form t ≡ form) infos
          (subst (λ n. All (λ t. text_form t ≡ n) (sources_of infos)) (sym (sources_form version infos)) h))),
    )

-- where texts of files are recorded
if_present : {P : Type 0} (b c : Bool) → c ≡ true ↔ P → (not b || c) ≡ true ↔ (b ≡ true → P)
if_present true c h = ((λ k present. h.0 k), λ k. h.1 (k refl))
if_present false c h = ((λ k present. absurd (cc)), λ k. refl)

-- ---- programs

pub writable_decides : (s l : List (List ℕ)) (p : Program) → is_writable s l p ≡ true ↔ CanBeWritten s l p
writable_decides s l p =
    let rules = p.rows.rules in
    let k = p.tables in
    let d = p.details in
    let v = rules.encoding.version in
    let n = rules.line_encoding.maximum_operations_per_instruction in
    let texts = tables_decide s l k d in
    let operations = operations_decide v n in
    let listed = listed_directories k.version k.directories in
    let directories = forms_same (list_form k.version listed) listed in
    let paths = paths_same (list_form k.version (paths_of k.files)) k.files in
    let sources = if_present (records_source k.version d) _ (sources_same k.version k.infos) in
    let some = not p.is_none in
    let low = nat_le 2 v in
    let high = nat_le v 5 in
    let few = nat_le 4 v || nat_le n 1 in
    let a = have_form (list_form k.version listed) listed in
    let b = have_paths_of_form (list_form k.version (paths_of k.files)) k.files in
    let c = not (records_source k.version d)
    || have_sources_of_form (needed_form k.version (first_source k.infos)) k.infos in (
      (λ h. let forms = and_parts (some && has_texts s l k d && has_version rules) (has_forms k d) h in
          let version = and_parts (some && has_texts s l k d) (has_version rules) forms.0 in
          let first = and_parts some (has_texts s l k d) version.0 in
          let parts = and_parts (a && b) c forms.1 in
          let lists = and_parts a b parts.0 in
          let range = and_parts (low && high) few version.1 in
          let ends = and_parts low high range.0 in
          record {
            is_some = is_some_if p.is_none first.0;
            texts = texts.0 first.1;
            expressible = record {
              first_version = leb-true 2 v ends.0;
              last_version = leb-true v 5 ends.1;
              operations = operations.0 range.1;
              directories = directories.0 lists.0;
              paths = paths.0 lists.1;
              sources = sources.0 parts.1;
            };
          }),
      (λ can. true_both (some && has_texts s l k d && has_version rules) (has_forms k d)
          (true_both (some && has_texts s l k d) (has_version rules)
          (true_both some (has_texts s l k d) (some_if p.is_none can.is_some) (texts.1 can.texts))
          (true_both (low && high) few
          (true_both low high (le-leb 2 v can.expressible.first_version) (le-leb v 5 can.expressible.last_version))
          (operations.1 can.expressible.operations)))
          (true_both (a && b) c
          (true_both a b (directories.1 can.expressible.directories) (paths.1 can.expressible.paths))
          (sources.1 can.expressible.sources))),
    )
  where
    is_some_if : (none : Bool) → not none ≡ true → none ≡ false
    is_some_if true h = absurd (cc)
    is_some_if false h = refl

    some_if : (none : Bool) → none ≡ false → not none ≡ true
    some_if true h = absurd (cc)
    some_if false h = refl
