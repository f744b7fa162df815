-- A program that a header can express is refused only where a number is too large, or where the writer refuses an
-- address.
use Rattle.std.proofs.Common.{◌≡◌, ◌⊎◌, inl, inr, ℕ, ◌≤◌, ◌^◌, nat_lt, nat_le, Bool, true, false, cond, ◌&&◌, List, [], ◌∷◌, ◌++◌, map, length, get_or, Option, Some, None, unwrap_or, Result, Ok, Err, refl, sym, ap, subst, ◌∙◌, arith}
use Rattle.std.specs.Prelude.{All, flat_map, is_none, if◌then◌else◌}
use Rattle.std.specs.List.{list_any}
use Rattle.std.specs.Option.{IfSome}
use Rattle.std.proofs.lemmas.Bool.{eq-eqb, le-ltb, ltb-true}
use Rattle.std.proofs.lemmas.List.Elements.{All-nil, All-cons, All-head, All-tail, All-append, All-weaker, All-map}
use Rattle.std.proofs.lemmas.List.Folds.{list_any_at}
use Rattle.gimli_lines_write_unit.specs.Encoding.{Encoding}
use Rattle.gimli_lines_write_unit.specs.Format.{Format}
use Rattle.gimli_lines_write_unit.specs.Format.TheVariants.{Dwarf32, Dwarf64}
use Rattle.gimli_lines_write_unit.specs.FormatSizes.{word_size}
use Rattle.gimli_lines_write_unit.specs.Fixed.{number_bytes}
use Rattle.gimli_lines_write_unit.specs.WriteError.{Error}
use Rattle.gimli_lines_write_unit.specs.WriteError.TheVariants.{ValueTooLarge, InitialLengthOverflow, NeedVersion}
use Rattle.gimli_lines_write_unit.specs.NumberBytes.{bytes_in_width, length_bytes}
use Rattle.gimli_lines_write_unit.specs.EntryBytes.{join_bytes, entries_bytes}
use Rattle.gimli_lines_write_unit.specs.HeaderTexts.{form_of, form_in, form_in_version}
use Rattle.gimli_lines_write_unit.specs.HeaderBytes.{bytes_or_refusal, mismatch, offset_refusals, reference_refusals, text_refusals, directories_refusals, file_refusals, files_refusals, header_refusals, header_bytes}
use Rattle.gimli_lines_write_unit.specs.UnitBytes.{body_bytes, with_length, unit_with_length, unit_bytes}
use Rattle.gimli_lines_write_unit.specs.EntryFields.{WrittenFile}
use Rattle.gimli_lines_write_unit.specs.HeaderSpelling.{Tables, path_form, source_form, spelled_header}
use Rattle.gimli_lines_write_unit.specs.LineRules.{LineRules}
use Rattle.gimli_lines_write_unit.specs.LineEntry.{LineEntry}
use Rattle.gimli_lines_write_unit.specs.Address.{Address}
use Rattle.gimli_lines_write_unit.specs.BuiltRows.{first_row}
use Rattle.gimli_lines_write_unit.specs.FileTables.{Text, in_header, of_strings, of_line_strings, Info, ProgramFiles}
use Rattle.gimli_lines_write_unit.specs.HeaderContents.{header_text, listed_directories, records_source, source_text, header_tables, first_source, empty_form_of, empty_text, strings_after, line_strings_after}
use Rattle.gimli_lines_write_unit.specs.declared.details.FileDetails.{FileDetails}
use Rattle.gimli_lines_write_unit.proofs.RefusedBytes.{word_is}
use Rattle.gimli_lines_write_unit.proofs.KnownTexts.{All-view}
use Rattle.gimli_lines_write_laws.proofs.WrittenForms.{form_same, first_form_same, paths_written, sources_written}
use Rattle.gimli_lines_write_laws.specs.ExpressiblePrograms.{text_form, list_form, HasOneForm, sources_of, paths_of, IsExpressible, IsTooLarge}

-- ---- refusals

-- each refusal is one of a kind
abbrev pub Refuses : (Error → Type 0) → Result (List ℕ) Error → Type 0
Refuses P r = (e : Error) → r ≡ Err e → P e

pub ok_refuses : (P : Error → Type 0) (bytes : List ℕ) → Refuses P (Ok bytes)
ok_refuses P bytes e h = absurd (cc)

pub err_refuses : (P : Error → Type 0) (d : Error) → P d → Refuses P (Err d)
err_refuses P d h e is = let same : d ≡ e = cc in subst P same h

pub join_refuses : (P : Error → Type 0) (r s : Result (List ℕ) Error) → Refuses P r → Refuses P s
    → Refuses P (join_bytes r s)
join_refuses P (Ok a) (Ok b) one two = ok_refuses P (a ++ b)
join_refuses P (Ok a) (Err e) one two = two
join_refuses P (Err e) s one two = one

bytes_refuse : (P : Error → Type 0) (rs : List Error) (bytes : List ℕ) → All P rs
    → Refuses P (bytes_or_refusal rs bytes)
bytes_refuse P [] bytes all = ok_refuses P bytes
bytes_refuse P (e ∷ rs) bytes all = err_refuses P e (All-head P e rs all)

All-flat_map : {A B : Type 0} (P : B → Type 0) (f : A → List B) (xs : List A) → All (λ x. All P (f x)) xs
    → All P (flat_map f xs)
All-flat_map P f [] all = All-nil P
All-flat_map P f (x ∷ xs) all = All-append P (f x) (flat_map f xs) (All-head (λ y. All P (f y)) x xs all)
    (All-flat_map P f xs (All-tail (λ y. All P (f y)) x xs all))

-- ---- numbers and texts

module _ (P : Error → Type 0) (large : (e : Error) → IsTooLarge e → P e) (is_big : Bool) where
  offset_large : (format : Format) (n : ℕ) → All P (offset_refusals format n)
  offset_large format n = by (nat_lt n (256 ^ word_size format))
    where
      by : (b : Bool) → All P (cond b [] (ValueTooLarge ∷ []))
      by true = All-nil P
      by false = All-cons P ValueTooLarge [] (large ValueTooLarge (inl refl)) (All-nil P)

  word_refuses : (format : Format) (n : ℕ) → Refuses P (bytes_in_width is_big (word_size format) n)
  word_refuses format n = subst (Refuses P) (sym (word_is is_big format n))
      (bytes_refuse P (offset_refusals format n) (number_bytes is_big (word_size format) n) (offset_large format n))

  reference_large : (format : Format) (t : Text) → All P (reference_refusals format t)
  reference_large format (in_header text) = All-nil P
  reference_large format (of_strings offset) = offset_large format offset
  reference_large format (of_line_strings offset) = offset_large format offset

  text_large : (e : Encoding) (form : ℕ) (t : Text) → form_of t ≡ form → All P (text_refusals e form t)
  text_large e form t is =
      subst (λ b. All P (cond b (reference_refusals e.format t) (mismatch e.version ∷ [])))
      (sym (eq-eqb (form_of t) form is)) (reference_large e.format t)

  -- ---- tables

  directories_large : (e : Encoding) (ts : List Text) → All (λ t. form_of t ≡ form_in_version e.version (form_in ts)) ts
      → All P (directories_refusals e ts)
  directories_large e ts all =
      let form = form_in_version e.version (form_in ts) in
      All-flat_map P (text_refusals e form) ts (All-weaker (λ t. form_of t ≡ form)
      (λ t. All P (text_refusals e form t)) (λ t is. text_large e form t is) ts all)

  file_large : (e : Encoding) (has_source : Bool) (path_form source_form : ℕ) (f : WrittenFile)
      → form_of f.path ≡ path_form → (has_source ≡ true → form_of f.source ≡ source_form)
      → All P (file_refusals e has_source path_form source_form f)
  file_large e has_source path_form source_form f path source =
      All-append P _ _ (text_large e path_form f.path path) (by has_source source)
    where
      by : (b : Bool) → (b ≡ true → form_of f.source ≡ source_form)
          → All P (cond b (text_refusals e source_form f.source) [])
      by true h = text_large e source_form f.source (h refl)
      by false h = All-nil P

  files_large : (e : Encoding) (t : Tables)
      → All (λ (f : WrittenFile). form_of f.path ≡ form_in_version e.version (path_form t)) t.files
      → (nat_le e.version 4 ≡ false → t.details.has_source ≡ true
      → All (λ (f : WrittenFile). form_of f.source ≡ source_form t) t.files) → All P (files_refusals e t)
  files_large e t paths sources = by (nat_le e.version 4) paths sources
    where
      by : (b : Bool) → All (λ (f : WrittenFile). form_of f.path ≡ cond b 0x08 (path_form t)) t.files
          → (b ≡ false → t.details.has_source ≡ true
          → All (λ (f : WrittenFile). form_of f.source ≡ source_form t) t.files)
          → All P (cond b (flat_map (file_refusals e false 0x08 0x08) t.files)
          (flat_map (file_refusals e t.details.has_source (path_form t) (source_form t)) t.files))
      by true one two = All-flat_map P (file_refusals e false 0x08 0x08) t.files
          (λ k f h. file_large e false 0x08 0x08 (get_or t.files k f) (one k f h) (λ has. absurd (cc)))
      by false one two =
          All-flat_map P (file_refusals e t.details.has_source (path_form t) (source_form t)) t.files
          (λ k f h. file_large e t.details.has_source (path_form t) (source_form t) (get_or t.files k f) (one k f h)
          (λ has. two refl has k f h))

  -- ---- headers and units

  pub header_refuses : (rules : LineRules) (t : Tables)
      → All (λ w. form_of w ≡ form_in_version rules.encoding.version (form_in t.directories)) t.directories
      → All (λ (f : WrittenFile). form_of f.path ≡ form_in_version rules.encoding.version (path_form t)) t.files
      → (nat_le rules.encoding.version 4 ≡ false → t.details.has_source ≡ true
      → All (λ (f : WrittenFile). form_of f.source ≡ source_form t) t.files)
      → Refuses P (header_bytes is_big rules t)
  unfolding header_bytes
  header_refuses rules t directories paths sources =
      bytes_refuse P (header_refusals rules.encoding t) (spelled_header rules is_big t)
      (All-append P (directories_refusals rules.encoding t.directories) (files_refusals rules.encoding t)
      (directories_large rules.encoding t.directories directories)
      (files_large rules.encoding t paths sources))

  length_refuses : (format : Format) (n : ℕ) → Refuses P (length_bytes is_big format n)
  length_refuses Dwarf32 n = by (nat_lt n 0xfffffff0)
    where
      by : (b : Bool) → Refuses P (cond b (Ok (number_bytes is_big 4 n)) (Err InitialLengthOverflow))
      by true = ok_refuses P _
      by false = err_refuses P InitialLengthOverflow (large InitialLengthOverflow (inr refl))
  length_refuses Dwarf64 n = word_refuses Dwarf64 n

  counted_refuses : (format : Format) (r : Result (List ℕ) Error) → Refuses P r
      → Refuses P (with_length is_big format r)
  counted_refuses format (Ok bytes) h =
      join_refuses P _ _ (ok_refuses P _)
      (join_refuses P _ _ (length_refuses format (length bytes)) (ok_refuses P bytes))
  counted_refuses format (Err e) h = h

  module _ (address_of : Address → Result ℕ Error) (rules : LineRules) (entries : List LineEntry)
      (rows : Refuses P (entries_bytes address_of is_big rules (first_row rules) entries)) where
    body_refuses : (r : Result (List ℕ) Error) → Refuses P r → Refuses P (body_bytes address_of is_big rules r entries)
    body_refuses (Ok header) h = join_refuses P _ _ (ok_refuses P _)
        (join_refuses P _ _ (word_refuses rules.encoding.format (length header))
        (join_refuses P _ _ (ok_refuses P header) rows))
    body_refuses (Err e) h = h

    pub unit_refuses : (t : Tables) → 2 ≤ rules.encoding.version → rules.encoding.version ≤ 5
        → (rules.encoding.version ≤ 3 → rules.line_encoding.maximum_operations_per_instruction ≤ 1)
        → Refuses P (header_bytes is_big rules t) → Refuses P (unit_bytes address_of is_big rules t entries)
    unit_refuses t low high operations header =
        rw (le-ltb rules.encoding.version 2 low, le-ltb 5 rules.encoding.version high)
        (by (nat_lt rules.encoding.version 4) (nat_lt 1 rules.line_encoding.maximum_operations_per_instruction) refl
        refl)
      where
        rest : Refuses P (unit_with_length address_of is_big rules t entries)
        rest = counted_refuses rules.encoding.format (body_bytes address_of is_big rules (header_bytes is_big rules t)
            entries) (body_refuses (header_bytes is_big rules t) header)

        by : (a b : Bool) → nat_lt rules.encoding.version 4 ≡ a
            → nat_lt 1 rules.line_encoding.maximum_operations_per_instruction ≡ b
            → Refuses P (if a && b then Err NeedVersion else unit_with_length address_of is_big rules t entries)
        by false b old many = rest
        by true false old many = rest
        by true true old many =
            let few = operations (omega (arith, ltb-true rules.encoding.version 4 old)) in
            absurd (omega (arith, few, ltb-true 1 rules.line_encoding.maximum_operations_per_instruction many))

-- ---- texts of files that have none

-- the empty text has the form of the one in whose form it is needed
empty_form_is : (s l : List (List ℕ)) (o : Option Text)
    → text_form (empty_text s l o) ≡ text_form (unwrap_or o (in_header []))
empty_form_is s l None = refl
empty_form_is s l (Some (in_header bytes)) = refl
empty_form_is s l (Some (of_strings place)) = refl
empty_form_is s l (Some (of_line_strings place)) = refl

-- the first text of a file is the first of those that there are
pub first_form_is : (infos : List Info) → form_in (map (header_text [] []) (sources_of infos))
    ≡ text_form (unwrap_or (first_source infos) (in_header []))
first_form_is [] = refl
first_form_is (i ∷ infos) = by i.source refl (first_form_is infos)
  where
    by : (o : Option Text) → i.source ≡ o → form_in (map (header_text [] []) (sources_of infos))
        ≡ text_form (unwrap_or (first_source infos) (in_header []))
        → form_in (map (header_text [] []) (sources_of (i ∷ infos)))
        ≡ text_form (unwrap_or (first_source (i ∷ infos)) (in_header []))
    by None is rest = rw is rest
    by (Some t) is rest = rw is refl

-- what holds of the texts holds of each file's, if it has one
pub each_source : (P : Text → Type 0) (infos : List Info) → All P (sources_of infos)
    → All (λ (i : Info). IfSome i.source P) infos
each_source P [] all = All-nil _
each_source P (i ∷ infos) all = by i.source refl (each_source P infos)
  where
    by : (o : Option Text) → i.source ≡ o
        → (All P (sources_of infos) → All (λ (j : Info). IfSome j.source P) infos)
        → All (λ (j : Info). IfSome j.source P) (i ∷ infos)
    by None is rest = All-cons (λ (j : Info). IfSome j.source P) i infos (rw is tt) (rest (rw is at all))
    by (Some t) is rest =
        let texts : All P (t ∷ sources_of infos) = rw is at all in
        All-cons (λ (j : Info). IfSome j.source P) i infos (rw is (All-head P t (sources_of infos) texts))
        (rest (All-tail P t (sources_of infos) texts))

-- and what holds of each file's holds of the texts
pub all_sources : (P : Text → Type 0) (infos : List Info) → All (λ (i : Info). IfSome i.source P) infos
    → All P (sources_of infos)
all_sources P [] all = All-nil _
all_sources P (i ∷ infos) all =
    by i.source refl (all_sources P infos (All-tail (λ (j : Info). IfSome j.source P) i infos all))
  where
    here : IfSome i.source P
    here = All-head (λ (j : Info). IfSome j.source P) i infos all

    by : (o : Option Text) → i.source ≡ o → All P (sources_of infos) → All P (sources_of (i ∷ infos))
    by None is rest = rw is rest
    by (Some t) is rest = rw is (All-cons P t (sources_of infos) (rw is at here) rest)

-- written texts of one form have that of the first
written_as_first : (form : ℕ) (ws : List Text) → All (λ w. form_of w ≡ form) ws
    → All (λ w. form_of w ≡ form_in ws) ws
written_as_first form [] all = All-nil _
written_as_first form (w ∷ ws) all = λ k d h. all k d h ∙ sym (All-head (λ v. form_of v ≡ form) w ws all)

-- ---- programs

module _ (s l : List (List ℕ)) (rules : LineRules) (k : ProgramFiles) (d : FileDetails)
    (same : k.version ≡ rules.encoding.version) (counted : length k.infos ≡ length k.files)
    (can : IsExpressible rules k d) where
  directories_in_form : (s' l' : List (List ℕ)) (ts : List Text) → HasOneForm k.version ts
      → All (λ w. form_of w ≡ cond (nat_le rules.encoding.version 4) 0x08 (form_in (map (header_text s' l') ts)))
      (map (header_text s' l') ts)
  directories_in_form s' l' ts all =
      All-map (λ w. form_of w ≡ cond (nat_le rules.encoding.version 4) 0x08 (form_in (map (header_text s' l') ts)))
      (header_text s' l') ts (All-weaker (λ t. text_form t ≡ list_form k.version ts)
      (λ t. form_of (header_text s' l' t)
      ≡ cond (nat_le rules.encoding.version 4) 0x08 (form_in (map (header_text s' l') ts)))
      (λ t h. form_same s' l' t ∙ h ∙ ap (λ n. cond (nat_le k.version 4) 0x08 n) (sym (first_form_same s' l' ts))
      ∙ ap (λ v. cond (nat_le v 4) 0x08 (form_in (map (header_text s' l') ts))) same) ts all)

  -- each file's text, or the empty one, has the form of the first
  source_in_form : (s' l' : List (List ℕ)) → records_source k.version d ≡ true → nat_le k.version 4 ≡ false
      → All (λ (i : Info). form_of (header_text s' l' (unwrap_or i.source (empty_text s l (empty_form_of k d))))
      ≡ text_form (unwrap_or (first_source k.infos) (in_header []))) k.infos
  source_in_form s' l' present_is new n i h = by (get_or k.infos n i).source refl (each n i h)
    where
      First : Text → Type 0
      First t = text_form t ≡ text_form (unwrap_or (first_source k.infos) (in_header []))

      each : All (λ (i : Info). IfSome i.source First) k.infos
      each = each_source First k.infos (All-weaker (λ t. text_form t ≡ list_form k.version (sources_of k.infos)) First
          (λ t is. is ∙ ap (λ b. cond b 0x08 (form_in (map (header_text [] []) (sources_of k.infos)))) new
          ∙ first_form_is k.infos) (sources_of k.infos) (can.sources present_is))

      by : (o : Option Text) → (get_or k.infos n i).source ≡ o → IfSome o First
          → form_of (header_text s' l' (unwrap_or o (empty_text s l (empty_form_of k d))))
          ≡ text_form (unwrap_or (first_source k.infos) (in_header []))
      by (Some t) is first = form_same s' l' t ∙ first
      by None is first =
          form_same s' l' (empty_text s l (empty_form_of k d)) ∙ empty_form_is s l (empty_form_of k d)
          ∙ ap (λ b. text_form (unwrap_or (cond b (first_source k.infos) None) (in_header [])))
          (needed (records_source k.version d) (list_any (λ (j : Info). is_none j.source) k.infos) present_is
          (list_any_at (λ (j : Info). is_none j.source) k.infos n i h (ap is_none is)))
        where
          needed : (a b : Bool) → a ≡ true → b ≡ true → (a && b) ≡ true
          needed true true p q = refl
          needed true false p q = absurd (cc)
          needed false b p q = absurd (cc)

  pub expressible_refusals : (address_of : Address → Result ℕ Error) (is_big : Bool) (entries : List LineEntry)
      (e : Error) → unit_bytes address_of is_big rules (header_tables s l k d) entries ≡ Err e
      → IsTooLarge e ⊎ (entries_bytes address_of is_big rules (first_row rules) entries ≡ Err e)
  expressible_refusals address_of is_big entries =
      let t = header_tables s l k d in
      let s' = strings_after (empty_form_of k d) s in
      let l' = line_strings_after (empty_form_of k d) l in
      let empty = empty_text s l (empty_form_of k d) in
      let present = records_source k.version d in
      let P : Error → Type 0 = λ e. IsTooLarge e
      ⊎ (entries_bytes address_of is_big rules (first_row rules) entries ≡ Err e) in
      let InForm : List Text → Type 0 = λ ws.
      All (λ w. form_of w ≡ cond (nat_le rules.encoding.version 4) 0x08 (form_in ws)) ws in
      let paths : InForm (map (λ (f : WrittenFile). f.path) t.files) =
      subst InForm (sym (paths_written s' l' present empty k.files k.infos counted))
      (directories_in_form s' l' (paths_of k.files) can.paths) in
      unit_refuses P (λ e h. inl h) is_big address_of rules entries (λ e h. inr h) t can.first_version
      can.last_version can.operations
      (header_refuses P (λ e h. inl h) is_big rules t
      (directories_in_form s' l' (listed_directories k.version k.directories) can.directories)
      (All-view (λ w. form_of w ≡ cond (nat_le rules.encoding.version 4) 0x08 (path_form t))
      (λ (f : WrittenFile). f.path) t.files paths)
      (λ later has. sources_fit (ap (λ v. nat_le v 4) same ∙ later) has))
    where
      sources_fit : nat_le k.version 4 ≡ false → d.has_source ≡ true
          → All (λ (f : WrittenFile). form_of f.source ≡ source_form (header_tables s l k d))
          (header_tables s l k d).files
      sources_fit new has =
          let t = header_tables s l k d in
          let s' = strings_after (empty_form_of k d) s in
          let l' = line_strings_after (empty_form_of k d) l in
          let empty = empty_text s l (empty_form_of k d) in
          let present_is : records_source k.version d ≡ true = rw (new, has) refl in
          let AsFirst : List Text → Type 0 = λ ws. All (λ w. form_of w ≡ form_in ws) ws in
          let each : All (λ w. form_of w ≡ text_form (unwrap_or (first_source k.infos) (in_header [])))
          (map (λ (i : Info). source_text s' l' true empty i.source) k.infos) =
          All-map (λ w. form_of w ≡ text_form (unwrap_or (first_source k.infos) (in_header [])))
          (λ (i : Info). source_text s' l' true empty i.source) k.infos
          (source_in_form s' l' present_is new) in
          All-view (λ w. form_of w ≡ source_form t) (λ (f : WrittenFile). f.source) t.files
          (subst AsFirst (sym (sources_written s' l' (records_source k.version d) empty k.files k.infos counted
          ∙ ap (λ b. map (λ (i : Info). source_text s' l' b empty i.source) k.infos) present_is))
          (written_as_first (text_form (unwrap_or (first_source k.infos) (in_header [])))
          (map (λ (i : Info). source_text s' l' true empty i.source) k.infos) each))
