-- The ranges of a program's lines are the same for all units of a file that name it under the same circumstances.
use Rattle.std.proofs.Common.{◌≡◌, ℕ, Bool, true, false, List, [], ◌∷◌, map, Option, Some, None, option_map, Result, Ok, Err, refl, sym, ap, subst, ◌∙◌}
use Rattle.std.specs.Prelude.{IfSome, ◌==◌, ◌-◌, nat_le, slice_get, if◌then◌else◌}
use Rattle.std.specs.Option.{option_or}
use Rattle.addr2line_ranges.specs.Error.{Error}
use Rattle.addr2line_ranges.specs.View.{View}
use Rattle.addr2line_ranges.specs.Results.{and_then, some_of, unless, each}
use Rattle.addr2line_ranges.specs.AttributeValues.{RawValue, string, string_offsets_index}
use Rattle.addr2line_ranges.specs.LineFiles.{FileFacts, file_named}
use Rattle.addr2line_ranges.specs.LineHeaders.{LineHeader, file_at}
use Rattle.addr2line_ranges.specs.HeaderParsing.{LineUnit, header_at}
use Rattle.addr2line_ranges.specs.Runs.{shown_rows}
use Rattle.addr2line_ranges.specs.Attributes.{Bases, attr_string}
use Rattle.addr2line_ranges.specs.DwarfFiles.{DwarfFile}
use Rattle.addr2line_ranges.specs.Roots.{line_unit}
use Rattle.addr2line_ranges.specs.UnitFacts.{UnitFacts, UnitInFile, in_file}
use Rattle.addr2line_ranges.specs.Lines.{Sequence, Lines, sequences_of_rows}
use Rattle.addr2line_ranges.specs.FileTexts.{bytes_of, text_bytes, text_bytes_if_any, directory_of, text_of_file, text_of_file_0, files_from_1, texts_of_files}
use Rattle.addr2line_ranges.specs.UnitLines.{program_row, run_of_program, fault_of_program, with_defined_files, lines_of_program, lines_if_any, lines_of_unit}
use Rattle.addr2line_ranges.specs.UnitRanges.{ranges_of_lines}
use Rattle.addr2line_root.specs.declared.last_program.ProgramKey.{ProgramKey}
use Rattle.addr2line_root.specs.LastPrograms.{key_of_header, program_key, IsInFile, HasHeaderInFile}
use Rattle.addr2line_root.proofs.HeaderUnits.{with_unit, found, header_with_unit}

-- ---- refusals

-- why there is no value, if there is none
abbrev refusal : {A : Type 0} → Result A Error → Option Error
refusal (Ok x) = None
refusal (Err e) = Some e

-- of two results, the first that is refused
refusal_of_two : {A B C : Type 0} (r : Result A Error) (s : Result B Error) (f : A → B → C)
    → refusal (and_then r (λ x. and_then s (λ y. Ok (f x y)))) ≡ option_or (refusal r) (refusal s)
refusal_of_two (Ok x) (Ok y) f = refl
refusal_of_two (Ok x) (Err e) f = refl
refusal_of_two (Err e) s f = refl

same_refusal_of_two : {A B C : Type 0} (r r' : Result A Error) (s s' : Result B Error) (f g : A → B → C)
    → refusal r ≡ refusal r' → refusal s ≡ refusal s'
    → refusal (and_then r (λ x. and_then s (λ y. Ok (f x y))))
    ≡ refusal (and_then r' (λ x. and_then s' (λ y. Ok (g x y))))
same_refusal_of_two r r' s s' f g first second =
    refusal_of_two r s f
    ∙ ap (λ (o : Option Error). option_or o (refusal s)) first
    ∙ ap (λ (o : Option Error). option_or (refusal r') o) second
    ∙ sym (refusal_of_two r' s' g)

same_refusal_of_each : {A B : Type 0} (f g : A → Result B Error) → ((x : A) → refusal (f x) ≡ refusal (g x))
    → (xs : List A) → refusal (each f xs) ≡ refusal (each g xs)
same_refusal_of_each f g same [] = refl
same_refusal_of_each f g same (x ∷ xs) =
    same_refusal_of_two (f x) (g x) (each f xs) (each g xs) (λ y ys. y ∷ ys) (λ y ys. y ∷ ys) (same x)
    (same_refusal_of_each f g same xs)

-- ---- ranges

abbrev pub with_texts : List Sequence → Option Error → Result (List (List ℕ)) Error → Result Lines Error
with_texts sequences fault texts =
    unless fault (and_then texts (λ files. Ok (record { sequences = sequences; files = files })))

-- lines that are refused have no ranges, whatever refuses them
same_ranges_of_texts : (sequences : List Sequence) (fault : Option Error) (r s : Result (List (List ℕ)) Error)
    → refusal r ≡ refusal s
    → ranges_of_lines (with_texts sequences fault r) ≡ ranges_of_lines (with_texts sequences fault s)
same_ranges_of_texts sequences (Some e) r s same = refl
same_ranges_of_texts sequences None (Ok x) (Ok y) same = refl
same_ranges_of_texts sequences None (Ok x) (Err e) same = absurd cc
same_ranges_of_texts sequences None (Err e) (Ok y) same = absurd cc
same_ranges_of_texts sequences None (Err d) (Err e) same = refl

-- ---- texts

-- a text depends on few of the bases
same_string : (file : DwarfFile) (b c : Bases) → b.encoding.format ≡ c.encoding.format
    → b.str_offsets_base ≡ c.str_offsets_base → (v : RawValue) → attr_string file b v ≡ attr_string file c v
same_string file b c format base (string_offsets_index i) =
    ap (λ f. attr_string file (record b { encoding = record b.encoding { format = f } }) (string_offsets_index i))
    format
    ∙ ap (λ n. attr_string file (record c { str_offsets_base = n }) (string_offsets_index i)) base
same_string file b c format base _ = refl

-- the directory of a file isn't the unit's
not_the_units : {A : Type 0} (is_0 is_4 : Bool) (zeroth other : Option A) (from_1 from_0 : Option A)
    → (if is_0 then None else (if is_4 then (if is_0 then zeroth else from_1) else from_0))
    ≡ (if is_0 then None else (if is_4 then (if is_0 then other else from_1) else from_0))
not_the_units true is_4 zeroth other from_1 from_0 = refl
not_the_units false true zeroth other from_1 from_0 = refl
not_the_units false false zeroth other from_1 from_0 = refl

module _ (file : DwarfFile) (a b : UnitFacts) (format : a.bases.encoding.format ≡ b.bases.encoding.format)
    (base : a.bases.str_offsets_base ≡ b.bases.str_offsets_base) where
  abbrev u : UnitInFile
  u = in_file file a

  abbrev w : UnitInFile
  w = in_file file b

  pub same_text : (v : RawValue) → text_bytes u v ≡ text_bytes w v
  same_text v = ap (λ r. and_then r (λ text. Ok (bytes_of text))) (same_string file a.bases b.bases format base v)

  same_text_if_any : (o : Option RawValue) → text_bytes_if_any u o ≡ text_bytes_if_any w o
  same_text_if_any None = refl
  same_text_if_any (Some v) = ap (λ r. some_of r) (same_text v)

  module _ (offset : ℕ) (l m : LineUnit) where
    pub same_directory : (h : LineHeader) (f : FileFacts)
        → text_bytes_if_any u (directory_of (with_unit offset l h) f)
        ≡ text_bytes_if_any w (directory_of (with_unit offset m h) f)
    same_directory h f =
        same_text_if_any (directory_of (with_unit offset l h) f)
        ∙ ap (text_bytes_if_any w) (not_the_units (f.directory_index == 0) (nat_le h.encoding.version 4)
        (option_map string l.directory) (option_map string m.directory)
        (slice_get h.directories (f.directory_index - 1)) (slice_get h.directories f.directory_index))

    same_file : (h : LineHeader) (f : FileFacts)
        → refusal (text_of_file u (with_unit offset l h) f) ≡ refusal (text_of_file w (with_unit offset m h) f)
    same_file h f =
        same_refusal_of_two (text_bytes_if_any u (directory_of (with_unit offset l h) f))
        (text_bytes_if_any w (directory_of (with_unit offset m h) f)) (text_bytes u f.path) (text_bytes w f.path) _ _
        (ap refusal (same_directory h f)) (ap refusal (same_text f.path))

    -- a unit's name can be read
    name_is_text : (x : UnitInFile) (h : LineHeader) (name : Option View)
        → refusal (text_of_file_0 x h (option_map file_named name)) ≡ None
    name_is_text x h None = refl
    name_is_text x h (Some name) = refl

    same_file_0 : (h : LineHeader) (is_4 : Bool)
        → refusal (text_of_file_0 u (with_unit offset l h)
        (if is_4 then option_map file_named l.name else slice_get h.files 0))
        ≡ refusal (text_of_file_0 w (with_unit offset m h)
        (if is_4 then option_map file_named m.name else slice_get h.files 0))
    same_file_0 h true =
        name_is_text u (with_unit offset l h) l.name ∙ sym (name_is_text w (with_unit offset m h) m.name)
    same_file_0 h false = by (slice_get h.files 0)
      where
        by : (o : Option FileFacts)
            → refusal (text_of_file_0 u (with_unit offset l h) o)
            ≡ refusal (text_of_file_0 w (with_unit offset m h) o)
        by None = refl
        by (Some f) = same_file h f

    same_texts : (h : LineHeader)
        → refusal (texts_of_files u (with_unit offset l h)) ≡ refusal (texts_of_files w (with_unit offset m h))
    same_texts h =
        same_refusal_of_two (text_of_file_0 u (with_unit offset l h) (file_at (with_unit offset l h) 0))
        (text_of_file_0 w (with_unit offset m h) (file_at (with_unit offset m h) 0))
        (each (text_of_file u (with_unit offset l h)) (files_from_1 h))
        (each (text_of_file w (with_unit offset m h)) (files_from_1 h))
        (λ text texts. text ∷ texts) (λ text texts. text ∷ texts) (same_file_0 h (nat_le h.encoding.version 4))
        (same_refusal_of_each (text_of_file u (with_unit offset l h)) (text_of_file w (with_unit offset m h))
        (same_file h) (files_from_1 h))

    same_ranges_of_program : (h : LineHeader)
        → ranges_of_lines (lines_of_program u (with_unit offset l h))
        ≡ ranges_of_lines (lines_of_program w (with_unit offset m h))
    same_ranges_of_program h =
        let defined : LineHeader = with_defined_files file.offset_limit h in
        same_ranges_of_texts
        (sequences_of_rows (map program_row (shown_rows (run_of_program file.offset_limit h).items)))
        (fault_of_program file.offset_limit h) (texts_of_files u (with_unit offset l defined))
        (texts_of_files w (with_unit offset m defined)) (same_texts defined)

-- ---- units

-- what is the same of a header as each of two units has it is the same of the units' own headers, if their programs
-- depend on the same
module _ {A : Type 0} (file : DwarfFile) (a b : UnitFacts) (f g : Option LineHeader → A) (none : f None ≡ g None)
    (same : a.bases.encoding.format ≡ b.bases.encoding.format → a.bases.str_offsets_base ≡ b.bases.str_offsets_base
    → (h : LineHeader)
    → f (Some (with_unit h.offset (line_unit a) h)) ≡ g (Some (with_unit h.offset (line_unit b) h))) where
  with_headers : (h k : LineHeader) → IsInFile (in_file file a) h → IsInFile (in_file file b) k
      → key_of_header a h ≡ key_of_header b k → f (Some h) ≡ g (Some k)
  with_headers h k h_in k_in keys =
      let limit = file.offset_limit in
      let section = file.sections.debug_line in
      let at : k.offset ≡ h.offset = sym (ap (λ (x : ProgramKey). x.offset) keys) in
      let k_at : header_at limit h.offset (line_unit b) section ≡ found k =
      subst (λ (n : ℕ). header_at limit n (line_unit b) section ≡ found k) at k_in in
      ap (λ (x : LineHeader). f (Some x))
      (header_with_unit limit h.offset (line_unit a) (line_unit a) refl section h h h_in h_in)
      ∙ same (ap (λ (x : ProgramKey). x.format) keys) (ap (λ (x : ProgramKey). x.str_offsets_base) keys) h
      ∙ sym (ap (λ (x : LineHeader). g (Some x))
      (header_with_unit limit h.offset (line_unit a) (line_unit b)
      (sym (ap (λ (x : ProgramKey). x.address_size) keys)) section h k h_in k_at))

  if_any : (o p : Option LineHeader) → IfSome o (IsInFile (in_file file a)) → IfSome p (IsInFile (in_file file b))
      → option_map (key_of_header a) o ≡ option_map (key_of_header b) p → f o ≡ g p
  if_any None None o_in p_in keys = none
  if_any None (Some k) o_in p_in keys = absurd cc
  if_any (Some h) None o_in p_in keys = absurd cc
  if_any (Some h) (Some k) o_in p_in keys =
      let key : key_of_header a h ≡ key_of_header b k = cc in with_headers h k o_in p_in key

  pub same_of_units : HasHeaderInFile (in_file file a) → HasHeaderInFile (in_file file b)
      → program_key a ≡ program_key b → f a.line_header ≡ g b.line_header
  same_of_units a_in b_in keys = if_any a.line_header b.line_header a_in b_in keys

-- units of a file whose programs depend on the same have the same ranges of their lines
pub same_ranges : (file : DwarfFile) (a b : UnitFacts) → HasHeaderInFile (in_file file a)
    → HasHeaderInFile (in_file file b) → program_key a ≡ program_key b
    → ranges_of_lines (lines_of_unit (in_file file a)) ≡ ranges_of_lines (lines_of_unit (in_file file b))
same_ranges file a b a_in b_in keys =
    same_of_units file a b (λ h. ranges_of_lines (lines_if_any (in_file file a) h))
    (λ h. ranges_of_lines (lines_if_any (in_file file b) h)) refl
    (λ format base h. same_ranges_of_program file a b format base h.offset (line_unit a) (line_unit b) h)
    a_in b_in keys
