-- Entries whose fields are the usual ones: what an entry says where its fields are known, and that it leaves what comes
-- after some bytes.
use Rattle.std.proofs.Common.{◌≡◌, ℕ, List, [], ◌∷◌, Bool, Option, Some, None, Result, Ok, refl, sym, ◌∙◌, ap}
use Rattle.std.specs.Prelude.{unwrap_or}
use Rattle.gimli_units_headers.specs.Error.{Error}
use Rattle.gimli_units_headers.specs.Error.TheVariants.{MissingFileEntryFormatPath, UnknownForm}
use Rattle.gimli_units_headers.specs.View.{View, after}
use Rattle.gimli_units_headers.specs.Parsers.{◌>>=◌, proceed, give, fail, map_value, some_or}
use Rattle.gimli_units_headers.specs.Encoding.{Encoding}
use Rattle.gimli_units_headers.proofs.StepParts.{begins, value_is, state_is, read}
use Rattle.gimli_units_forms.specs.Places.{IsAfter}
use Rattle.gimli_units_forms.specs.AttributeValues.{RawValue, RawAttribute}
use Rattle.gimli_units_forms.specs.AttributeMeanings.{unsigned_of}
use Rattle.gimli_units_forms.specs.AttributeReading.{attribute}
use Rattle.gimli_units_forms.proofs.FormSizes.{made-after}
use Rattle.gimli_units_forms.proofs.PlaceLemmas.{Goes, Goes-onward, Goes-give, Goes-fail, Goes-branch, IsAfter-IsAfter}
use Rattle.gimli_lines_header.specs.declared.formats.FileEntryFormat.{FileEntryFormat}
use Rattle.gimli_lines_header.specs.LineFiles.{FileFacts, no_md5, path_content, directory_content, md5_content}
use Rattle.gimli_lines_header.specs.TableEntries.{Field, EntryFacts, is_entry_form, entry_value, entry_fields, digest_of, facts_after, no_facts, entry, directory_entry, file_entry}
use Rattle.gimli_lines_header.specs.UsualFormats.{field_format}

-- ---- places

Goes-entry_value : (limit : ℕ) (e : Encoding) (form : ℕ) → Goes (entry_value limit e form)
unfolding entry_value
Goes-entry_value limit e form =
    Goes-branch (is_entry_form form)
    (map_value (λ (a : RawAttribute). a.value)
    (attribute limit e (record { name = 0; form = form; implicit_const = None })))
    (fail (UnknownForm (record { 0 = form })))
    (record {
      goes = λ v x w h. made-after limit e (record { name = 0; form = form; implicit_const = None })
          (λ (a : RawAttribute). a.value) v w x h;
    })
    (Goes-fail (UnknownForm (record { 0 = form })))

-- what is left after a value comes after some bytes
pub value-after : (limit : ℕ) (e : Encoding) (form : ℕ) (v w : View) (x : RawValue)
    → entry_value limit e form v ≡ Ok (x, w) → IsAfter v w
value-after limit e form v w x h = (Goes-entry_value limit e form).goes v x w h

-- it has the same order
same_order : (v w : View) → IsAfter v w → w.is_big ≡ v.is_big
same_order v w a = ap (λ (u : View). u.is_big) (sym a.rest)

-- ---- what an entry says

-- a field before others
field_first : (limit : ℕ) (e : Encoding) (format : FileEntryFormat) (formats : List FileEntryFormat) (v s t : View)
    (x : RawValue) (fields : List Field) → entry_value limit e format.form.0 v ≡ Ok (x, s)
    → entry_fields limit e formats s ≡ Ok (fields, t)
    → entry_fields limit e (format ∷ formats) v
    ≡ read (record { content = format.content_type.0; value = x } ∷ fields) t
unfolding entry_fields
field_first limit e format formats v s t x fields first others =
    ap (λ (r : Result (RawValue × View) Error). proceed r (λ y u. proceed (entry_fields limit e formats u)
    (λ fs. give (record { content = format.content_type.0; value = y } ∷ fs)))) first
    ∙ ap (λ (r : Result (List Field × View) Error). proceed r
    (λ fs. give (record { content = format.content_type.0; value = x } ∷ fs))) others

no_fields : (limit : ℕ) (e : Encoding) (v : View) → entry_fields limit e [] v ≡ read [] v
unfolding entry_fields
no_fields limit e v = refl

-- the file that facts are, of a path
abbrev file_of : EntryFacts → RawValue → FileFacts
file_of facts path = record {
  path = path;
  directory_index = facts.directory_index;
  timestamp = facts.timestamp;
  size = facts.size;
  md5 = facts.md5;
  source = facts.source;
}

-- a file, by its fields
file_said : (limit : ℕ) (e : Encoding) (formats : List FileEntryFormat) (v w : View) (fields : List Field)
    (path : RawValue) → entry_fields limit e formats v ≡ Ok (fields, w)
    → (facts_after v.is_big no_facts fields).path ≡ Some path
    → file_entry limit e formats v ≡ read (file_of (facts_after v.is_big no_facts fields) path) w
unfolding file_entry entry
file_said limit e formats v w fields path are is =
    ap (λ (r : Result (List Field × View) Error). proceed
    (proceed r (λ fs. give (facts_after v.is_big no_facts fs)))
    (λ facts s. proceed (some_or MissingFileEntryFormatPath facts.path s) (λ p. give (file_of facts p)))) are
    ∙ ap (λ (o : Option RawValue). proceed (some_or MissingFileEntryFormatPath o w)
    (λ p. give (file_of (facts_after v.is_big no_facts fields) p))) is

-- a directory, by its path
pub usual_directory : (limit : ℕ) (e : Encoding) (form : ℕ) (v w : View) (x : RawValue)
    → entry_value limit e form v ≡ Ok (x, w)
    → directory_entry limit e (field_format path_content form ∷ []) v ≡ Ok (x, w)
unfolding directory_entry entry
usual_directory limit e form v w x is =
    ap (λ (r : Result (List Field × View) Error). proceed
    (proceed r (λ fs. give (facts_after v.is_big no_facts fs)))
    (λ facts. some_or MissingFileEntryFormatPath facts.path))
    (field_first limit e (field_format path_content form) [] v w w x [] is (no_fields limit e w))

-- the same at a borrowed place, and how far it goes
pub directory_found : (limit : ℕ) (e : Encoding) (form : ℕ) (v u w r : View) (x : RawValue)
    → u ≡ v → entry_value limit e form u ≡ Ok (x, w) → r ≡ w
    → directory_entry limit e (field_format path_content form ∷ []) v ≡ Ok (x, r)
directory_found limit e form v u w r x same is rest =
    ap (λ (s : View). directory_entry limit e (field_format path_content form ∷ []) s) (sym same)
    ∙ usual_directory limit e form u w x is
    ∙ ap (λ (s : View). read x s) (sym rest)

-- a file of a path in a directory
abbrev pub file_of_fields : RawValue → ℕ → List ℕ → FileFacts
file_of_fields path directory digest = record {
  path = path;
  directory_index = directory;
  timestamp = 0;
  size = 0;
  md5 = digest;
  source = None;
}

-- a value that means something was read
meant : {A : Type 0} (limit : ℕ) (e : Encoding) (form : ℕ) (meaning : RawValue → A) (v w : View) (y : A)
    → map_value meaning (entry_value limit e form) v ≡ Ok (y, w)
    → (x : RawValue) × (entry_value limit e form v ≡ Ok (x, w)) × (meaning x ≡ y)
meant limit e form meaning v w y is =
    let b = begins (entry_value limit e form v) (λ x. give (meaning x)) y w is in (
      b.0,
      b.2 ∙ ap (λ (t : View). read b.0 t) (state_is (meaning b.0) y b.1 w b.3),
      value_is (meaning b.0) y b.1 w b.3,
    )

-- a path and the number of a directory
pub usual_file : (limit : ℕ) (e : Encoding) (path directory : ℕ) (v s t : View) (x : RawValue) (n : ℕ)
    (file : FileFacts) → entry_value limit e path v ≡ Ok (x, s)
    → map_value unsigned_of (entry_value limit e directory) s ≡ Ok (Some n, t) → file ≡ file_of_fields x n no_md5
    → file_entry limit e (field_format path_content path ∷ field_format directory_content directory ∷ []) v
    ≡ Ok (file, t)
usual_file limit e path directory v s t x n file first second is =
    let number = meant limit e directory unsigned_of s t (Some n) second in
    let fields = field_first limit e (field_format path_content path) (field_format directory_content directory ∷ [])
    v s t x
    (record { content = directory_content; value = number.0 } ∷ []) first
    (field_first limit e (field_format directory_content directory) [] s t t number.0 [] number.1
    (no_fields limit e t)) in
    file_said limit e (field_format path_content path ∷ field_format directory_content directory ∷ []) v t
    (record { content = path_content; value = x } ∷ record { content = directory_content; value = number.0 } ∷ []) x
    fields refl
    ∙ ap (λ (o : Option ℕ). read (file_of_fields x (unwrap_or o 0) no_md5) t) number.2
    ∙ ap (λ (f : FileFacts). read f t) (sym is)

-- the same, and a digest
pub usual_file_with_digest : (limit : ℕ) (e : Encoding) (path directory digest : ℕ) (v s t u : View) (x : RawValue)
    (n : ℕ) (md5 : List ℕ) (file : FileFacts) → entry_value limit e path v ≡ Ok (x, s)
    → map_value unsigned_of (entry_value limit e directory) s ≡ Ok (Some n, t)
    → map_value (digest_of t.is_big) (entry_value limit e digest) t ≡ Ok (Some md5, u) → file ≡ file_of_fields x n md5
    → file_entry limit e (field_format path_content path ∷ field_format directory_content directory
    ∷ field_format md5_content digest ∷ []) v ≡ Ok (file, u)
usual_file_with_digest limit e path directory digest v s t u x n md5 file first second third is =
    let number = meant limit e directory unsigned_of s t (Some n) second in
    let bytes = meant limit e digest (digest_of t.is_big) t u (Some md5) third in
    let order : t.is_big ≡ v.is_big = same_order v t (IsAfter-IsAfter v s t (value-after limit e path v s x first)
    (value-after limit e directory s t number.0 number.1)) in
    let last = field_format md5_content digest ∷ [] in
    let fields = field_first limit e (field_format path_content path) (field_format directory_content directory ∷ last)
    v s u x
    (record { content = directory_content; value = number.0 } ∷ record { content = md5_content; value = bytes.0 } ∷ [])
    first
    (field_first limit e (field_format directory_content directory) last s t u number.0
    (record { content = md5_content; value = bytes.0 } ∷ []) number.1
    (field_first limit e (field_format md5_content digest) [] t u u bytes.0 [] bytes.1 (no_fields limit e u))) in
    file_said limit e (field_format path_content path ∷ field_format directory_content directory ∷ last) v u
    (record { content = path_content; value = x } ∷ record { content = directory_content; value = number.0 }
    ∷ record { content = md5_content; value = bytes.0 } ∷ []) x
    fields refl
    ∙ ap (λ (b : Bool). read (file_of_fields x (unwrap_or (unsigned_of number.0) 0)
    (unwrap_or (digest_of b bytes.0) no_md5)) u) (sym order)
    ∙ ap (λ (o : Option (List ℕ)).
    read (file_of_fields x (unwrap_or (unsigned_of number.0) 0) (unwrap_or o no_md5)) u) bytes.2
    ∙ ap (λ (o : Option ℕ). read (file_of_fields x (unwrap_or o 0) md5) u) number.2
    ∙ ap (λ (f : FileFacts). read f u) (sym is)

-- ---- what is left after an entry

Goes-entry_fields : (limit : ℕ) (e : Encoding) (formats : List FileEntryFormat) → Goes (entry_fields limit e formats)
unfolding entry_fields
Goes-entry_fields limit e [] = Goes-give []
Goes-entry_fields limit e (format ∷ formats) =
    Goes-onward (entry_value limit e format.form.0)
    (λ x. entry_fields limit e formats
    >>= λ fields. give (record { content = format.content_type.0; value = x } ∷ fields))
    (Goes-entry_value limit e format.form.0)
    (λ x. Goes-onward (entry_fields limit e formats)
    (λ fields. give (record { content = format.content_type.0; value = x } ∷ fields))
    (Goes-entry_fields limit e formats)
    (λ fields. Goes-give (record { content = format.content_type.0; value = x } ∷ fields)))

Goes-some_or : {A : Type 0} (d : Error) (o : Option A) → Goes {A = A} (some_or d o)
Goes-some_or d None = Goes-fail d
Goes-some_or d (Some x) = Goes-give x

-- and after a file
pub file-after : (limit : ℕ) (e : Encoding) (formats : List FileEntryFormat) (v w : View) (file : FileFacts)
    → file_entry limit e formats v ≡ Ok (file, w) → IsAfter v w
unfolding file_entry entry
file-after limit e formats v w file h =
    (Goes-onward
    (λ (u : View). proceed (entry_fields limit e formats u) (λ fields. give (facts_after v.is_big no_facts fields)))
    (λ facts. some_or MissingFileEntryFormatPath facts.path >>= λ path. give (file_of facts path))
    (Goes-onward (entry_fields limit e formats) (λ fields. give (facts_after v.is_big no_facts fields))
    (Goes-entry_fields limit e formats) (λ fields. Goes-give (facts_after v.is_big no_facts fields)))
    (λ facts. Goes-onward (some_or MissingFileEntryFormatPath facts.path) (λ path. give (file_of facts path))
    (Goes-some_or MissingFileEntryFormatPath facts.path) (λ path. Goes-give (file_of facts path)))).goes v file w h
