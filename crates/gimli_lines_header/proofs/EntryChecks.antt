-- Entries of version 5 that are checked: what is refused of an entry is what is refused of its fields, since one of
-- them is the path.
use Rattle.std.proofs.Common.{◌≡◌, ℕ, ◌+◌, ◌<◌, ◌≤◌, Bool, true, false, cond, eqb, List, [], ◌∷◌, length, drop, get_or, Option, Some, None, Result, Ok, Err, refl, sym, ◌∙◌, ap, arith}
use Rattle.std.proofs.lemmas.Bool.{eqb-true}
use Rattle.std.proofs.lemmas.List.{drop_all}
use Rattle.std.proofs.lemmas.List.Sums.{sum_by-cons}
use Rattle.std.specs.Prelude.{count_by}
use Rattle.gimli_units_headers.specs.Error.{Error}
use Rattle.gimli_units_headers.specs.Error.TheVariants.{MissingFileEntryFormatPath}
use Rattle.gimli_units_headers.specs.View.{View}
use Rattle.gimli_units_headers.specs.Parsers.{Step, proceed, give, some_or, demand}
use Rattle.gimli_units_headers.specs.Repetition.{times}
use Rattle.gimli_units_headers.specs.NumberParsers.{fixed, unsigned}
use Rattle.gimli_units_headers.proofs.StepParts.{begins, value_is, read}
use Rattle.gimli_units_headers.specs.Encoding.{Encoding}
use Rattle.gimli_units_forms.specs.AttributeValues.{RawValue}
use Rattle.gimli_lines_header.specs.declared.formats.FileEntryFormat.{FileEntryFormat}
use Rattle.gimli_lines_header.specs.Checks.{check}
use Rattle.gimli_lines_header.specs.LineFiles.{FileFacts, path_content}
use Rattle.gimli_lines_header.specs.TableEntries.{Field, EntryFacts, entry_format, entry_formats, has_one_path, entry_value, entry_fields, last_in, content_as, whole_value, facts_after, no_facts, entry, directory_entry, file_entry}
use Rattle.gimli_lines_header.specs.HeaderTables.{directory_entries, file_entries, directories_of_5, files_of_5}
use Rattle.gimli_lines_header.proofs.CheckSteps.{left_at, checked_read, refused_read, dropped_first, check_times_alike}
use Rattle.gimli_lines_header.proofs.TableLoops.{drop_next}

-- ---- the fields of an entry

abbrev fields_after : ℕ → Encoding → FileEntryFormat → List FileEntryFormat → RawValue → Step View (List Field)
fields_after limit e format formats x s =
    proceed (entry_fields limit e formats s) (λ fields. give (record { content = format.content_type.0; value = x }
    ∷ fields))

-- the first field is checked
first_checked : (limit : ℕ) (e : Encoding) (format : FileEntryFormat) (formats : List FileEntryFormat) (v w : View)
    → check (entry_value limit e format.form.0) v ≡ left_at w
    → check (entry_fields limit e (format ∷ formats)) v ≡ check (entry_fields limit e formats) w
unfolding entry_fields
first_checked limit e format formats v w h =
    let first = checked_read (entry_value limit e format.form.0 v) w h in
    ap (λ (r : Result (RawValue × View) Error). proceed (proceed r (fields_after limit e format formats))
    (λ _. give (tt {0}))) first.1
    ∙ dropped_first (record { content = format.content_type.0; value = first.0 }) (entry_fields limit e formats w)

first_refused : (limit : ℕ) (e : Encoding) (format : FileEntryFormat) (formats : List FileEntryFormat) (v : View)
    (d : Error) → check (entry_value limit e format.form.0) v ≡ Err d
    → check (entry_fields limit e (format ∷ formats)) v ≡ Err d
unfolding entry_fields
first_refused limit e format formats v d h =
    ap (λ (r : Result (RawValue × View) Error). proceed (proceed r (fields_after limit e format formats))
    (λ _. give (tt {0}))) (refused_read (λ _. tt {0}) (entry_value limit e format.form.0 v) d h)

-- what is left of a check
abbrev Checked : Type 0
Checked = Result ((Unit {0}) × View) Error

-- the next field is checked
pub fields_next : (limit : ℕ) (e : Encoding) (formats : List FileEntryFormat) (i : ℕ) (format : FileEntryFormat)
    (v w : View) (all : Checked) → i < length formats → format ≡ get_or formats i format
    → check (entry_value limit e format.form.0) v ≡ left_at w
    → check (entry_fields limit e (drop i formats)) v ≡ all
    → check (entry_fields limit e (drop (i + 1) formats)) w ≡ all
fields_next limit e formats i format v w all more at h same =
    sym (first_checked limit e format (drop (i + 1) formats) v w h)
    ∙ ap (λ (fs : List FileEntryFormat). check (entry_fields limit e fs) v) (sym (drop_next formats i format more at))
    ∙ same

-- the next field can't be read
pub fields_refused : (limit : ℕ) (e : Encoding) (formats : List FileEntryFormat) (i : ℕ) (format : FileEntryFormat)
    (v : View) (d : Error) (all : Checked) → i < length formats → format ≡ get_or formats i format
    → check (entry_value limit e format.form.0) v ≡ Err d
    → check (entry_fields limit e (drop i formats)) v ≡ all → all ≡ Err d
fields_refused limit e formats i format v d all more at h same =
    sym same
    ∙ ap (λ (fs : List FileEntryFormat). check (entry_fields limit e fs) v) (drop_next formats i format more at)
    ∙ first_refused limit e format (drop (i + 1) formats) v d h

-- no field is left
pub fields_over : (limit : ℕ) (e : Encoding) (formats : List FileEntryFormat) (i : ℕ) (v : View) (all : Checked)
    → length formats ≤ i → check (entry_fields limit e (drop i formats)) v ≡ all → all ≡ left_at v
unfolding entry_fields
fields_over limit e formats i v all over same =
    sym same ∙ ap (λ (fs : List FileEntryFormat). check (entry_fields limit e fs) v) (drop_all i formats over)

-- ---- the path

-- there is a path
abbrev HasPath : List FileEntryFormat → Type 0
HasPath formats = 0 < count_by (λ (f : FileEntryFormat). eqb f.content_type.0 path_content) formats

-- the path of fields, after one before them
abbrev path_after : Option RawValue → List Field → Option RawValue
path_after before fields = last_in (content_as path_content whole_value) before fields

abbrev IsThere : Option RawValue → Type 0
IsThere o = (x : RawValue) × (o ≡ Some x)

-- a path stays
stays_by : (x : RawValue) (field : Field) (fields : List Field) (b : Bool) → eqb field.content path_content ≡ b
    → IsThere (path_after (Some field.value) fields) → IsThere (path_after (Some x) fields)
    → IsThere (path_after (Some x) (field ∷ fields))
stays_by x field fields true is here there = rw is here
stays_by x field fields false is here there = rw is there

path_stays : (x : RawValue) (fields : List Field) → IsThere (path_after (Some x) fields)
path_stays x [] = (x, refl)
path_stays x (field ∷ fields) =
    stays_by x field fields (eqb field.content path_content) refl (path_stays field.value fields) (path_stays x fields)

-- where the first format isn't a path another one is
abbrev paths_in : List FileEntryFormat → ℕ
paths_in formats = count_by (λ (f : FileEntryFormat). eqb f.content_type.0 path_content) formats

abbrev one_where : Bool → ℕ
one_where b = cond b 1 0

fewer_by : (here : Bool) (all others : ℕ) → here ≡ false → all ≡ one_where here + others → 0 < all → 0 < others
fewer_by true all others is sum more = absurd cc
fewer_by false all others is sum more = omega arith

others_have : (format : FileEntryFormat) (formats : List FileEntryFormat) → eqb format.content_type.0 path_content
    ≡ false → HasPath (format ∷ formats) → HasPath formats
others_have format formats is has =
    fewer_by (eqb format.content_type.0 path_content) (paths_in (format ∷ formats)) (paths_in formats) is
    (sum_by-cons (λ (f : FileEntryFormat). cond (eqb f.content_type.0 path_content) 1 0) format formats) has

have_by : (format : FileEntryFormat) (formats : List FileEntryFormat) (x : RawValue) (rest : List Field) (b : Bool)
    → eqb format.content_type.0 path_content ≡ b → HasPath (format ∷ formats)
    → (HasPath formats → IsThere (path_after None rest))
    → IsThere (path_after None (record { content = format.content_type.0; value = x } ∷ rest))
have_by format formats x rest true is has others = rw is (path_stays x rest)
have_by format formats x rest false is has others = rw is (others (others_have format formats is has))

-- the fields have the path that the formats have
fields_have_path : (limit : ℕ) (e : Encoding) (formats : List FileEntryFormat) (v w : View) (fields : List Field)
    → HasPath formats → entry_fields limit e formats v ≡ Ok (fields, w) → IsThere (path_after None fields)
unfolding entry_fields
fields_have_path limit e [] v w fields has h = absurd (omega arith)
fields_have_path limit e (format ∷ formats) v w fields has h =
    let first = begins (entry_value limit e format.form.0 v) (fields_after limit e format formats) fields w h in
    let second = begins (entry_fields limit e formats first.1)
    (λ fs. give (record { content = format.content_type.0; value = first.0 } ∷ fs)) fields w first.3 in
    let all = value_is (record { content = format.content_type.0; value = first.0 } ∷ second.0) fields second.1 w
    second.3 in
    rw (← all) (have_by format formats first.0 second.0 (eqb format.content_type.0 path_content) refl has
    (λ more. fields_have_path limit e formats first.1 second.1 second.0 more second.2))

-- ---- entries

-- a file of these facts
abbrev file_of : EntryFacts → RawValue → FileFacts
file_of facts path = record {
  path = path;
  directory_index = facts.directory_index;
  timestamp = facts.timestamp;
  size = facts.size;
  md5 = facts.md5;
  source = facts.source;
}

-- an entry whose path is there
path_read : {A : Type 0} (f : RawValue → A) (o : Option RawValue) (w : View) → IsThere o
    → proceed (proceed (some_or MissingFileEntryFormatPath o w) (λ path. give (f path))) (λ _. give (tt {0}))
    ≡ left_at w
path_read f None w there = let no = there.1 in absurd cc
path_read f (Some x) w there = refl

path_alone : (o : Option RawValue) (w : View) → IsThere o
    → proceed (some_or MissingFileEntryFormatPath o w) (λ _. give (tt {0})) ≡ left_at w
path_alone None w there = let no = there.1 in absurd cc
path_alone (Some x) w there = refl

directory_by : (is_big : Bool) (r : Result (List Field × View) Error)
    → ((fields : List Field) (w : View) → r ≡ Ok (fields, w) → IsThere (path_after None fields))
    → proceed (proceed (proceed r (λ fields. give (facts_after is_big no_facts fields)))
    (λ facts. some_or MissingFileEntryFormatPath facts.path)) (λ _. give (tt {0})) ≡ proceed r (λ _. give (tt {0}))
directory_by is_big (Err d) there = refl
directory_by is_big (Ok r) there = path_alone (path_after None r.0) r.1 (there r.0 r.1 refl)

file_by : (is_big : Bool) (r : Result (List Field × View) Error)
    → ((fields : List Field) (w : View) → r ≡ Ok (fields, w) → IsThere (path_after None fields))
    → proceed (proceed (proceed r (λ fields. give (facts_after is_big no_facts fields)))
    (λ facts s. proceed (some_or MissingFileEntryFormatPath facts.path s) (λ path. give (file_of facts path))))
    (λ _. give (tt {0})) ≡ proceed r (λ _. give (tt {0}))
file_by is_big (Err d) there = refl
file_by is_big (Ok r) there =
    path_read (file_of (facts_after is_big no_facts r.0)) (path_after None r.0) r.1 (there r.0 r.1 refl)

-- an entry is refused as its fields are
pub directory_alike : (limit : ℕ) (e : Encoding) (formats : List FileEntryFormat) → HasPath formats → (v : View)
    → check (directory_entry limit e formats) v ≡ check (entry_fields limit e formats) v
unfolding directory_entry entry
directory_alike limit e formats has v = directory_by v.is_big (entry_fields limit e formats v)
    (λ fields w is. fields_have_path limit e formats v w fields has is)

pub file_alike : (limit : ℕ) (e : Encoding) (formats : List FileEntryFormat) → HasPath formats → (v : View)
    → check (file_entry limit e formats) v ≡ check (entry_fields limit e formats) v
unfolding file_entry entry
file_alike limit e formats has v = file_by v.is_big (entry_fields limit e formats v)
    (λ fields w is. fields_have_path limit e formats v w fields has is)

-- ---- formats and entries

-- formats that are read have a path
one_is_some : (formats : List FileEntryFormat) → has_one_path formats ≡ true → HasPath formats
one_is_some formats is =
    let one = eqb-true (count_by (λ (f : FileEntryFormat). eqb f.content_type.0 path_content) formats) 1 is in
    omega arith

one_by : (formats all : List FileEntryFormat) (s w : View) (b : Bool) → has_one_path formats ≡ b
    → proceed (cond b (Ok (tt {0}, s)) (Err MissingFileEntryFormatPath)) (λ _. give formats) ≡ read all w
    → HasPath all
one_by formats all s w false is k = absurd cc
one_by formats all s w true is k = rw (← (value_is formats all s w k)) (one_is_some formats is)

one_path : (formats all : List FileEntryFormat) (s w : View)
    → proceed (demand (has_one_path formats) MissingFileEntryFormatPath s) (λ _. give formats) ≡ read all w
    → HasPath all
one_path formats all s w h = one_by formats all s w (has_one_path formats) refl h

formats_have_path : (v w : View) (formats : List FileEntryFormat) → entry_formats v ≡ Ok (formats, w)
    → HasPath formats
unfolding entry_formats
formats_have_path v w formats h =
    let first = begins (fixed 1 v) (λ count s. proceed (times count entry_format s) (λ fs t. proceed
    (demand (has_one_path fs) MissingFileEntryFormatPath t) (λ _. give fs))) formats w h in
    let second = begins (times first.0 entry_format first.1) (λ fs t. proceed
    (demand (has_one_path fs) MissingFileEntryFormatPath t) (λ _. give fs)) formats w first.3 in
    one_path second.0 formats second.1 w second.3

-- formats, and entries that are refused as their fields are
abbrev pub described : ℕ → Encoding → Step View (Unit {0})
described limit e v =
    proceed (entry_formats v) (λ formats s. proceed (unsigned s)
    (λ count. check (times count (entry_fields limit e formats))))

abbrev keeps : {A : Type 0} → List FileEntryFormat → List A → Step View (List FileEntryFormat × List A)
keeps formats xs = give (formats, xs)

forgotten : {A : Type 0} (formats : List FileEntryFormat) (q : Result (List A × View) Error)
    → proceed (proceed q (λ xs. keeps formats xs)) (λ _. give (tt {0})) ≡ proceed q (λ _. give (tt {0}))
forgotten formats (Ok q) = refl
forgotten formats (Err d) = refl

counted_alike : {A : Type 0} (p : Step View A) (limit : ℕ) (e : Encoding) (formats : List FileEntryFormat)
    → ((v : View) → check p v ≡ check (entry_fields limit e formats) v) → (r : Result (ℕ × View) Error)
    → proceed (proceed (proceed r (λ count. times count p)) (λ xs. keeps formats xs)) (λ _. give (tt {0}))
    ≡ proceed r (λ count. check (times count (entry_fields limit e formats)))
counted_alike p limit e formats alike (Err d) = refl
counted_alike p limit e formats alike (Ok r) =
    forgotten formats (times r.0 p r.1) ∙ check_times_alike p (entry_fields limit e formats) alike r.0 r.1

directories_by : (limit : ℕ) (e : Encoding) (r : Result (List FileEntryFormat × View) Error)
    → ((formats : List FileEntryFormat) (w : View) → r ≡ Ok (formats, w) → HasPath formats)
    → proceed (proceed r (λ formats s. proceed (directory_entries limit e formats s) (λ ds. keeps formats ds)))
    (λ _. give (tt {0}))
    ≡ proceed r (λ formats s. proceed (unsigned s) (λ count. check (times count (entry_fields limit e formats))))
unfolding directory_entries
directories_by limit e (Err d) has = refl
directories_by limit e (Ok r) has = counted_alike (directory_entry limit e r.0) limit e r.0
    (directory_alike limit e r.0 (has r.0 r.1 refl)) (unsigned r.1)

files_by : (limit : ℕ) (e : Encoding) (r : Result (List FileEntryFormat × View) Error)
    → ((formats : List FileEntryFormat) (w : View) → r ≡ Ok (formats, w) → HasPath formats)
    → proceed (proceed r (λ formats s. proceed (file_entries limit e formats s) (λ fs. keeps formats fs)))
    (λ _. give (tt {0}))
    ≡ proceed r (λ formats s. proceed (unsigned s) (λ count. check (times count (entry_fields limit e formats))))
unfolding file_entries
files_by limit e (Err d) has = refl
files_by limit e (Ok r) has = counted_alike (file_entry limit e r.0) limit e r.0
    (file_alike limit e r.0 (has r.0 r.1 refl)) (unsigned r.1)

pub described_directories : (limit : ℕ) (e : Encoding) (v : View)
    → check (directories_of_5 limit e) v ≡ described limit e v
unfolding directories_of_5
described_directories limit e v = directories_by limit e (entry_formats v)
    (λ formats w is. formats_have_path v w formats is)

pub described_files : (limit : ℕ) (e : Encoding) (v : View) → check (files_of_5 limit e) v ≡ described limit e v
unfolding files_of_5
described_files limit e v = files_by limit e (entry_formats v) (λ formats w is. formats_have_path v w formats is)

-- both tables
pub ruleset described_tables = (described_directories, described_files)
