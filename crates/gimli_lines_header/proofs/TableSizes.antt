-- How many bytes tables take: no fewer than they have entries.
use Rattle.std.proofs.Common.{◌≡◌, ℕ, zero, suc, ◌+◌, ◌*◌, ◌<◌, ◌≤◌, List, [], ◌∷◌, length, min, Option, Some, None, Result, Ok, Err, refl, ◌∙◌, ap, arith}
use Rattle.gimli_units_headers.specs.Error.{Error}
use Rattle.gimli_units_headers.specs.Error.TheVariants.{MissingFileEntryFormatPath}
use Rattle.gimli_units_headers.specs.View.{View, bytes_left}
use Rattle.gimli_units_headers.specs.Parsers.{Step, proceed, give, some_or}
use Rattle.gimli_units_headers.specs.Repetition.{items_within, listing_in, next_item, item_or_end, whole_of, all_of, times}
use Rattle.gimli_units_headers.proofs.StepParts.{begins, value_is, state_is}
use Rattle.gimli_units_headers.specs.Encoding.{Encoding}
use Rattle.gimli_units_headers.specs.NumberParsers.{unsigned, unsigned_16}
use Rattle.gimli_units_headers.proofs.NumberReadSizes.{Below-unsigned, Below-unsigned_16}
use Rattle.gimli_lines_header.specs.declared.formats.FileEntryFormat.{FileEntryFormat}
use Rattle.gimli_lines_header.specs.LineFiles.{FileFacts}
use Rattle.gimli_lines_header.specs.TableEntries.{entry_format, entry_value, entry_fields, entry, EntryFacts, Field, facts_after, no_facts, directory_entry, file_entry}
use Rattle.gimli_lines_header.specs.LineHeaderLaws.{EntriesTakeBytes}
use Rattle.gimli_units_forms.specs.AttributeValues.{RawValue}
use Rattle.gimli_lines_header.proofs.FieldSizes.{Below-entry_value}

-- ---- entries of version 5

abbrev field : FileEntryFormat → RawValue → Field
field format x = record { content = format.content_type.0; value = x }

-- the fields after the first
abbrev with_first : ℕ → Encoding → FileEntryFormat → List FileEntryFormat → RawValue → Step View (List Field)
with_first limit e format formats x s =
    proceed (entry_fields limit e formats s) (λ fields. give (field format x ∷ fields))

-- what fields leave: the first takes a byte, where there is one
field_takes : (limit : ℕ) (e : Encoding) (format : FileEntryFormat) (formats : List FileEntryFormat) (v w : View)
    (fields : List Field) → ((s t : View) (fs : List Field) → entry_fields limit e formats s ≡ Ok (fs, t)
    → bytes_left t ≤ bytes_left s) → entry_fields limit e (format ∷ formats) v ≡ Ok (fields, w)
    → bytes_left w < bytes_left v
unfolding entry_fields
field_takes limit e format formats v w fields leave read =
    let first = begins (entry_value limit e format.form.0 v) (with_first limit e format formats) fields w read in
    let less = (Below-entry_value {n = bytes_left v} limit e format.form.0 v (omega arith)).left first.0 first.1
    first.2 in
    let second = begins (entry_fields limit e formats first.1) (λ fs. give (field format first.0 ∷ fs)) fields w
    first.3 in
    let rest = leave first.1 second.1 second.0 second.2 in
    let same : bytes_left second.1 ≡ bytes_left w =
    ap bytes_left (state_is (field format first.0 ∷ second.0) fields second.1 w second.3) in
    omega arith

fields-leave : (limit : ℕ) (e : Encoding) (formats : List FileEntryFormat) (v w : View) (fields : List Field)
    → entry_fields limit e formats v ≡ Ok (fields, w) → bytes_left w ≤ bytes_left v
unfolding entry_fields
fields-leave limit e [] v w fields read =
    let same : bytes_left v ≡ bytes_left w = ap bytes_left (state_is [] fields v w read) in omega arith
fields-leave limit e (format ∷ formats) v w fields read = let less =
    field_takes limit e format formats v w fields (λ s t fs r. fields-leave limit e formats s t fs r) read in
    omega arith

fields-take : (limit : ℕ) (e : Encoding) (format : FileEntryFormat) (formats : List FileEntryFormat) (v w : View)
    (fields : List Field) → entry_fields limit e (format ∷ formats) v ≡ Ok (fields, w) → bytes_left w < bytes_left v
fields-take limit e format formats v w fields read =
    field_takes limit e format formats v w fields (λ s t fs r. fields-leave limit e formats s t fs r) read

-- an entry with a path takes a byte
entry-takes : (limit : ℕ) (e : Encoding) (formats : List FileEntryFormat) (v w : View) (facts : EntryFacts)
    (path : RawValue) → entry limit e formats v ≡ Ok (facts, w) → facts.path ≡ Some path → bytes_left w < bytes_left v
unfolding entry entry_fields
entry-takes limit e [] v w facts path read is =
    let same : no_facts ≡ facts = value_is no_facts facts v w read in
    let none : None ≡ Some path = ap (λ (f : EntryFacts). f.path) same ∙ is in absurd cc
entry-takes limit e (format ∷ formats) v w facts path read is =
    let all = begins (entry_fields limit e (format ∷ formats) v) (λ fields. give (facts_after v.is_big no_facts fields))
    facts w read in
    let less = fields-take limit e format formats v all.1 all.0 all.2 in
    let same : bytes_left all.1 ≡ bytes_left w =
    ap bytes_left (state_is (facts_after v.is_big no_facts all.0) facts all.1 w all.3) in
    omega arith

-- a path that is there is the one of the facts
path_there : (o : Option RawValue) (v w : View) (d : Error) (path : RawValue) → some_or d o v ≡ Ok (path, w)
    → (o ≡ Some path) × (v ≡ w)
path_there None v w d path read = absurd cc
path_there (Some x) v w d path read = (ap some_of (value_is x path v w read), state_is x path v w read)
  where
    some_of : RawValue → Option RawValue
    some_of y = Some y

pub directory_entry-takes : (limit : ℕ) (e : Encoding) (formats : List FileEntryFormat) (v w : View) (path : RawValue)
    → directory_entry limit e formats v ≡ Ok (path, w) → bytes_left w < bytes_left v
unfolding directory_entry
directory_entry-takes limit e formats v w path read =
    let first = begins (entry limit e formats v) (λ facts. some_or MissingFileEntryFormatPath facts.path) path w read in
    let there = path_there first.0.path first.1 w MissingFileEntryFormatPath path first.3 in
    let less = entry-takes limit e formats v first.1 first.0 path first.2 there.0 in
    let same : bytes_left first.1 ≡ bytes_left w = ap bytes_left there.1 in
    omega arith

-- a file of these facts
abbrev file_of : EntryFacts → RawValue → FileFacts
file_of facts path = record {
  path = path;
  directory_index = facts.directory_index;
  timestamp = facts.timestamp;
  size = facts.size;
  md5 = facts.md5;
  source = facts.source;
}

abbrev file_with : EntryFacts → Step View FileFacts
file_with facts s = proceed (some_or MissingFileEntryFormatPath facts.path s) (λ path. give (file_of facts path))

pub file_entry-takes : (limit : ℕ) (e : Encoding) (formats : List FileEntryFormat) (v w : View) (file : FileFacts)
    → file_entry limit e formats v ≡ Ok (file, w) → bytes_left w < bytes_left v
unfolding file_entry
file_entry-takes limit e formats v w file read =
    let first = begins (entry limit e formats v) file_with file w read in
    let second = begins (some_or MissingFileEntryFormatPath first.0.path first.1) (λ path. give (file_of first.0 path))
    file w first.3 in
    let there = path_there first.0.path first.1 second.1 MissingFileEntryFormatPath second.0 second.2 in
    let less = entry-takes limit e formats v first.1 first.0 second.0 first.2 there.0 in
    let same : bytes_left first.1 ≡ bytes_left second.1 = ap bytes_left there.1 in
    let last : bytes_left second.1 ≡ bytes_left w =
    ap bytes_left (state_is (file_of first.0 second.0) file second.1 w second.3) in
    omega arith

pub entries_take_bytes : EntriesTakeBytes
entries_take_bytes limit e formats v rest file read = file_entry-takes limit e formats v rest file read

abbrev format_of : ℕ → ℕ → FileEntryFormat
format_of content form = record { content_type = record { 0 = min content 0xffff }; form = record { 0 = form } }

-- a format takes two
pub entry_format-takes : (v w : View) (format : FileEntryFormat) → entry_format v ≡ Ok (format, w)
    → bytes_left w + 2 ≤ bytes_left v
unfolding entry_format
entry_format-takes v w format read =
    let first = begins (unsigned v) (λ content s. proceed (unsigned_16 s) (λ form. give (format_of content form)))
    format w read in
    let one = (Below-unsigned {n = bytes_left v} v (omega arith)).left first.0 first.1 first.2 in
    let second = begins (unsigned_16 first.1) (λ form. give (format_of first.0 form)) format w first.3 in
    let two = (Below-unsigned_16 {n = bytes_left first.1} first.1 (omega arith)).left second.0 second.1 second.2 in
    let same : bytes_left second.1 ≡ bytes_left w =
    ap bytes_left (state_is (format_of first.0 second.0) format second.1 w second.3) in
    omega arith

-- ---- repetitions

-- items that take n bytes each
pub record Each {A : Type 0} (k : ℕ) (p : Step View A) : Type 0 where
  pub takes : (v w : View) (x : A) → p v ≡ Ok (x, w) → bytes_left w + k ≤ bytes_left v

pub times_room : {A : Type 0} {p : Step View A} (k : ℕ) → Each k p → (count : ℕ) (v w : View) (xs : List A)
    → times count p v ≡ Ok (xs, w) → k * length xs + bytes_left w ≤ bytes_left v
unfolding times
times_room {A} {p} k each zero v w xs read =
    let size : length {A = A} [] ≡ length xs = ap length (value_is [] xs v w read) in
    let same : bytes_left v ≡ bytes_left w = ap bytes_left (state_is [] xs v w read) in
    rw (← size) (omega arith)
times_room {A} {p} k each (suc count) v w xs read =
    let first = begins (p v) (λ x s. proceed (times count p s) (λ ys. give (x ∷ ys))) xs w read in
    let one = each.takes v first.1 first.0 first.2 in
    let second = begins (times count p first.1) (λ ys. give (first.0 ∷ ys)) xs w first.3 in
    let rest = times_room k each count first.1 second.1 second.0 second.2 in
    let size : suc (length second.0) ≡ length xs = ap length (value_is (first.0 ∷ second.0) xs second.1 w second.3) in
    let same : bytes_left second.1 ≡ bytes_left w =
    ap bytes_left (state_is (first.0 ∷ second.0) xs second.1 w second.3) in
    rw (← size) (omega arith)

-- items up to one that isn't there, each of which takes a byte, as what ends them may
pub record UpTo {A : Type 0} (p : Step View (Option A)) : Type 0 where
  pub takes : (v w : View) (o : Option A) → p v ≡ Ok (o, w) → bytes_left w < bytes_left v

abbrev well : View → Result View Error
well w = Ok w

ok_is : (a b : View) → well a ≡ well b → a ≡ b
ok_is a b h = cc

list_room : {A : Type 0} {p : Step View (Option A)} → UpTo p → (k : ℕ) (v w : View) → (items_within k p v).ending ≡ Ok w
    → length (items_within k p v).items + bytes_left w ≤ bytes_left v
unfolding items_within
list_room each zero v w e = let same : bytes_left v ≡ bytes_left w = ap bytes_left (ok_is v w e) in omega arith
list_room {A} {p} each (suc k) v w e = by_step (p v) refl e (λ t f. list_room each k t w f)
  where
    by_item : (o : Option A) (t : View) → bytes_left t < bytes_left v → (item_or_end o t (items_within k p)).ending
        ≡ Ok w → ((items_within k p t).ending ≡ Ok w → length (items_within k p t).items + bytes_left w ≤ bytes_left t)
        → length (item_or_end o t (items_within k p)).items + bytes_left w ≤ bytes_left v
    by_item None t less f again = let same : bytes_left t ≡ bytes_left w = ap bytes_left (ok_is t w f) in omega arith
    by_item (Some x) t less f again = let rest = again f in omega arith

    by_step : (r : Result (Option A × View) Error) → p v ≡ r → (next_item r (items_within k p)).ending ≡ Ok w
        → ((t : View) → (items_within k p t).ending ≡ Ok w → length (items_within k p t).items + bytes_left w
        ≤ bytes_left t) → length (next_item r (items_within k p)).items + bytes_left w ≤ bytes_left v
    by_step (Err d) q f again = absurd cc
    by_step (Ok r) q f again = by_item r.0 r.1 (each.takes v r.1 r.0 q) f (again r.1)

pub all_room : {A : Type 0} {p : Step View (Option A)} → UpTo p → (v w : View) (xs : List A) → all_of bytes_left p v
    ≡ Ok (xs, w) → length xs + bytes_left w ≤ bytes_left v
unfolding listing_in
all_room {A} {p} each v w xs read = by_end (items_within (suc (bytes_left v)) p v).ending refl read
  where
    by_end : (r : Result View Error) → (items_within (suc (bytes_left v)) p v).ending ≡ r
        → whole_of (items_within (suc (bytes_left v)) p v).items r ≡ Ok (xs, w) → length xs + bytes_left w
        ≤ bytes_left v
    by_end (Err d) e f = absurd cc
    by_end (Ok t) e f =
        let room = list_room each (suc (bytes_left v)) v t e in
        let size : length (items_within (suc (bytes_left v)) p v).items ≡ length xs =
        ap length (value_is (items_within (suc (bytes_left v)) p v).items xs t w f) in
        let same : bytes_left t ≡ bytes_left w =
        ap bytes_left (state_is (items_within (suc (bytes_left v)) p v).items xs t w f) in
        omega arith
