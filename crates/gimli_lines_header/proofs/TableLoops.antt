-- How a loop that reads n items continues, and how one that reads the fields of an entry does.
use Rattle.std.proofs.Common.{◌≡◌, ℕ, suc, ◌+◌, ◌-◌, ◌<◌, ◌≤◌, Bool, List, [], ◌∷◌, ◌++◌, length, take, drop, set, get_or, map, Result, Ok, Err, refl, sym, ◌∙◌, ap, arith, drop-cons}
use Rattle.std.proofs.lemmas.List.{map-append, drop_all, take_more_set}
use Rattle.gimli_units_headers.specs.Error.{Error}
use Rattle.gimli_units_headers.specs.View.{View}
use Rattle.gimli_units_headers.specs.Parsers.{Step, proceed, give, map_value}
use Rattle.gimli_units_headers.specs.Repetition.{times}
use Rattle.gimli_units_headers.proofs.StepParts.{begins, value_is, state_is, proceed-proceed}
use Rattle.gimli_units_headers.proofs.Times.{prepend, count_item, count_push}
use Rattle.gimli_units_headers.specs.Encoding.{Encoding}
use Rattle.gimli_units_forms.specs.AttributeValues.{RawValue}
use Rattle.gimli_lines_header.specs.declared.formats.FileEntryFormat.{FileEntryFormat}
use Rattle.gimli_lines_header.specs.TableEntries.{EntryFacts, entry_format, entry_value, entry_fields, facts_after, facts_with}
use Rattle.gimli_lines_header.proofs.CheckSteps.{refused_read}

-- ---- count items, of which i are read

-- none is read yet
pub count_start : {S A : Type 0} (p : Step S A) (count : ℕ) (xs : List A) (s : S) → xs ≡ []
    → prepend xs (times (count - 0) p s) ≡ times count p s
count_start {S} {A} p count xs s none =
    let all : count - 0 ≡ count = omega arith in
    ap (λ (ys : List A). prepend ys (times (count - 0) p s)) none ∙ ap (λ (n : ℕ). prepend [] (times n p s)) all
    ∙ nothing_before (times count p s)
  where
    nothing_before : (r : Result (List A × S) Error) → prepend [] r ≡ r
    nothing_before (Ok r) = refl
    nothing_before (Err d) = refl

-- a further item is read, where a contract sees items by a function
pub count_view : {S A X : Type 0} (p : Step S A) (see : X → A) (count i : ℕ) (xs ys : List X) (x : X) (s t : S)
    (all : Result (List A × S) Error) → i < count → p s ≡ Ok (see x, t) → ys ≡ xs ++ x ∷ []
    → prepend (map see xs) (times (count - i) p s) ≡ all → prepend (map see ys) (times (count - (i + 1)) p t) ≡ all
count_view {S} {A} p see count i xs ys x s t all more read pushed same =
    ap (λ (zs : List A). prepend zs (times (count - (i + 1)) p t)) (ap (map see) pushed ∙ map-append see xs (x ∷ []))
    ∙ count_item p count i (map see xs) (see x) s t all more read same

-- a further format is stored in its place
pub count_stored : (count i j : ℕ) (room : List FileEntryFormat) (x : FileEntryFormat) (s t : View)
    (all : Result (List FileEntryFormat × View) Error) → j ≡ i → i < count → i < length room
    → entry_format s ≡ Ok (x, t) → prepend (take i room) (times (count - i) entry_format s) ≡ all
    → prepend (take (i + 1) (set room j x)) (times (count - (i + 1)) entry_format t) ≡ all
count_stored count i j room x s t all same more there read so_far =
    count_push entry_format count i (take i room) (take (i + 1) (set room j x)) x s t all more read
    (ap (λ (k : ℕ). take (i + 1) (set room k x)) same ∙ take_more_set room i x there) so_far

-- ---- the fields of an entry

-- what the fields of further formats add to what is said
abbrev pub further : ℕ → Encoding → Bool → List FileEntryFormat → EntryFacts → View → Result (EntryFacts × View) Error
further limit e is_big formats facts v =
    proceed (entry_fields limit e formats v) (λ fields. give (facts_after is_big facts fields))

first_field : (limit : ℕ) (e : Encoding) (is_big : Bool) (format : FileEntryFormat) (formats : List FileEntryFormat)
    (facts : EntryFacts) (v w : View) (x : RawValue) → entry_value limit e format.form.0 v ≡ Ok (x, w)
    → further limit e is_big (format ∷ formats) facts v
    ≡ further limit e is_big formats (facts_after is_big facts (record { content = format.content_type.0; value = x }
    ∷ [])) w
unfolding entry_fields
first_field limit e is_big format formats facts v w x read =
    ap (λ (r : Result (RawValue × View) Error).
    proceed (proceed r (λ y. λ s. proceed (entry_fields limit e formats s)
    (λ fields. give (record { content = format.content_type.0; value = y } ∷ fields))))
    (λ fields. give (facts_after is_big facts fields))) read
    ∙ proceed-proceed (entry_fields limit e formats w)
    (λ fields. give (record { content = format.content_type.0; value = x } ∷ fields))
    (λ fields. give (facts_after is_big facts fields))

first_fault : (limit : ℕ) (e : Encoding) (is_big : Bool) (format : FileEntryFormat) (formats : List FileEntryFormat)
    (facts : EntryFacts) (v : View) (d : Error) → entry_value limit e format.form.0 v ≡ Err d
    → further limit e is_big (format ∷ formats) facts v ≡ Err d
unfolding entry_fields
first_fault limit e is_big format formats facts v d fault =
    ap (λ (r : Result (RawValue × View) Error).
    proceed (proceed r (λ y. λ s. proceed (entry_fields limit e formats s)
    (λ fields. give (record { content = format.content_type.0; value = y } ∷ fields))))
    (λ fields. give (facts_after is_big facts fields))) fault

-- no format is left
pub no_further : (limit : ℕ) (e : Encoding) (is_big : Bool) (facts : EntryFacts) (v : View)
    → further limit e is_big [] facts v ≡ Ok (facts, v)
unfolding entry_fields
no_further limit e is_big facts v = refl

-- the formats from one on
pub drop_next : (formats : List FileEntryFormat) (i : ℕ) (format : FileEntryFormat) → i < length formats
    → format ≡ get_or formats i format → drop i formats ≡ format ∷ drop (i + 1) formats
drop_next formats i format more at =
    let next : i + 1 ≡ suc i = omega arith in
    drop-cons formats i format more ∙ ap (λ (f : FileEntryFormat). f ∷ drop (suc i) formats) (sym at)
    ∙ ap (λ (n : ℕ). format ∷ drop n formats) (sym next)

-- the next field is read
pub further_next : (limit : ℕ) (e : Encoding) (is_big : Bool) (formats : List FileEntryFormat) (i : ℕ)
    (format : FileEntryFormat) (facts now : EntryFacts) (v w : View) (all : Result (EntryFacts × View) Error)
    → i < length formats → format ≡ get_or formats i format
    → map_value (facts_with is_big facts format.content_type.0) (entry_value limit e format.form.0) v ≡ Ok (now, w)
    → further limit e is_big (drop i formats) facts v ≡ all → further limit e is_big (drop (i + 1) formats) now w ≡ all
further_next limit e is_big formats i format facts now v w all more at takes same =
    let r = begins (entry_value limit e format.form.0 v)
    (λ x. give (facts_with is_big facts format.content_type.0 x)) now w takes in
    let rest = drop (i + 1) formats in
    ap (λ (f : EntryFacts). further limit e is_big rest f w)
    (sym (value_is (facts_with is_big facts format.content_type.0 r.0) now r.1 w r.3))
    ∙ ap (λ (t : View). further limit e is_big rest (facts_with is_big facts format.content_type.0 r.0) t)
    (sym (state_is (facts_with is_big facts format.content_type.0 r.0) now r.1 w r.3))
    ∙ sym (first_field limit e is_big format rest facts v r.1 r.0 r.2)
    ∙ ap (λ (fs : List FileEntryFormat). further limit e is_big fs facts v) (sym (drop_next formats i format more at))
    ∙ same

-- the next field can't be read
pub further_fault : (limit : ℕ) (e : Encoding) (is_big : Bool) (formats : List FileEntryFormat) (i : ℕ)
    (format : FileEntryFormat) (facts : EntryFacts) (v : View) (d : Error) (all : Result (EntryFacts × View) Error)
    → i < length formats → format ≡ get_or formats i format
    → map_value (facts_with is_big facts format.content_type.0) (entry_value limit e format.form.0) v ≡ Err d
    → further limit e is_big (drop i formats) facts v ≡ all → all ≡ Err d
further_fault limit e is_big formats i format facts v d all more at fault same =
    sym same ∙ ap (λ (fs : List FileEntryFormat). further limit e is_big fs facts v)
    (drop_next formats i format more at)
    ∙ first_fault limit e is_big format (drop (i + 1) formats) facts v d
    (refused_read (facts_with is_big facts format.content_type.0) (entry_value limit e format.form.0 v) d fault)

-- no format is left
pub further_end : (limit : ℕ) (e : Encoding) (is_big : Bool) (formats : List FileEntryFormat) (i : ℕ)
    (facts : EntryFacts) (v : View) (all : Result (EntryFacts × View) Error) → length formats ≤ i
    → further limit e is_big (drop i formats) facts v ≡ all → all ≡ Ok (facts, v)
further_end limit e is_big formats i facts v all over same =
    sym same ∙ ap (λ (fs : List FileEntryFormat). further limit e is_big fs facts v) (drop_all i formats over)
    ∙ no_further limit e is_big facts v
