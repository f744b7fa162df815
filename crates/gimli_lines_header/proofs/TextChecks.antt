-- Directories and files up to version 4 that are checked: what is known of a text that was skipped is its length.
use Rattle.std.proofs.Common.{◌≡◌, ◌≢◌, ℕ, Bool, true, false, cond, eqb, not, Option, Some, None, Result, Ok, Err, refl, ◌∙◌, ap}
use Rattle.std.proofs.lemmas.Bool.{ne_eqb}
use Rattle.std.specs.Option.{is_some}
use Rattle.gimli_units_headers.specs.Error.{Error}
use Rattle.gimli_units_headers.specs.View.{View, bytes_left}
use Rattle.gimli_units_headers.specs.Parsers.{proceed, give, map_value, null_terminated}
use Rattle.gimli_units_headers.specs.NumberParsers.{unsigned}
use Rattle.gimli_units_headers.proofs.StepParts.{begins, value_is, state_is, read}
use Rattle.gimli_units_forms.specs.AttributeValues.{RawValue, string}
use Rattle.gimli_lines_header.specs.LineFiles.{FileFacts, file_in}
use Rattle.gimli_lines_header.specs.HeaderTables.{directory_text, file_after_path, file_text}
use Rattle.gimli_lines_header.proofs.CheckSteps.{refused_read}

-- whether there is an item
abbrev There : Type 0
There = Result (Bool × View) Error

-- ---- directories

abbrev directory_by : View → View → Bool → There
directory_by text s b =
    proceed (cond b (Ok (None, s)) (Ok (Some (string text), s))) (λ (o : Option RawValue). give (is_some o))

directory_is : (text s : View) (b : Bool) → directory_by text s b ≡ read (not b) s
directory_is text s true = refl
directory_is text s false = refl

abbrev directory_of : Result (View × View) Error → There
directory_of r =
    proceed (proceed r (λ text s. cond (eqb (bytes_left text) 0) (Ok (None, s)) (Ok (Some (string text), s))))
    (λ (o : Option RawValue). give (is_some o))

pub directory_there : (v w : View) (n : ℕ) → map_value bytes_left null_terminated v ≡ Ok (n, w)
    → map_value is_some directory_text v ≡ read (not (eqb n 0)) w
unfolding directory_text
directory_there v w n h =
    let b = begins (null_terminated v) (λ text. give (bytes_left text)) n w h in
    ap directory_of b.2 ∙ directory_is b.0 b.1 (eqb (bytes_left b.0) 0)
    ∙ ap (λ (k : ℕ). read (not (eqb k 0)) b.1) (value_is (bytes_left b.0) n b.1 w b.3)
    ∙ ap (λ (t : View). read (not (eqb n 0)) t) (state_is (bytes_left b.0) n b.1 w b.3)

pub directory_refused : (v : View) (d : Error) → map_value bytes_left null_terminated v ≡ Err d
    → map_value is_some directory_text v ≡ Err d
unfolding directory_text
directory_refused v d h = ap directory_of (refused_read bytes_left (null_terminated v) d h)

-- ---- files

-- the numbers after a path
abbrev pub numbers_of_file : View → There
numbers_of_file w =
    proceed (unsigned w) (λ _ s. proceed (unsigned s) (λ _ t. proceed (unsigned t) (λ _. give true)))

abbrev sized : View → ℕ → ℕ → Result (ℕ × View) Error → There
sized path directory time r =
    proceed (proceed (proceed r (λ size. give (file_in path directory time size))) (λ file. give (Some file)))
    (λ (o : Option FileFacts). give (is_some o))

sized_is : (path : View) (directory time : ℕ) (r : Result (ℕ × View) Error)
    → sized path directory time r ≡ proceed r (λ _. give true)
sized_is path directory time (Ok r) = refl
sized_is path directory time (Err d) = refl

abbrev timed : View → ℕ → Result (ℕ × View) Error → There
timed path directory r =
    proceed (proceed (proceed r (λ time s. proceed (unsigned s) (λ size. give (file_in path directory time size))))
    (λ file. give (Some file))) (λ (o : Option FileFacts). give (is_some o))

timed_is : (path : View) (directory : ℕ) (r : Result (ℕ × View) Error)
    → timed path directory r ≡ proceed r (λ _ t. proceed (unsigned t) (λ _. give true))
timed_is path directory (Ok r) = sized_is path directory r.0 (unsigned r.1)
timed_is path directory (Err d) = refl

abbrev filed : View → Result (ℕ × View) Error → There
filed path r =
    proceed (proceed (proceed r (λ directory s. proceed (unsigned s) (λ time t. proceed (unsigned t)
    (λ size. give (file_in path directory time size))))) (λ file. give (Some file)))
    (λ (o : Option FileFacts). give (is_some o))

filed_is : (path : View) (r : Result (ℕ × View) Error)
    → filed path r ≡ proceed r (λ _ s. proceed (unsigned s) (λ _ t. proceed (unsigned t) (λ _. give true)))
filed_is path (Ok r) = timed_is path r.0 (unsigned r.1)
filed_is path (Err d) = refl

abbrev file_by : View → View → Bool → There
file_by text s b = proceed (cond b (Ok (None, s)) (proceed (file_after_path text s) (λ file. give (Some file))))
    (λ (o : Option FileFacts). give (is_some o))

file_is : (text s : View) (b : Bool) → file_by text s b ≡ cond b (read false s) (numbers_of_file s)
unfolding file_after_path
file_is text s true = refl
file_is text s false = filed_is text (unsigned s)

abbrev file_of : Result (View × View) Error → There
file_of r = proceed (proceed r (λ text s. cond (eqb (bytes_left text) 0) (Ok (None, s))
    (proceed (file_after_path text s) (λ file. give (Some file))))) (λ (o : Option FileFacts). give (is_some o))

file_there : (v w : View) (n : ℕ) → map_value bytes_left null_terminated v ≡ Ok (n, w)
    → map_value is_some file_text v ≡ cond (eqb n 0) (read false w) (numbers_of_file w)
unfolding file_text
file_there v w n h =
    let b = begins (null_terminated v) (λ text. give (bytes_left text)) n w h in
    ap file_of b.2 ∙ file_is b.0 b.1 (eqb (bytes_left b.0) 0)
    ∙ ap (λ (k : ℕ). cond (eqb k 0) (read false b.1) (numbers_of_file b.1)) (value_is (bytes_left b.0) n b.1 w b.3)
    ∙ ap (λ (t : View). cond (eqb n 0) (read false t) (numbers_of_file t)) (state_is (bytes_left b.0) n b.1 w b.3)

-- the empty path
pub file_none : (v w : View) (n : ℕ) → n ≡ 0 → map_value bytes_left null_terminated v ≡ Ok (n, w)
    → map_value is_some file_text v ≡ read false w
file_none v w n none h =
    file_there v w n h ∙ ap (λ (k : ℕ). cond (eqb k 0) (read false w) (numbers_of_file w)) none

-- a file, and its numbers
pub file_some : (v w : View) (n : ℕ) → n ≢ 0 → map_value bytes_left null_terminated v ≡ Ok (n, w)
    → map_value is_some file_text v ≡ numbers_of_file w
file_some v w n some h =
    file_there v w n h ∙ ap (λ (b : Bool). cond b (read false w) (numbers_of_file w)) (ne_eqb n 0 some)

pub file_refused : (v : View) (d : Error) → map_value bytes_left null_terminated v ≡ Err d
    → map_value is_some file_text v ≡ Err d
unfolding file_text
file_refused v d h = ap file_of (refused_read bytes_left (null_terminated v) d h)
