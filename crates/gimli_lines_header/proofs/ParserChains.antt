-- What parsers give where their parts are known.
use Rattle.std.proofs.Common.{◌≡◌, ℕ, ◌≤◌, Bool, cond, List, [], Result, Ok, Err, sym, ◌∙◌, ap}
use Rattle.std.proofs.lemmas.Bool.{le-leb}
use Rattle.gimli_units_headers.specs.Error.{Error}
use Rattle.gimli_units_headers.specs.View.{View}
use Rattle.gimli_units_headers.specs.Parsers.{Step, proceed, give}
use Rattle.gimli_units_headers.specs.Encoding.{Encoding}
use Rattle.gimli_lines_header.specs.declared.formats.FileEntryFormat.{FileEntryFormat}
use Rattle.gimli_lines_header.specs.LineFiles.{FileFacts}
use Rattle.gimli_lines_header.specs.HeaderTables.{file_texts, files_of_5, files}

-- a part that is read
pub goes_on : {S A B : Type 0} (r : Result (A × S) Error) (f : A → Step S B) (x : A) (s : S) → r ≡ Ok (x, s)
    → proceed r f ≡ f x s
goes_on {S} {A} r f x s e = ap (λ (q : Result (A × S) Error). proceed q f) e

-- a part that can't be read
pub stops : {S A B : Type 0} (r : Result (A × S) Error) (f : A → Step S B) (d : Error) → r ≡ Err d → proceed r f ≡ Err d
stops {S} {A} r f d e = ap (λ (q : Result (A × S) Error). proceed q f) e

-- up to version 4 files are texts without formats
pub older_files : (limit : ℕ) (e : Encoding) (formats : List FileEntryFormat) (found : List FileFacts) (v w : View)
    → e.version ≤ 4 → file_texts v ≡ Ok (found, w) → formats ≡ [] → files limit e v ≡ Ok ((formats, found), w)
unfolding files
older_files limit e formats found v w older read none =
    ap (λ (b : Bool). cond b (proceed (file_texts v) (λ texts. give ([], texts))) (files_of_5 limit e v))
    (le-leb e.version 4 older)
    ∙ goes_on (file_texts v) (λ texts. give ([], texts)) found w read
    ∙ ap (λ (fs : List FileEntryFormat). gives fs) (sym none)
  where
    gives : List FileEntryFormat → Result ((List FileEntryFormat × List FileFacts) × View) Error
    gives fs = Ok ((fs, found), w)
