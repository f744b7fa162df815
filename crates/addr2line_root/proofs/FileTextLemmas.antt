-- What a loop that appends the texts of files keeps, and which files are numbered from 1 on.
use Rattle.std.proofs.Common.{◌≡◌, ◌≢◌, ℕ, suc, ◌+◌, ◌-◌, ◌<◌, ◌≤◌, Bool, true, false, cond, List, [], ◌∷◌, ◌++◌, map, length, take, drop, get_or, Result, Ok, Err, refl, sym, ap, ◌∙◌, arith, append_assoc, append-nil, length-drop}
use Rattle.std.proofs.Math.Seq.{drop-cons}
use Rattle.std.proofs.lemmas.Bool.{le-leb, lt-leb}
use Rattle.std.proofs.lemmas.List.{drop_all, map-append, take_all}
use Rattle.std.specs.Prelude.{nat_le}
use Rattle.std.specs.Result.{IsErrAnd}
use Rattle.gimli_lines_rows.specs.Error.{Error}
use Rattle.gimli_lines_rows.specs.Error.TheVariants.{Memory}
use Rattle.gimli_lines_rows.specs.LineFiles.{FileFacts}
use Rattle.gimli_lines_rows.specs.LineHeaders.{LineHeader}
use Rattle.gimli_lines_rows.specs.Results.{and_then, each}
use Rattle.addr2line_index.specs.FileTexts.{files_from_1}
use Rattle.addr2line_root.specs.FileTextLists.{AddsTexts}

abbrev pub Text : Type 0
Text = List ℕ

-- these texts, and after them the others, unless they are refused
abbrev pub append_texts : List Text → Result (List Text) Error → Result (List Text) Error
append_texts before r = and_then r (λ texts. Ok (before ++ texts))

abbrev ok_of : {A : Type 0} → A → Result A Error
ok_of x = Ok x

abbrev refusal : {A : Type 0} → Error → Result A Error
refusal e = Err e

-- ---- a further file

-- the text of a file, before those of the others
abbrev first : {A : Type 0} → (A → Result Text Error) → List A → Result Text Error → Result (List Text) Error
first f rest r = and_then r (λ text. and_then (each f rest) (λ texts. Ok (text ∷ texts)))

append_first : (before : List Text) (text : Text) (r : Result (List Text) Error)
    → append_texts (before ++ text ∷ []) r ≡ append_texts before (and_then r (λ texts. Ok (text ∷ texts)))
append_first before text (Ok texts) = ap ok_of (append_assoc before (text ∷ []) texts)
append_first before text (Err e) = refl

-- the files from one on are that one and those after it
files_at : {A : Type 0} (files : List A) (i : ℕ) (x : A) → i < length files → x ≡ get_or files i x
    → drop i files ≡ x ∷ drop (i + 1) files
files_at {A} files i x lt is =
    let next : suc i ≡ i + 1 = omega arith in
    drop-cons files i x lt ∙ ap (λ (y : A). y ∷ drop (suc i) files) (sym is) ∙ ap (λ (n : ℕ). x ∷ drop n files) next

-- a text is appended
pub texts_more : {A S : Type 0} (f : A → Result Text Error) (see : S → Text) (files : List A) (i : ℕ) (x : A) (s : S)
    (old new : List S) (all : Result (List Text) Error) → i < length files → x ≡ get_or files i x → f x ≡ Ok (see s)
    → new ≡ old ++ s ∷ [] → append_texts (map see old) (each f (drop i files)) ≡ all
    → append_texts (map see new) (each f (drop (i + 1) files)) ≡ all
texts_more {A} {S} f see files i x s old new all lt is text pushed same =
    let rest = each f (drop (i + 1) files) in
    ap (λ (ts : List Text). append_texts ts rest) (ap (map see) pushed ∙ map-append see old (s ∷ []))
    ∙ append_first (map see old) (see s) rest
    ∙ ap (λ (r : Result Text Error). append_texts (map see old) (first f (drop (i + 1) files) r)) (sym text)
    ∙ ap (λ (xs : List A). append_texts (map see old) (each f xs)) (sym (files_at files i x lt is))
    ∙ same

-- ---- the end

append_refusal : (before : List Text) (r : Result (List Text) Error) (e : Error) → refusal e ≡ append_texts before r
    → r ≡ Err e
append_refusal before (Ok texts) e same = absurd cc
append_refusal before (Err d) e same = let is : d ≡ e = cc in ap refusal is

append_ok : (before texts : List Text) (r : Result (List Text) Error) → ok_of texts ≡ append_texts before r
    → (more : List Text) × (r ≡ Ok more) × (texts ≡ before ++ more)
append_ok before texts (Ok more) same = (more, refl, let is : texts ≡ before ++ more = cc in is)
append_ok before texts (Err e) same = absurd cc

-- a text can't be read
pub texts_fault : {A B : Type 0} (f : A → Result Text Error) (result : Result B Error) (files : List A) (i : ℕ) (x : A)
    (now old new : List Text) (d : Error) → IsErrAnd result (λ e. e ≡ d) → i < length files → x ≡ get_or files i x
    → (d ≢ Memory → f x ≡ Err d) → append_texts now (each f (drop i files)) ≡ append_texts old (each f files)
    → AddsTexts result old new (each f files)
texts_fault f (Ok y) files i x now old new d h lt is text same = absurd h
texts_fault {A} f (Err e) files i x now old new d h lt is text same = λ ne.
    let fault : f x ≡ Err d = text (λ none. ne (h ∙ none)) in
    append_refusal old (each f files) d
    (ap (λ (r : Result Text Error). append_texts now (first f (drop (i + 1) files) r)) (sym fault)
    ∙ ap (λ (xs : List A). append_texts now (each f xs)) (sym (files_at files i x lt is))
    ∙ same)
    ∙ ap refusal (sym h)

-- all texts are appended
pub texts_all : {A B : Type 0} (f : A → Result Text Error) (y : B) (files : List A) (i : ℕ) (old new : List Text)
    → length files ≤ i → append_texts new (each f (drop i files)) ≡ append_texts old (each f files)
    → AddsTexts {A = B} (Ok y) old new (each f files)
texts_all {A} f y files i old new ended same =
    append_ok old new (each f files)
    (ap ok_of (sym (append-nil new)) ∙ ap (λ (xs : List A). append_texts new (each f xs)) (sym (drop_all i files ended))
    ∙ same)

-- ---- numbers

pub from_1_older : (h : LineHeader) (files : List FileFacts) (version : ℕ) → files ≡ h.files
    → version ≡ h.encoding.version → version ≤ 4 → files ≡ files_from_1 h
from_1_older h files version same is older =
    let test : nat_le h.encoding.version 4 ≡ true = ap (λ (n : ℕ). nat_le n 4) (sym is) ∙ le-leb version 4 older in
    same ∙ ap (λ (b : Bool). cond b h.files (drop 1 h.files)) (sym test)

pub from_1_newer : (h : LineHeader) (files : List FileFacts) (version : ℕ) → files ≡ h.files
    → version ≡ h.encoding.version → 4 < version → take (length files - 1) (drop 1 files) ≡ files_from_1 h
from_1_newer h files version same is newer =
    let test : nat_le h.encoding.version 4 ≡ false = ap (λ (n : ℕ). nat_le n 4) (sym is) ∙ lt-leb version 4 newer in
    let count : length (drop 1 files) ≡ length files - 1 = length-drop 1 files in
    let within : length (drop 1 files) ≤ length files - 1 = omega (arith, count) in
    take_all (length files - 1) (drop 1 files) within
    ∙ ap (λ (xs : List FileFacts). drop 1 xs) same
    ∙ ap (λ (b : Bool). cond b h.files (drop 1 h.files)) (sym test)
