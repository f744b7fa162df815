-- How a loop that copies items goes on, and what copies of all parts make.
use Rattle.std.proofs.Common.{◌≡◌, ◌≢◌, ℕ, suc, ◌+◌, ◌<◌, List, [], ◌∷◌, ◌++◌, length, take, get_or, Option, Result, Ok, Err, sym, ap, ◌∙◌, arith}
use Rattle.std.proofs.Math.Seq.{take-suc}
use Rattle.std.specs.Result.{IsErrAnd}
use Rattle.gimli_units_headers.specs.Error.{Error}
use Rattle.gimli_units_headers.specs.Error.TheVariants.{Memory}
use Rattle.gimli_units_headers.specs.View.{View}
use Rattle.gimli_units_headers.specs.Calls.{ReturnsAsOrNoMemory}
use Rattle.gimli_units_headers.proofs.RefusedCalls.{returns_refused}
use Rattle.gimli_units_forms.specs.AttributeValues.{RawValue}
use Rattle.gimli_lines_header.specs.declared.formats.FileEntryFormat.{FileEntryFormat}
use Rattle.gimli_lines_header.specs.LineFiles.{FileFacts}
use Rattle.gimli_lines_header.specs.LineHeaders.{LineHeader}

abbrev pub copy_result : {A : Type 0} → A → Result A Error
copy_result x = Ok x

-- a further item is copied
pub copy_of_item : {A : Type 0} (all xs ys : List A) (i : ℕ) (x y : A) → i < length all → xs ≡ take i all
    → x ≡ get_or all i x → copy_result x ≡ copy_result y → ys ≡ xs ++ y ∷ [] → ys ≡ take (i + 1) all
copy_of_item {A} all xs ys i x y lt same is copy pushed =
    let alike : y ≡ get_or all i x = cc in
    let next : suc i ≡ i + 1 = omega arith in
    pushed
    ∙ ap (λ (zs : List A). zs ++ y ∷ []) same
    ∙ ap (λ (z : A). take i all ++ z ∷ []) alike
    ∙ sym (take-suc all i x lt)
    ∙ ap (λ (n : ℕ). take n all) next

-- a copy that was refused was refused for out of memory
pub copy_fault : {A B X : Type 0} (see : A → B) (r : Result A Error) (read : Result B Error) (x : X) (d : Error)
    → IsErrAnd r (λ e. e ≡ d) → (d ≢ Memory → copy_result x ≡ Err d) → ReturnsAsOrNoMemory see r read
copy_fault see r read x d is none = returns_refused see r read d is (λ ne. let never = none ne in absurd cc)

-- a header with other parts
abbrev with_parts : LineHeader → View → View → List FileEntryFormat → List FileEntryFormat → List RawValue
    → List FileFacts → Option RawValue → Option FileFacts → LineHeader
with_parts h lengths program directory_formats file_formats directories files directory file = record h {
  standard_opcode_lengths = lengths;
  directory_formats = directory_formats;
  directories = directories;
  file_formats = file_formats;
  files = files;
  program = program;
  unit_directory = directory;
  unit_file = file;
}

-- a header whose parts were copied says the same
pub header_copy : (h : LineHeader) (lengths program : View) (directory_formats file_formats : List FileEntryFormat)
    (directories : List RawValue) (files : List FileFacts) (directory : Option RawValue) (file : Option FileFacts)
    → copy_result h.standard_opcode_lengths ≡ copy_result lengths → copy_result h.program ≡ copy_result program
    → copy_result h.directory_formats ≡ copy_result directory_formats
    → copy_result h.file_formats ≡ copy_result file_formats
    → copy_result h.directories ≡ copy_result directories → copy_result h.files ≡ copy_result files
    → copy_result h.unit_directory ≡ copy_result directory → copy_result h.unit_file ≡ copy_result file
    → h ≡ with_parts h lengths program directory_formats file_formats directories files directory file
header_copy h lengths program directory_formats file_formats directories files directory file e1 e2 e3 e4 e5 e6 e7 e8 =
    let f1 : h.standard_opcode_lengths ≡ lengths = cc in
    let f2 : h.program ≡ program = cc in
    let f3 : h.directory_formats ≡ directory_formats = cc in
    let f4 : h.file_formats ≡ file_formats = cc in
    let f5 : h.directories ≡ directories = cc in
    let f6 : h.files ≡ files = cc in
    let f7 : h.unit_directory ≡ directory = cc in
    let f8 : h.unit_file ≡ file = cc in
    ap (λ x. with_parts h x h.program h.directory_formats h.file_formats h.directories h.files h.unit_directory
    h.unit_file) f1
    ∙ ap (λ x. with_parts h lengths x h.directory_formats h.file_formats h.directories h.files h.unit_directory
    h.unit_file) f2
    ∙ ap (λ x. with_parts h lengths program x h.file_formats h.directories h.files h.unit_directory h.unit_file) f3
    ∙ ap (λ x. with_parts h lengths program directory_formats x h.directories h.files h.unit_directory h.unit_file) f4
    ∙ ap (λ x. with_parts h lengths program directory_formats file_formats x h.files h.unit_directory h.unit_file) f5
    ∙ ap (λ x. with_parts h lengths program directory_formats file_formats directories x h.unit_directory h.unit_file)
    f6
    ∙ ap (λ x. with_parts h lengths program directory_formats file_formats directories files x h.unit_file) f7
    ∙ ap (λ x. with_parts h lengths program directory_formats file_formats directories files directory x) f8
