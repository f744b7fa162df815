-- The texts of a header that was written: each has the form of its list, and its offset fits.
use Rattle.std.proofs.Common.{◌≡◌, ℕ, Bool, true, false, cond, [], refl, sym, ◌∙◌}
use Rattle.std.specs.Prelude.{nat_le, flat_map, All}
use Rattle.std.proofs.lemmas.List.Elements.{All-weaker}
use Rattle.gimli_lines_write_unit.specs.Encoding.{Encoding}
use Rattle.gimli_lines_write_unit.specs.HeaderTexts.{Text, form_of, form_in, form_in_version}
use Rattle.gimli_lines_write_unit.specs.EntryFields.{WrittenFile, Details}
use Rattle.gimli_lines_write_unit.specs.HeaderSpelling.{Tables, path_form, source_form}
use Rattle.gimli_lines_write_unit.specs.HeaderBytes.{text_refusals, directories_refusals, file_refusals, files_refusals, header_refusals}
use Rattle.gimli_lines_write_laws.proofs.SpelledPieces.{Fits, both_empty, each_empty, text_is}

-- a text in a list of a form
abbrev pub TextIs : Encoding → ℕ → Text → Type 0
TextIs e form t = (form_of t ≡ form) × Fits e.format t

-- a file in lists of forms, with its text where it is written
abbrev pub FileIs : Encoding → Details → ℕ → ℕ → WrittenFile → Type 0
FileIs e d path source f = TextIs e (form_in_version e.version path) f.path
    × (nat_le e.version 4 ≡ false → d.has_source ≡ true → TextIs e source f.source)

file_is : (e : Encoding) (has_source : Bool) (path source : ℕ) (f : WrittenFile)
    → file_refusals e has_source path source f ≡ []
    → TextIs e path f.path × (has_source ≡ true → TextIs e source f.source)
file_is e has_source path source f h =
    let parts = both_empty (text_refusals e path f.path) (cond has_source (text_refusals e source f.source) []) h in
    (text_is e path f.path parts.0, by has_source parts.1)
  where
    by : (b : Bool) → cond b (text_refusals e source f.source) [] ≡ [] → b ≡ true → TextIs e source f.source
    by true k same = text_is e source f.source k
    by false k same = absurd (cc)

files_are : (e : Encoding) (t : Tables) → files_refusals e t ≡ []
    → All (FileIs e t.details (path_form t) (source_form t)) t.files
files_are e t h = by (nat_le e.version 4) refl h
  where
    by : (b : Bool) → nat_le e.version 4 ≡ b
        → cond b (flat_map (file_refusals e false 0x08 0x08) t.files)
        (flat_map (file_refusals e t.details.has_source (path_form t) (source_form t)) t.files) ≡ []
        → All (FileIs e t.details (path_form t) (source_form t)) t.files
    by true old k = All-weaker (λ f. file_refusals e false 0x08 0x08 f ≡ [])
        (FileIs e t.details (path_form t) (source_form t))
        (λ f m. (
          rw old (file_is e false 0x08 0x08 f m).0,
          λ later. absurd (let clash : true ≡ false = sym old ∙ later in cc),
        )) t.files (each_empty (file_refusals e false 0x08 0x08) t.files k)
    by false new k = All-weaker
        (λ f. file_refusals e t.details.has_source (path_form t) (source_form t) f ≡ [])
        (FileIs e t.details (path_form t) (source_form t))
        (λ f m. let s = file_is e t.details.has_source (path_form t) (source_form t) f m in (rw new s.0, λ later. s.1))
        t.files (each_empty (file_refusals e t.details.has_source (path_form t) (source_form t)) t.files k)

pub header_is : (e : Encoding) (t : Tables) → header_refusals e t ≡ []
    → All (TextIs e (form_in_version e.version (form_in t.directories))) t.directories
    × All (FileIs e t.details (path_form t) (source_form t)) t.files
header_is e t h =
    let parts = both_empty (directories_refusals e t.directories) (files_refusals e t) h in
    let form = form_in_version e.version (form_in t.directories) in (
      All-weaker (λ d. text_refusals e form d ≡ []) (TextIs e form) (λ d k. text_is e form d k) t.directories
          (each_empty (text_refusals e form) t.directories parts.0),
      files_are e t parts.1,
    )
