-- The sections of a supplement, loaded by calls that each answer what a definition says of its section.
use Rattle.std.proofs.Common.{◌≡◌, ◌⊎◌, inl, inr, Result, Ok, Err, OnOk, IfErr, sym, ap, ◌∙◌}
use Rattle.addr2line_context.specs.DwarfFiles.{DwarfFile}
use Rattle.addr2line_context.specs.Results.{and_then}
use Rattle.addr2line_split.specs.CachedFiles.{CachedFile}
use Rattle.addr2line_split.specs.ImageFiles.{offset_limit, file_by}
use Rattle.addr2line_split.specs.ImageLoading.{LoadsAsOrNoMemory}
use Rattle.addr2line_split.specs.LoadError.{LoadError}
use Rattle.addr2line_split.specs.LoadError.TheVariants.{Memory}
use Rattle.addr2line_split.specs.SectionId.{SectionId}
use Rattle.addr2line_split.specs.SectionLoading.{Loads, RefusesToLoad, with_supplement}
use Rattle.addr2line_split.specs.View.{View}
use Rattle.addr2line_split.proofs.SectionAnswers.{of_loaded, of_refused}

abbrev with_supplement_if : DwarfFile → Result DwarfFile LoadError → Result DwarfFile LoadError
with_supplement_if file sections = and_then sections (λ s. Ok (with_supplement s file))

abbrev ok_file : DwarfFile → Result DwarfFile LoadError
ok_file file = Ok file

module _ {F R : Type 0} (step : F → SectionId → Result R LoadError → F → Type 0) (view : R → View)
    (section : SectionId → Result View LoadError) (p : F)
    (answers : (id : SectionId) (r : Result R LoadError) (q : F) → step p id r q
    → LoadsAsOrNoMemory view r (section id) × (q ≡ p)) where
  pub of_load_sup : (old new : CachedFile) (r : Result (Unit {0}) LoadError)
      → OnOk r ((s : DwarfFile) × Loads step view offset_limit p s × (new.file ≡ with_supplement s old.file))
      → IfErr r (λ e. RefusesToLoad step view p e
      ⊎ ((s : DwarfFile) × Loads step view offset_limit p s × (e ≡ Memory)))
      → LoadsAsOrNoMemory (λ (done : Unit {0}). new.file) r (with_supplement_if old.file (file_by section))
  of_load_sup old new (Ok done) ok refused =
      ap (with_supplement_if old.file) (of_loaded step view section p answers ok.0 ok.1) ∙ ap ok_file (sym ok.2)
  of_load_sup old new (Err e) ok (inl refused) = λ ne.
      ap (with_supplement_if old.file) (of_refused step view section p answers e ne refused)
  of_load_sup old new (Err e) ok (inr refused) = λ ne. absurd (ne refused.2)
