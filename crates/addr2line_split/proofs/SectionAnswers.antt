-- What calls for sections give, where each answers what a definition says of its section.
use Rattle.std.proofs.Common.{◌≡◌, ◌≢◌, List, [], ◌∷◌, ◌++◌, map, Result, Ok, Err, IfOk, IfErr, refl, sym, subst, ap, ◌∙◌}
use Rattle.addr2line_unit.specs.View.{View}
use Rattle.addr2line_unit.specs.Results.{and_then, each}
use Rattle.gimli_dwarf_spec.specs.SectionId.{SectionId}
use Rattle.addr2line_unit.specs.DwarfFiles.{DwarfFile}
use Rattle.addr2line_unit.specs.CachedFiles.{CachedFile}
use Rattle.addr2line_unit.specs.SectionLoading.{load_order, loaded_file, GivesSections, Loads, RefusesToLoad}
use Rattle.addr2line_elf.specs.declared.error.LoadError.{LoadError}
use Rattle.addr2line_elf.specs.declared.error.LoadError.TheVariants.{Memory}
use Rattle.addr2line_elf.specs.ImageLoading.{LoadsAsOrNoMemory}
use Rattle.addr2line_split.specs.ImageFiles.{offset_limit, bytes_or_none, file_by}

module _ {F R : Type 0} (step : F → SectionId → Result R LoadError → F → Type 0) (view : R → View)
    (section : SectionId → Result View LoadError) (p : F)
    (answers : (id : SectionId) (r : Result R LoadError) (q : F) → step p id r q
    → LoadsAsOrNoMemory view r (section id) × (q ≡ p)) where
  abbrev AreLoaded : (SectionId → View) → List SectionId → Type 0
  AreLoaded contents [] = Unit {0}
  AreLoaded contents (id ∷ ids) = (section id ≡ Ok (contents id)) × AreLoaded contents ids

  abbrev ok_of : View → Result View LoadError
  ok_of v = Ok v

  -- the function stays as it is
  are_loaded : (contents : SectionId → View) (ids : List SectionId) (q : F)
      → GivesSections step view contents p ids q → AreLoaded contents ids × (q ≡ p)
  are_loaded contents [] q h = (tt, sym h)
  are_loaded contents (id ∷ ids) q h =
      let g = h.1 in
      let here = answers id (Ok g.0) h.0 g.1 in
      let rest = are_loaded contents ids q (subst (λ j. GivesSections step view contents j ids q) here.1 h.2) in
      ((here.0 ∙ ap ok_of g.2, rest.0), rest.1)

  each_loaded : (contents : SectionId → View) (ids : List SectionId) → AreLoaded contents ids
      → each section ids ≡ Ok (map contents ids)
  each_loaded contents [] h = refl
  each_loaded contents (id ∷ ids) h = rw (h.0, each_loaded contents ids h.1) refl

  each_refused : (contents : SectionId → View) (ids rest : List SectionId) (id : SectionId) (e : LoadError)
      → AreLoaded contents ids → section id ≡ Err e → each section (ids ++ id ∷ rest) ≡ Err e
  each_refused contents [] rest id e h refused = rw refused refl
  each_refused contents (x ∷ xs) rest id e h refused = rw (h.0, each_refused contents xs rest id e h.1 refused) refl

  -- the bytes of each are those of its section
  same_file : (contents : SectionId → View) → AreLoaded contents load_order
      → loaded_file offset_limit contents ≡ loaded_file offset_limit (λ id. bytes_or_none (section id))
  same_file contents h =
      let is : (id : SectionId) → section id ≡ Ok (contents id) → contents id ≡ bytes_or_none (section id) =
      λ id e. sym (ap bytes_or_none e) in
      cc

  abbrev file_after : Result (List View) LoadError → Result DwarfFile LoadError
  file_after all = and_then all (λ _. Ok (loaded_file offset_limit (λ id. bytes_or_none (section id))))

  abbrev file_is : DwarfFile → Result DwarfFile LoadError
  file_is file = Ok file

  pub of_loaded : (file : DwarfFile) → Loads step view offset_limit p file → file_by section ≡ Ok file
  of_loaded file h =
      let loaded = (are_loaded h.contents load_order h.after h.calls).0 in
      ap file_after (each_loaded h.contents load_order loaded)
      ∙ sym (ap file_is (h.are ∙ same_file h.contents loaded))

  pub of_refused : (e : LoadError) → e ≢ Memory → RefusesToLoad step view p e → file_by section ≡ Err e
  of_refused e ne h =
      let before = are_loaded h.contents h.prefix h.before_refusal h.calls in
      let refusal = subst (λ j. step j h.id (Err e) h.after) before.1 h.refusal in
      let here : section h.id ≡ Err e = (answers h.id (Err e) h.after refusal).0 ne in
      let all : each section load_order ≡ Err e =
      subst (λ ids. each section ids ≡ Err e) (sym h.order)
      (each_refused h.contents h.prefix h.rest h.id e before.0 here) in
      ap file_after all

  -- the sections that are loaded by such calls
  pub of_load : (result : Result CachedFile LoadError)
      → IfOk result (λ d. Loads step view offset_limit p d.file) → IfErr result (λ e. RefusesToLoad step view p e)
      → LoadsAsOrNoMemory (λ d. d.file) result (file_by section)
  of_load (Ok d) loaded refused = of_loaded d.file loaded
  of_load (Err e) loaded refused = λ ne. of_refused e ne refused
