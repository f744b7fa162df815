use Rattle.std.proofs.Common.{◌∙◌, ◌∷◌, [], Ok, Some, ap, refl, subst, sym}
use Rattle.std.proofs.lemmas.Result.{err_from_is_err_and}
use Rattle.addr2line_context.specs.Repetition.{prepend}
use Rattle.addr2line_context.specs.Lines.{Stretch}
use Rattle.addr2line_context.specs.RangeWalks.{FindsStretch, IsStretchOf}
use Rattle.addr2line_context.proofs.FoundRows.{found_row, same_refusal}
use Rattle.addr2line_loader.specs.FileRanges.{left_in}
use Rattle.addr2line_loader.specs.LoadedFiles.{LoadedFile}
use Rattle.addr2line_loader.proofs.FoundPlaces.{stretch_with_result}
use Rattle.addr2line_loader.proofs.location_range.LoaderRangeIter.next.Goals as goal

pub returns-in-Some : goal.returns-in-Some
returns-in-Some c =
    let old = c.args.self.now in
    let new = c.advance.new.self in
    let found = c.in-Some.found in
    let units = old.loader.now.file.context.context.units in
    let before = left_in old.loader.now old.walk in
    let rest = left_in new.loader.now new.walk in
    let step : FindsStretch units (Ok (Some found)) before rest =
    subst (λ o. FindsStretch units (Ok o) before rest) c.in-Some.is
    c.in_ok-found.ensures.stretch in
    let here : IsStretchOf new.loader.now.file.context.context.units found step.0 =
    subst (λ (f : LoadedFile). IsStretchOf f.context.context.units found step.0) (sym c.in_ok-found.ensures.after.file)
    step.1 in (
      (
        refl,
        λ _. tt,
        record {
          same_reference = c.in_ok-found.ensures.same_reference;
          item = step.2 ∙ ap (λ (x : Stretch). prepend (x ∷ []) rest) (sym (c.item.ensures step.0 here));
          after = stretch_with_result _ _ _ _ _ _ c.in_ok-found.ensures.after (λ answered. found_row _);
        },
      ),
      record { free = λ h is. cc; after = tt },
    )

pub returns-in-None : goal.returns-in-None
returns-in-None c =
    let old = c.args.self.now in
    let new = c.advance.new.self in
    let units = old.loader.now.file.context.context.units in (
      (
        refl,
        λ _. tt,
        record {
          same_reference = c.in_ok-found.ensures.same_reference;
          item =
              subst (λ o. FindsStretch units (Ok o) (left_in old.loader.now old.walk)
              (left_in new.loader.now new.walk)) c.in-None.is c.in_ok-found.ensures.stretch;
          after = stretch_with_result _ _ _ _ _ _ c.in_ok-found.ensures.after (λ answered. found_row _);
        },
      ),
      record { free = λ h is. cc; after = tt },
    )

pub returns-in_err-found : goal.returns-in_err-found
returns-in_err-found c =
    let p = err_from_is_err_and c.from_residual.result c.from_residual.ensures.1 in
    let e = c.in_err-found.field-0.0 in (
      (
        refl,
        λ _. tt,
        record {
          same_reference = c.in_err-found.ensures.same_reference;
          item = rw (p.1, p.2) c.in_err-found.ensures.stretch;
          after =
              stretch_with_result _ c.from_residual.result _ _ _ _ c.in_err-found.ensures.after
              (rw (p.1, p.2) (λ other. same_refusal e other));
        },
      ),
      record {
        free = rw (p.1, p.2) (λ h. same_refusal e (c.in_err-found.ensures.free h));
        after = tt;
      },
    )
