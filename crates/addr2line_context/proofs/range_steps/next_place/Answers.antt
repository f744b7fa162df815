use Rattle.std.proofs.Common.{◌∙◌, ◌∷◌, [], Option, Ok, Some, ap, refl, subst, sym}
use Rattle.std.proofs.lemmas.Result.{err_from_is_err_and}
use Rattle.addr2line_lookups.specs.Repetition.{prepend}
use Rattle.addr2line_lookups.specs.Lines.{Stretch}
use Rattle.addr2line_lookups.specs.RangeWalks.{FindsStretch, IsStretchOf}
use Rattle.addr2line_lookups.specs.declared.range_walk.UnitStretch.{UnitStretch}
use Rattle.addr2line_context.specs.AnsweredContexts.{AnsweredContext}
use Rattle.addr2line_context.specs.LocationRanges.{left_in}
use Rattle.addr2line_context.proofs.ContextParts.{with_result}
use Rattle.addr2line_context.proofs.FoundRows.{found_row, same_refusal}
use Rattle.addr2line_context.proofs.range_steps.next_place.Goals as goal

pub returns-in-Some : goal.returns-in-Some
returns-in-Some g c =
    let old = c.args.context.now in
    let new = c.next_stretch.new.self in
    let walk = c.next_stretch.new.walk in
    let found = c.in-Some.found in
    let units = old.value.plain.context.units in
    let before = left_in old c.args.walk.now in
    let rest = left_in old walk in
    let value = c.in_ok-found.ensures.after.value in
    let step : FindsStretch units (Ok (Some found)) before rest =
    subst (λ (o : Option UnitStretch). FindsStretch units (Ok o) before rest) c.in-Some.is
    c.in_ok-found.ensures.stretch in
    let here : IsStretchOf new.value.plain.context.units found step.0 =
    subst (λ (v : AnsweredContext). IsStretchOf v.plain.context.units found step.0) (sym value) step.1 in (
      (refl, λ _. tt, with_result _ _ _ _ _ _ c.in_ok-found.ensures.after (λ answered. found_row _)),
      record {
        stretch =
            step.2 ∙ ap (λ (x : Stretch). prepend (x ∷ []) rest) (sym (c.stretch_with_place.ensures step.0 here));
        free = λ h is. cc;
        after = tt;
      },
    )

pub returns-in-None : goal.returns-in-None
returns-in-None g c =
    let before = left_in c.args.context.now c.args.walk.now in
    let rest = left_in c.args.context.now c.next_stretch.new.walk in (
      (refl, λ _. tt, with_result _ _ _ _ _ _ c.in_ok-found.ensures.after (λ answered. found_row _)),
      record {
        stretch =
            subst (λ (o : Option UnitStretch). FindsStretch c.args.context.now.value.plain.context.units (Ok o) before
            rest) c.in-None.is c.in_ok-found.ensures.stretch;
        free = λ h is. cc;
        after = tt;
      },
    )

pub returns-in_err-found : goal.returns-in_err-found
returns-in_err-found g c =
    let p = err_from_is_err_and c.from_residual.result c.from_residual.ensures.1 in
    let e = c.in_err-found.field-0.0 in (
      (
        refl,
        λ _. tt,
        with_result _ c.from_residual.result _ _ _ _ c.in_err-found.ensures.after
            (rw (p.1, p.2) (λ other. same_refusal e other)),
      ),
      record {
        stretch = rw (p.1, p.2) c.in_err-found.ensures.stretch;
        free = rw (p.1, p.2) (λ h. same_refusal e (c.in_err-found.ensures.free h));
        after = tt;
      },
    )
