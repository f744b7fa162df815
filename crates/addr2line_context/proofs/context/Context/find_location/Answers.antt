use Rattle.std.proofs.Common.{◌≡◌, refl, subst, None, Ok, Err, option_map, map}
use Rattle.std.proofs.lemmas.Result.{err_from_is_err_and}
use Rattle.addr2line_lookups.specs.Contexts.{location}
use Rattle.addr2line_lookups.specs.BorrowedLocations.{location_value}
use Rattle.addr2line_lookups.specs.ResolvedUnits.{plain_unit}
use Rattle.addr2line_lookups.specs.KeptUnits.{FindsRow, KeepsFound, KeepsAt}
use Rattle.addr2line_lookups.proofs.UnitRows.{place_found}
use Rattle.addr2line_context.specs.KeptContexts.{ResolvedContext}
use Rattle.addr2line_context.proofs.FoundRows.{after_row, keeps_row, found_row, same_refusal}
use Rattle.addr2line_context.proofs.KeptUnits.{holds_same}
use Rattle.addr2line_context.proofs.context.Context.find_location.Goals as goal

pub returns-in_err-found : goal.returns-in_err-found
returns-in_err-found g c =
    let a = c.args.probe in
    let p = err_from_is_err_and c.from_residual.result c.from_residual.ensures.1 in
    let of_file = c.self.invariant.are_of_file in (
      (
        refl,
        λ _. tt,
        after_row _ _ _ of_file a _ c.self.view_is _ c.find_row.ensures.values c.find_row.ensures.cost
            c.find_row.ensures.reads c.find_row.ensures.functions c.from_residual.result
            (rw (p.1, p.2) (λ other. c.in_err-found.ensures.asked (same_refusal c.in_err-found.field-0.0 other))),
      ),
      record {
        place =
            rw (p.1, p.2) (λ m.
            subst (λ (x : ResolvedContext). location x.value.plain.context a ≡ Err c.in_err-found.field-0.0)
            c.self.view_is (c.in_err-found.ensures.found m));
        free =
            rw (p.1, p.2) (λ h.
            same_refusal c.in_err-found.field-0.0
            (c.in_err-found.ensures.free (keeps_row _ _ _ of_file a _ c.self.view_is h)));
        after = tt;
      },
    )

pub returns-in-Some : goal.returns-in-Some
returns-in-Some g c =
    let us = c.self.inside.units in
    let vs = c.find_row.new.self in
    let a = c.args.probe in
    let found = c.in-Some.found in
    let of_file = c.self.invariant.are_of_file in
    let place = option_map location_value c.place_in.result in
    let kept : KeepsAt vs found.unit = subst (λ o. KeepsFound vs (Ok o)) c.in-Some.is c.in_ok-found.ensures.kept in (
      (
        refl,
        λ _. tt,
        after_row _ _ _ of_file a _ c.self.view_is _ c.find_row.ensures.values c.find_row.ensures.cost
            c.find_row.ensures.reads c.find_row.ensures.functions _
            (λ answered. c.in_ok-found.ensures.asked (found_row _)),
      ),
      record {
        place =
            subst (λ (x : ResolvedContext). location x.value.plain.context a ≡ Ok place) c.self.view_is
            (place_found us vs a found c.in_ok-found.field-0 place c.in-Some.is c.in_ok-found.ensures.found
            c.find_row.ensures.values (c.place_in.ensures kept));
        free = λ h is. cc;
        after = tt;
      },
    )

pub returns-in-None : goal.returns-in-None
returns-in-None g c =
    let a = c.args.probe in
    let of_file = c.self.invariant.are_of_file in (
      (
        refl,
        λ _. tt,
        after_row _ _ _ of_file a _ c.self.view_is _ c.find_row.ensures.values c.find_row.ensures.cost
            c.find_row.ensures.reads c.find_row.ensures.functions _
            (λ answered. c.in_ok-found.ensures.asked (found_row _)),
      ),
      record {
        place =
            subst (λ (x : ResolvedContext). location x.value.plain.context a ≡ Ok None) c.self.view_is
            (subst (λ o. FindsRow (map plain_unit c.self.inside.units) a (Ok o)) c.in-None.is
            c.in_ok-found.ensures.found);
        free = λ h is. cc;
        after = tt;
      },
    )

pub invariant_of-self : goal.invariant_of-self
invariant_of-self g c =
    holds_same _ _ _ _ c.self.invariant c.find_row.ensures.values c.find_row.ensures.calls
    c.find_row.ensures.cost.functions

pub invariant_of-self-in-Some : goal.invariant_of-self-in-Some
invariant_of-self-in-Some g c =
    holds_same _ _ _ _ c.self.invariant c.find_row.ensures.values c.find_row.ensures.calls
    c.find_row.ensures.cost.functions

pub invariant_of-self-in-None : goal.invariant_of-self-in-None
invariant_of-self-in-None g c =
    holds_same _ _ _ _ c.self.invariant c.find_row.ensures.values c.find_row.ensures.calls
    c.find_row.ensures.cost.functions
