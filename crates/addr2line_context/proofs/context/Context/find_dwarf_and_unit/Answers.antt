use Rattle.std.proofs.Common.{refl, subst, sym, map, None, Ok}
use Rattle.addr2line_lookups.specs.ResolvedUnits.{value_of_unit}
use Rattle.addr2line_lookups.specs.UnitLookups.{IsPending, FoundUnit, SettlesUnit}
use Rattle.addr2line_context.specs.KeptContexts.{ResolvedContext}
use Rattle.addr2line_context.specs.ContextCosts.{unit_search}
use Rattle.addr2line_context.specs.SettledLookups.{unit_in}
use Rattle.addr2line_context.proofs.AnsweredFirst.{unit_has_load}
use Rattle.addr2line_context.proofs.LookupResults.{unit_lent, no_unit, pending_unit}
use Rattle.addr2line_context.proofs.SkippedLoads.{unit_or_refusal, unit_or_refusal_still_found, finds_ok, finds_err, finds_there}
use Rattle.addr2line_lookups.proofs.AskedFunctions.{is_value}
use Rattle.addr2line_context.proofs.ResumedLookups.{with_memory, search_of, refused_with_memory}
use Rattle.addr2line_context.proofs.context.Context.find_dwarf_and_unit.Goals as goal

pub returns-in-Ok-Waits : goal.returns-in-Ok-Waits
returns-in-Ok-Waits g c =
    let old = c.args.self.now.value in
    let a = c.args.probe in
    let meaning = unit_in old a in
    let after = c.in-Ok-Waits.ensures.after in
    let found_after = with_memory unit_search (Unit {0}) _ a c.args.self.now _ (λ has. is_value _) after in
    let waits : IsPending meaning =
    subst (λ o. SettlesUnit (map value_of_unit c.settle_unit.new.self.units) c.settle_unit.new.self.units meaning
    (Ok o)) c.in-Ok-Waits.field-0-is c.in-Ok-Waits.ensures.found in (
      (
        refl,
        λ w. refl,
        with_memory unit_search _ _ a c.args.self.now _ (λ has. is_value _) after,
      ),
      record {
        found = pending_unit meaning waits;
        waits = record { after = found_after; place = refl; has_load = unit_has_load old a waits };
        skips =
            finds_there (λ u. u) unit_or_refusal unit_or_refusal_still_found old _ a _ after.value refl;
        after = tt;
      },
    )

pub returns-in-Ok-Found : goal.returns-in-Ok-Found
returns-in-Ok-Found g c =
    let old = c.args.self.now in
    let a = c.args.probe in
    let us = c.self.inside.units in
    let vs = map value_of_unit us in
    let number = c.in-Ok-Found.number in
    let meaning = unit_in old.value a in
    let found : FoundUnit vs us meaning number =
    subst (λ o. SettlesUnit vs us meaning (Ok o)) c.in-Ok-Found.field-0-is
    (subst (λ (x : ResolvedContext). SettlesUnit (map value_of_unit x.units) x.units meaning (Ok c.in-Ok-Found.field-0))
    (sym c.self.view_is) c.in-Ok-Found.ensures.found) in
    let lent =
    unit_lent vs us meaning number c.functions_unit_at.result found
    (c.functions_unit_at.ensures found.keeps_functions) in (
      (
        refl,
        λ w. tt,
        search_of unit_search a old c.self.view_is (λ has. is_value _) c.in-Ok-Found.ensures.after,
      ),
      record {
        found = lent;
        waits = tt;
        skips =
            finds_ok (λ u. u) unit_or_refusal unit_or_refusal_still_found old.value a c.functions_unit_at.result lent;
        after = tt;
      },
    )

pub returns-in-Ok-Nothing : goal.returns-in-Ok-Nothing
returns-in-Ok-Nothing g c =
    let old = c.args.self.now.value in
    let a = c.args.probe in
    let none =
    no_unit (unit_in old a)
    (subst (λ o. SettlesUnit (map value_of_unit c.settle_unit.new.self.units) c.settle_unit.new.self.units
    (unit_in old a) (Ok o))
    c.in-Ok-Nothing.field-0-is c.in-Ok-Nothing.ensures.found) in (
      (
        refl,
        λ w. tt,
        with_memory unit_search _ _ a c.args.self.now _ (λ has. is_value _) c.in-Ok-Nothing.ensures.after,
      ),
      record {
        found = none;
        waits = tt;
        skips = finds_ok (λ u. u) unit_or_refusal unit_or_refusal_still_found old a None none;
        after = tt;
      },
    )

pub returns-in-Err : goal.returns-in-Err
returns-in-Err g c = (
  (
    refl,
    λ w. tt,
    with_memory unit_search _ _ c.args.probe c.args.self.now _ (refused_with_memory _) c.in-Err.ensures.after,
  ),
  record {
    found = λ m. absurd (m c.in-Err.ensures.found);
    waits = tt;
    skips =
        finds_err (λ u. u) unit_or_refusal unit_or_refusal_still_found c.args.self.now.value c.args.probe _
        (λ m. absurd (m c.in-Err.ensures.found));
    after = tt;
  },
)
