use Rattle.std.proofs.Common.{◌+◌, drop, map, refl, ap, subst, sym, ◌∙◌, List}
use Rattle.std.proofs.lemmas.List.{drop_all}
use Rattle.linemap_table.specs.TableUnit.{TableUnit}
use Rattle.linemap_table.specs.TableViews.{unit_part}
use Rattle.linemap_emit_fits.proofs.AddedFiles.{first_left}
use Rattle.linemap_emit_fits.specs.TableEmission.{EmittedTable, with_emitted_unit, with_emitted_units, no_units}
use Rattle.linemap_emit_fits.specs.FittingUnits.{AllUnitsFit}
use Rattle.linemap_table.specs.EmissionTargets.{encoding_of, is_big_of}
use Rattle.linemap_emit.specs.TableEmitterSteps.{HoldsTable}
use Rattle.linemap_emit.proofs.ServedEncodings.{target_is_written}
use Rattle.linemap_emit.proofs.TableEmitterLemmas.{unit_added, first_fits, can_take, others_fit, all_later, none_left}
use Rattle.linemap_emit.proofs.table_emitter.emitter_of_units.Goals as goal

pub loop-unit-init : goal.loop-unit-init
loop-unit-init c = (no_units, c.new-emitter.ensures, c.requires, refl)

pub unit-requires : goal.unit-requires
unit-requires c =
    let e = encoding_of c.args.target in
    let is_big = is_big_of c.args.target in
    let us = c.args.units.now in
    let i = c.loop-unit.unit-index in
    let unit = c.unit-item.result in
    let so_far = c.loop-unit.invariant in
    let here = first_left us i unit c.loop-unit-test.true c.unit-item.is in
    let fit = subst (λ (l : List TableUnit). AllUnitsFit e is_big (map unit_part l) so_far.0) here so_far.2 in
    can_take e is_big (unit_part unit) so_far.0 c.loop-unit.emitter (target_is_written c.args.target) so_far.1
    (first_fits e is_big (unit_part unit) (map unit_part (drop (i + 1) us)) so_far.0 fit)

pub loop-unit-preserved : goal.loop-unit-preserved
loop-unit-preserved c =
    let e = encoding_of c.args.target in
    let is_big = is_big_of c.args.target in
    let us = c.args.units.now in
    let i = c.loop-unit.unit-index in
    let unit = c.unit-item.result in
    let so_far = c.loop-unit.invariant in
    let here = first_left us i unit c.loop-unit-test.true c.unit-item.is in
    let rest = map unit_part (drop (i + 1) us) in
    let fit = subst (λ (l : List TableUnit). AllUnitsFit e is_big (map unit_part l) so_far.0) here so_far.2 in (
      with_emitted_unit e is_big (unit_part unit) so_far.0,
      unit_added e is_big (unit_part unit) so_far.0 c.loop-unit.emitter c.unit.new.self so_far.1
          c.in_ok-unit.ensures.ok,
      others_fit e is_big (unit_part unit) rest so_far.0 fit,
      sym (all_later e is_big (unit_part unit) rest so_far.0)
          ∙ ap (λ (l : List TableUnit). with_emitted_units e is_big (map unit_part l) so_far.0) (sym here) ∙ so_far.3,
    )

pub returns-clause-ok : goal.returns-clause-ok
returns-clause-ok c =
    let e = encoding_of c.args.target in
    let is_big = is_big_of c.args.target in
    let so_far = c.loop-unit.invariant in
    let done =
    ap (λ (l : List TableUnit). with_emitted_units e is_big (map unit_part l) so_far.0)
    (drop_all c.loop-unit.unit-index c.args.units.now c.loop-unit-test.false) in
    subst (λ (st : EmittedTable). HoldsTable e is_big st c.loop-unit.emitter)
    (sym (none_left e is_big so_far.0) ∙ sym done ∙ so_far.3) so_far.1
