-- The emitter holds what is emitted of the units so far; the units to come fit after it, and then all are emitted.
use Rattle.std.proofs.Common.{◌≡◌, drop, map}
use Rattle.linemap_table.specs.TableViews.{unit_part}
use Rattle.linemap_emit_fits.specs.TableEmission.{EmittedTable, with_emitted_units, emitted_table}
use Rattle.linemap_emit_fits.specs.FittingUnits.{AllUnitsFit}
use Rattle.linemap_table.specs.EmissionTargets.{encoding_of, is_big_of}
use Rattle.linemap_emit.specs.TableEmitterSteps.{HoldsTable}
use Rattle.linemap_emit.proofs.table_emitter.emitter_of_units.Given as goal

abbrev pub invariant-loop-unit : goal.invariant-loop-unit
invariant-loop-unit l =
    let e = encoding_of l.fn.target in
    let is_big = is_big_of l.fn.target in
    let left = map unit_part (drop l.unit-index l.units) in
    (st : EmittedTable)
    × HoldsTable e is_big st l.emitter
    × AllUnitsFit e is_big left st
    × (with_emitted_units e is_big left st ≡ emitted_table e is_big (map unit_part l.units))
