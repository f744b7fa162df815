-- What is emitted of a sound table that is light enough answers it.
use Rattle.std.proofs.Common.{◌≡◌, ◌<◌, ◌≤◌, ◌^◌, Bool, true, List, map}
use Rattle.linemap_emit_fits.specs.Encoding.{Encoding}
use Rattle.linemap_table.specs.Conditions.{IsSound}
use Rattle.linemap_table.specs.EncodingFits.{fits}
use Rattle.linemap_table.specs.TableViews.{unit_part}
use Rattle.linemap_table.specs.TableWeight.{table_weight}
use Rattle.linemap_table.specs.TableUnit.{TableUnit}
use Rattle.linemap_emit_laws.proofs.RecordedAnswers.{answers_again}
use Rattle.linemap_emit_fits.specs.TableEmission.{no_units, emitted_table}
use Rattle.linemap_emit_fits.specs.EmittedUnits.{IsWritten}
use Rattle.linemap_emit_fits.specs.FittingUnits.{AllUnitsFit}
use Rattle.linemap_emit_fits.specs.EmissionBounds.{sections_size}
use Rattle.linemap_emit_fits.proofs.EmissionSums.{weight_bounds_size}
use Rattle.linemap_emit_fits.proofs.EmittedUnitSizes.{tables_fit}
use Rattle.linemap_emit_laws.proofs.EmittedUnitLemmas.{emission_recorded}
use Rattle.linemap_emit_fits.specs.EmittedSections.{emitted_sections}
use Rattle.linemap_emit.specs.SectionAnswers.{AreAnswers}
use Rattle.linemap_emit.proofs.UnitTextLemmas.{all_in_utf8}

pub light_fits : (e : Encoding) (is_big : Bool) (units : List TableUnit) → IsWritten e → IsSound (map unit_part units)
    → fits e.address_size (map unit_part units) ≡ true → table_weight (map unit_part units) < 2 ^ 31
    → AllUnitsFit e is_big (map unit_part units) no_units
light_fits e is_big units served sound fitting light =
    tables_fit e is_big (map unit_part units) served sound fitting light

pub light_answers : (e : Encoding) (is_big : Bool) (units : List TableUnit) → IsWritten e
    → IsSound (map unit_part units) → fits e.address_size (map unit_part units) ≡ true
    → table_weight (map unit_part units) < 2 ^ 31
    → AreAnswers is_big (emitted_sections e is_big (map unit_part units)) (map unit_part units)
light_answers e is_big units served sound fitting light = λ s wide h.
    let us = map unit_part units in
    let t =
    emission_recorded e is_big us s served wide (all_in_utf8 units)
    (light_fits e is_big units served sound fitting light) h in
    answers_again e is_big s us (emitted_table e is_big us).units t sound

pub light_small : (e : Encoding) (is_big : Bool) (units : List TableUnit) → IsWritten e → IsSound (map unit_part units)
    → fits e.address_size (map unit_part units) ≡ true → table_weight (map unit_part units) < 2 ^ 31
    → sections_size (emitted_sections e is_big (map unit_part units)) ≤ table_weight (map unit_part units)
light_small e is_big units served sound fitting light =
    weight_bounds_size e is_big (map unit_part units) served sound fitting light
