use Rattle.std.proofs.Common.{◌≡◌, ◌<◌, ◌≤◌, ◌^◌, true, List, map, subst, sym, arith}
use Rattle.linemap_table.specs.Conditions.{IsSound}
use Rattle.linemap_table.specs.EncodingFits.{fits}
use Rattle.linemap_table.specs.TableParts.{UnitPart}
use Rattle.linemap_table.specs.TableViews.{unit_part}
use Rattle.linemap_table.specs.TableWeight.{table_weight}
use Rattle.linemap_table.specs.TableUnits.{units_of}
use Rattle.linemap_table.specs.EmissionTargets.{encoding_of, is_big_of}
use Rattle.linemap_emit.specs.SectionAnswers.{AreAnswers}
use Rattle.linemap_emit_fits.specs.EmissionBounds.{sections_size}
use Rattle.linemap_emit_fits.specs.EmittedSections.{SectionBytes}
use Rattle.linemap_emit.proofs.ServedEncodings.{target_is_written}
use Rattle.linemap_emit.proofs.SectionAnswerLemmas.{light_fits, light_small, light_answers}
use Rattle.linemap_emit.proofs.table_sections.emit_sections.Goals as goal

pub emit_units-requires : goal.emit_units-requires
emit_units-requires c =
    let e = encoding_of c.args.target in
    let is_big = is_big_of c.args.target in
    let units = c.units.result.now in
    let same = sym c.units.ensures.value in
    let light : table_weight (units_of c.args.table.now) < 2 ^ 31 =
    omega (arith, c.weight.ensures, c.if-weight-ge-WEIGHT_LIMIT.false) in
    light_fits e is_big units (target_is_written c.args.target) (subst IsSound same c.units.ensures.sound)
    (subst (λ (us : List UnitPart). fits e.address_size us ≡ true) same c.requires.fits)
    (subst (λ (us : List UnitPart). table_weight us < 2 ^ 31) same light)

pub returns-in-Ok-clause-answers : goal.returns-in-Ok-clause-answers
returns-in-Ok-clause-answers c =
    let e = encoding_of c.args.target in
    let is_big = is_big_of c.args.target in
    let units = c.units.result.now in
    let value = c.units.ensures.value in
    let light : table_weight (units_of c.args.table.now) < 2 ^ 31 =
    omega (arith, c.weight.ensures, c.if-weight-ge-WEIGHT_LIMIT.false) in
    let answers =
    light_answers e is_big units (target_is_written c.args.target) (subst IsSound (sym value) c.units.ensures.sound)
    (subst (λ (us : List UnitPart). fits e.address_size us ≡ true) (sym value) c.requires.fits)
    (subst (λ (us : List UnitPart). table_weight us < 2 ^ 31) (sym value) light) in
    subst (AreAnswers is_big c.in-Ok.sections) value
    (subst (λ (b : SectionBytes). AreAnswers is_big b (map unit_part units)) (sym c.in-Ok.ensures.ok) answers)

pub returns-in-Ok-clause-small : goal.returns-in-Ok-clause-small
returns-in-Ok-clause-small c =
    let e = encoding_of c.args.target in
    let is_big = is_big_of c.args.target in
    let units = c.units.result.now in
    let value = c.units.ensures.value in
    let light : table_weight (units_of c.args.table.now) < 2 ^ 31 =
    omega (arith, c.weight.ensures, c.if-weight-ge-WEIGHT_LIMIT.false) in
    let small =
    light_small e is_big units (target_is_written c.args.target) (subst IsSound (sym value) c.units.ensures.sound)
    (subst (λ (us : List UnitPart). fits e.address_size us ≡ true) (sym value) c.requires.fits)
    (subst (λ (us : List UnitPart). table_weight us < 2 ^ 31) (sym value) light) in
    subst (λ (us : List UnitPart). sections_size c.in-Ok.sections ≤ table_weight us) value
    (subst (λ (b : SectionBytes). sections_size b ≤ table_weight (map unit_part units)) (sym c.in-Ok.ensures.ok) small)
