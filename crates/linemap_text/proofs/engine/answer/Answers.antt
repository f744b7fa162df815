use Rattle.linemap_emit.specs.TableUnits.{units_of}
use Rattle.linemap_text.proofs.SectionAnswersPrinted.{outcome_whole, outcome_prefix}
use Rattle.linemap_text.proofs.engine.answer.Goals as goal

pub returns-clause-whole : goal.returns-clause-whole
returns-clause-whole g c =
    outcome_whole c.write_places.result _ _ c.args.text.now _ (units_of c.in_ok-table.table) c.in_ok-table.ensures
    c.in_ok-sections.ensures.light
    (c.write_places.ensures.whole (units_of c.in_ok-table.table) c.in_ok-sections.ensures.answers)

pub returns-clause-prefix : goal.returns-clause-prefix
returns-clause-prefix g c =
    outcome_prefix _ _ c.args.text.now _ (units_of c.in_ok-table.table) c.in_ok-table.ensures
    c.in_ok-sections.ensures.light
    (c.write_places.ensures.prefix (units_of c.in_ok-table.table) c.in_ok-sections.ensures.answers)
