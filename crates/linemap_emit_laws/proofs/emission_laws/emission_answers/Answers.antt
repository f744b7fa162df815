use Rattle.linemap_emit_units.specs.TableEmission.{emitted_table}
use Rattle.linemap_emit_laws.proofs.EmittedUnitLemmas.{emission_recorded}
use Rattle.linemap_emit_laws.proofs.RecordedAnswers.{answers_again}
use Rattle.linemap_emit_laws.proofs.emission_laws.emission_answers.Goals as goal

pub returns : goal.returns
returns c = λ e is_big us s sound served wide utf8 fit hold.
    answers_again e is_big s us (emitted_table e is_big us).units
    (emission_recorded e is_big us s served wide utf8 fit hold) sound
