use Rattle.linemap_emit_laws.proofs.RecordedAnswers.{answers_again}
use Rattle.linemap_emit_laws.proofs.recorded_table_laws.sections_answer.Goals as goal

pub returns : goal.returns
returns c = λ e is_big s us entries sound t. answers_again e is_big s us entries t sound
