-- How the end of a call relates to the answer that is copied of it. Out of memory is never an
-- answer.
use Rattle.std.specs.Prelude.{◌≡◌, ◌≢◌, Result, Ok, Err}
use Rattle.addr2line_context.specs.Error.{Error}
use Rattle.addr2line_context.specs.Error.TheVariants.{Memory}
use Rattle.addr2line_context.specs.Histories.{completion}
use Rattle.linemap_replay.specs.declared.answer.Answer.{Answer}
use Rattle.linemap_replay.specs.OwnedAnswers.{refusal, answer_of, copied_answer}

-- a refusal as an answer, unless it is out of memory
abbrev pub Refuses : Error → Result Answer Error → Type 0
Refuses error (Ok answer) = (error ≢ Memory) × (answer_of answer ≡ refusal error)
Refuses error (Err e) = (error ≡ Memory) × (e ≡ Memory)

-- the end of a call as an answer, unless it is out of memory
abbrev pub Completes : Result (Unit {0}) Error → Result Answer Error → Type 0
Completes done (Ok answer) =
    (done ≢ Err Memory) × (answer_of answer ≡ copied_answer (completion done))
Completes done (Err e) = (done ≡ Err Memory) × (e ≡ Memory)
