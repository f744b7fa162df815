-- How copies of stretches end.
use Rattle.std.specs.Prelude.{◌≡◌, ◌≢◌, List, Result, Ok, Err}
use Rattle.addr2line_context.specs.Error.{Error}
use Rattle.addr2line_context.specs.Error.TheVariants.{Memory}
use Rattle.addr2line_context.specs.Lines.{Stretch}
use Rattle.linemap_replay.specs.declared.answer.Answer.{Answer}
use Rattle.linemap_replay.specs.OwnedAnswers.{stretches_copy, answer_of}

-- these stretches and a refusal as an answer, unless it is out of memory
abbrev pub EndsBy : List Stretch → Error → Result Answer Error → Type 0
EndsBy items error (Ok answer) =
    (error ≢ Memory)
    × (answer_of answer ≡ stretches_copy (record { items = items; ending = Err error }))
EndsBy items error (Err e) = (error ≡ Memory) × (e ≡ Memory)
