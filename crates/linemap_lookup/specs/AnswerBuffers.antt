-- How the buffers of an answer grow.
use Rattle.std.specs.Prelude.{◌≡◌, ℕ, Bool, ◌||◌, List, [], ◌++◌, Option, Result, Ok}
use Rattle.std.specs.String.{string_bytes}
use Rattle.addr2line_context.specs.Calls.{ReturnsOrNoMemory}
use Rattle.addr2line_context.specs.Contexts.{location}
use Rattle.addr2line_context.specs.Error.{Error}
use Rattle.addr2line_context.specs.Frames.{Frame}
use Rattle.addr2line_context.specs.Lines.{Location}
use Rattle.addr2line_loader.specs.LoadedFiles.{LoadedFile}
use Rattle.addr2line_loader.specs.SourceAnswers.{SourceFindsFrames}
use Rattle.linemap_output.specs.declared.options.Options.{Options}
use Rattle.linemap_lookup.specs.FirstFrames.{AreFirstFrames}
use Rattle.linemap_lookup.specs.LookupAnswers.{AddressAnswer, Answer, AnswersIfAny, LookupState, found_or, frames_answer, is_memory, place_answer, refusal_line}
use Rattle.linemap_lookup.specs.declared.answer.AnswerBuffer.{AnswerBuffer}

-- The buffers grow by an answer.
pub record Grows (old new : AnswerBuffer) (x : Answer) : Type 0 where
  pub text : string_bytes new.text ≡ string_bytes old.text ++ x.text
  pub errors : string_bytes new.errors ≡ string_bytes old.errors ++ x.errors
  pub memory : new.is_memory_refused ≡ (old.is_memory_refused || x.is_memory_refused)

-- They grow by the error line of a refusal.
abbrev pub GrowsByRefusal : AnswerBuffer → AnswerBuffer → List ℕ → ℕ → Error → Type 0
GrowsByRefusal old new message a e =
    Grows old new
    (record { text = []; errors = refusal_line message a e; is_memory_refused = is_memory e })

-- They grow by the answer of a place.
pub record GrowsByPlace (o : Options) (a : ℕ) (file : LoadedFile) (old new : AnswerBuffer) : Type 0
  where
    pub found : Result (Option Location) Error
    pub finds : ReturnsOrNoMemory found (location file.context.context a)
    pub grows : Grows old new (place_answer o a found)

-- They grow by the answer of frames that were found, until one is refused.
pub record GrowsByFound (o : Options) (a : ℕ) (symbol : Option (List ℕ)) (all : List Frame)
    (old new : AnswerBuffer) : Type 0 where
  pub frames : List Frame
  pub is_refused : Bool
  pub are_first : AreFirstFrames all frames is_refused
  pub grows : Grows old new (frames_answer o a symbol (Ok all) frames is_refused)

-- They grow by the answer of frames.
pub record GrowsByFrames {S : Type 0}
    (answers : S → List ℕ → List ℕ → Result (Option (List ℕ)) Error → S → Type 0)
    (o : Options) (a : ℕ) (symbol : Option (List ℕ)) (file : LoadedFile) (source : S)
    (old new : AnswerBuffer) (file_after : LoadedFile) (source_after : S) : Type 0 where
  pub found : Result (List Frame) Error
  pub finds : SourceFindsFrames answers a (λ fs. fs) file source found file_after source_after
  pub frames : List Frame
  pub is_refused : Bool
  pub are_first : AreFirstFrames (found_or [] found) frames is_refused
  pub grows : Grows old new (frames_answer o a symbol found frames is_refused)

-- They grow by the answer of an address that is looked up, or of none.
pub record GrowsByLookup {S : Type 0}
    (answers : S → List ℕ → List ℕ → Result (Option (List ℕ)) Error → S → Type 0)
    (o : Options) (a : Option ℕ) (before : LookupState S) (old new : AnswerBuffer)
    (after : LookupState S) : Type 0 where
  pub found : Answer
  pub finds : AnswersIfAny answers o a before found after
  pub grows : Grows old new found

-- what is in the buffers
abbrev pub answer_of : AnswerBuffer → Answer
answer_of b = record {
  text = string_bytes b.text;
  errors = string_bytes b.errors;
  is_memory_refused = b.is_memory_refused;
}

-- as the answer of an address
abbrev pub answer_in : Option ℕ → AnswerBuffer → AddressAnswer
answer_in address b = record { address = address; answer = answer_of b }
