-- The text of a place that a context answers, and the answers to words.
use Rattle.std.specs.Prelude.{◌≢◌, ℕ, List, [], ◌++◌, codes, flat_map, Option, Some, None, Result, Ok, Err}
use Rattle.addr2line_context.specs.Error.{Error}
use Rattle.addr2line_context.specs.Lines.{Location}
use Rattle.addr2line_context.specs.Contexts.{Context, location}
use Rattle.linemap_emit.specs.AnswerTexts.{discriminator_text, place_text, word_address}

-- the file or "??", the line or "?", and a discriminator above 0; "??:0" where there is no place
abbrev pub text_of_place : Option Location → List ℕ
text_of_place None = place_text None (Some 0)
text_of_place (Some l) = place_text l.file l.line ++ discriminator_text l.discriminator

-- a refusal has no text
abbrev pub text_of_answer : Result (Option Location) Error → List ℕ
text_of_answer (Ok place) = text_of_place place
text_of_answer (Err e) = []

-- no address is refused
abbrev pub NeverRefuses : Context → Type 0
NeverRefuses c = (a : ℕ) (e : Error) → location c a ≢ Err e

-- the answer for an address, if there is one
abbrev pub text_of_address : Context → Option ℕ → List ℕ
text_of_address c None = text_of_place None
text_of_address c (Some a) = text_of_answer (location c a)

-- the answer to a word; one that can't be read is answered as if there were no place
abbrev pub word_text : Context → List ℕ → List ℕ
word_text c word = text_of_address c (word_address word)

-- the answers to words, each with a line end
abbrev pub words_text : Context → List (List ℕ) → List ℕ
words_text c words = flat_map (λ w. word_text c w ++ codes "\n") words
