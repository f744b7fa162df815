-- A context with the first answers to the loads of its units.
use Rattle.std.specs.Prelude.{◌≡◌, length}
use Rattle.addr2line_lookups.specs.FirstAnswers.{FirstAnswers, no_answers}
use Rattle.addr2line_lookups.specs.Contexts.{FileContext}

-- the context over a file's sections, and the first answers so far
pub record AnsweredContext : Type 0 where
  pub plain : FileContext
  pub answers : FirstAnswers

-- there was no answer
abbrev pub HasNoAnswers : AnsweredContext → Type 0
HasNoAnswers c = c.answers ≡ no_answers (length c.plain.context.units)
