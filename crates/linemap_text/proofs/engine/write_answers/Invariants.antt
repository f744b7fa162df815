use Rattle.std.proofs.Common.{◌≡◌}
use Rattle.std.specs.Io.KnownBytes.{Appends}
use Rattle.linemap_text.proofs.AskLemmas.{answers_to}
use Rattle.linemap_text.proofs.engine.write_answers.Given as goal

-- the words so far are answered, and the context's value is the same
abbrev pub invariant-loop-word : goal.invariant-loop-word
invariant-loop-word g l =
    (l.context.value ≡ l.fn.context.value)
    × Appends (g.W.Write.contents l.fn.out) (g.W.Write.contents l.out)
    (answers_to l.fn.context.value.plain.context l.words l.word-index)
