use Rattle.std.proofs.Common.{◌≡◌, List, ◌∷◌, ◌++◌, [], ℕ, ap, sym, subst, ◌∙◌}
use Rattle.addr2line_context.specs.AnsweredContexts.{AnsweredContext}
use Rattle.linemap_text.specs.WordTexts.{NeverRefuses, word_text}
use Rattle.linemap_output.proofs.WritingLemmas.{prefix_whole}
use Rattle.linemap_text.proofs.AskLemmas.{appends_at_word, prefix_at_word, prefix_of_answers}
use Rattle.linemap_text.proofs.engine.write_answers.Goals as goal

-- the line for a word in the same context
same_line : (x y : AnsweredContext) (t s : List ℕ) → x ≡ y → t ≡ s
    → word_text x.plain.context t ++ 10 ∷ [] ≡ word_text y.plain.context s ++ 10 ∷ []
same_line x y t s same is =
    ap (λ (z : AnsweredContext). word_text z.plain.context t ++ 10 ∷ []) same
    ∙ ap (λ w. word_text y.plain.context w ++ 10 ∷ []) is

pub write_answer-requires : goal.write_answer-requires
write_answer-requires g c =
    subst (λ (x : AnsweredContext). NeverRefuses x.plain.context) (sym c.loop-word.invariant.0) c.requires

pub returns-in_err-write_answer-clause-prefix : goal.returns-in_err-write_answer-clause-prefix
returns-in_err-write_answer-clause-prefix g c =
    prefix_at_word c.args.context.now.value.plain.context c.args.words.now _ _ _ c.loop-word.word-index
    c.word-item.result _
    c.loop-word-test.true c.word-item.is
    (same_line _ _ _ _ c.loop-word.invariant.0 c.deref.ensures) c.loop-word.invariant.1
    c.in_err-write_answer.ensures.prefix

pub loop-word-preserved : goal.loop-word-preserved
loop-word-preserved g c = (
  c.in_ok-write_answer.ensures.value ∙ c.loop-word.invariant.0,
  appends_at_word c.args.context.now.value.plain.context c.args.words.now _ _ _ c.loop-word.word-index
      c.word-item.result _
      c.loop-word-test.true c.word-item.is
      (same_line _ _ _ _ c.loop-word.invariant.0 c.deref.ensures) c.loop-word.invariant.1
      c.in_ok-write_answer.ensures.whole,
)

pub returns-clause-prefix : goal.returns-clause-prefix
returns-clause-prefix g c =
    prefix_of_answers c.args.context.now.value.plain.context c.args.words.now _ _ c.loop-word.word-index
    (prefix_whole _ _ _ c.loop-word.invariant.1)
