use Rattle.std.proofs.Common.{sym, option_map}
use Rattle.linemap_replay.proofs.AnsweredTokens.{token_copy, token_left, no_token_copy, no_token_left}
use Rattle.linemap_replay.proofs.KeptReads.{keeps_same, reads_nothing}
use Rattle.linemap_replay.proofs.PartAnswers.{if_err, token_part}
use Rattle.linemap_replay.proofs.tokens.answer_by_token.Goals as goal

pub returns-in-Some-clause-answer : goal.returns-in-Some-clause-answer
returns-in-Some-clause-answer g c =
    token_copy c.args.context.now.value c.args.loads.now c.args.number (option_map (λ f. f.value.file) c.args.file)
    c.in-Some.token (sym c.in-Some.ensures) c.answer_load.result c.answer_load.new.self.value.answers
    c.answer_load.ensures.answers c.complete.result c.complete.ensures

pub returns-in-Some-clause-left : goal.returns-in-Some-clause-left
returns-in-Some-clause-left g c =
    token_left c.args.context.now.value c.args.loads.now c.args.number (option_map (λ f. f.value.file) c.args.file)
    c.in-Some.token (sym c.in-Some.ensures) c.answer_load.result c.answer_load.new.self.value.answers
    c.answer_load.ensures.answers c.complete.result c.complete.ensures

pub returns-in-None-clause-answer : goal.returns-in-None-clause-answer
returns-in-None-clause-answer g c =
    no_token_copy c.args.context.now.value c.args.loads.now c.args.number (option_map (λ f. f.value.file) c.args.file)
    (sym c.in-None.ensures)

pub returns-in-None-clause-left : goal.returns-in-None-clause-left
returns-in-None-clause-left g c =
    no_token_left c.args.context.now.value c.args.loads.now c.args.number (option_map (λ f. f.value.file) c.args.file)
    (sym c.in-None.ensures)

pub returns-in-Some-clause-part : goal.returns-in-Some-clause-part
returns-in-Some-clause-part g c =
    if_err c.complete.result _
    (token_part c.args.context.now.value c.args.loads.now c.args.number (option_map (λ f. f.value.file) c.args.file)
    c.in-Some.token (sym c.in-Some.ensures) c.answer_load.result c.answer_load.new.self.value.answers
    c.answer_load.ensures.answers)

pub returns-in-Some-clause-kept : goal.returns-in-Some-clause-kept
returns-in-Some-clause-kept g c =
    reads_nothing 0 c.args.context.now.units c.answer_load.new.self.units c.answer_load.ensures.cost
    c.answer_load.ensures.lines c.answer_load.ensures.functions

pub returns-in-None-clause-kept : goal.returns-in-None-clause-kept
returns-in-None-clause-kept g c = keeps_same (λ n. ⊥) (λ n. ⊥) c.args.context.now.units
