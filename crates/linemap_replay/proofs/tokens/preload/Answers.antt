use Rattle.std.proofs.Common.{ap, ◌∙◌, map, subst}
use Rattle.std.proofs.lemmas.Result.{on_ok_weaker}
use Rattle.addr2line_context.specs.SettledLookups.{loads_in}
use Rattle.addr2line_context.specs.OwnedPlaces.{CopiesOrNoMemory}
use Rattle.linemap_replay.specs.OwnedAnswers.{answer_of}
use Rattle.linemap_replay.specs.Replays.{token_of}
use Rattle.linemap_replay.proofs.AnsweredTokens.{never_refused, never_ok, preload_copy, preload_tokens}
use Rattle.linemap_replay.proofs.tokens.preload.Goals as goal

pub returns-in-Ok-clause-answer : goal.returns-in-Ok-clause-answer
returns-in-Ok-clause-answer g c =
    subst (CopiesOrNoMemory answer_of c.replace_loads.result)
    (preload_copy c.args.context.now.value c.args.probe c.in-Ok.found.items c.in-Ok.ensures.loads)
    c.replace_loads.ensures.answer

pub returns-in-Ok-clause-tokens : goal.returns-in-Ok-clause-tokens
returns-in-Ok-clause-tokens g c =
    on_ok_weaker c.replace_loads.result
    (λ is. ap (map token_of) is
    ∙ preload_tokens c.args.context.now.value c.args.probe c.in-Ok.found.items c.in-Ok.ensures.loads)
    c.replace_loads.ensures.loads

pub returns-in-Err-clause-answer : goal.returns-in-Err-clause-answer
returns-in-Err-clause-answer g c =
    never_refused (loads_in c.args.context.now.value c.args.probe) _ c.refuse.result _ c.in-Err.ensures.loads
    c.refuse.ensures

pub returns-in-Err-clause-tokens : goal.returns-in-Err-clause-tokens
returns-in-Err-clause-tokens g c =
    never_ok (loads_in c.args.context.now.value c.args.probe) _ c.refuse.result _ c.in-Err.ensures.loads
    c.refuse.ensures
