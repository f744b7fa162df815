-- The calls so far are answered.
use Rattle.std.proofs.Common.{map, option_map}
use Rattle.linemap_replay.specs.CallEffects.{KeepsAfterCalls}
use Rattle.linemap_replay.specs.Replays.{context_call, token_of}
use Rattle.linemap_replay.proofs.AnsweredCalls.{AnsweredBefore}
use Rattle.linemap_replay.proofs.history.replay.Given as goal

abbrev pub invariant-loop-call : goal.invariant-loop-call
invariant-loop-call g l =
    let files = map (option_map (λ f. f.value.file)) l.answers in
    AnsweredBefore files l.fn.context.value l.calls l.context.value (map token_of l.loads.items) l.found.items
    l.call-index
    × KeepsAfterCalls l.fn.context.value (map (context_call files) l.calls) l.fn.context.units l.context.units
