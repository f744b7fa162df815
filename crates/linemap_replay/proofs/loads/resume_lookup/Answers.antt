use Rattle.std.proofs.Common.{◌+◌, ◌∙◌, refl, sym, ap, subst, map, option_map, drop, take, Some, Ok}
use Rattle.std.proofs.lemmas.List.{drop_all, map_more}
use Rattle.addr2line_context.specs.AnsweredContexts.{AnsweredContext}
use Rattle.addr2line_context.specs.FrameLoads.{DecidesUnlessWaiting, IsDone}
use Rattle.linemap_replay.specs.Replays.{file_at, resume_with_all}
use Rattle.linemap_replay.proofs.KeptReads.{keeps_answer, keeps_same, keeps_search}
use Rattle.linemap_replay.proofs.PartAnswers.{answered_more, if_err, part_reached, part_answered}
use Rattle.linemap_replay.proofs.AnsweredPlaces.{number_at, resumed_done, resumed_waiting, found_in_same, if_ok}
use Rattle.linemap_replay.proofs.loads.resume_lookup.Goals as goal

pub loop-place-init : goal.loop-place-init
loop-place-init g c = (refl, keeps_same _ _ c.args.context.now.units, refl, refl)

-- ---- a load needs an answer

pub loop-place-preserved : goal.loop-place-preserved
loop-place-preserved g c =
    let lookup = g.L.AddressLookup.lookup in
    let asks = g.L.AddressLookup.asks in
    let a = c.args.probe in
    let v = c.loop-place.context.value in
    let start = c.args.context.now.value in
    let is = c.settle.ensures.value in
    let files = map (option_map (λ f. f.value.file)) c.args.answers.now in
    let waits =
    subst (λ o. DecidesUnlessWaiting (g.L.AddressLookup.Decides c.settle.new.context.units) (lookup v a) (Ok o))
    c.in-None.is c.in_ok-decided.ensures.settles in (
      c.answer_next.ensures.plain ∙ ap (λ (x : AnsweredContext). x.plain) is ∙ c.loop-place.invariant.0,
      keeps_answer lookup asks start a (file_at files) c.args.places.now _ _ _
          (keeps_search lookup asks start a (file_at files) c.args.places.now c.loop-place.place-index v
          c.loop-place.invariant.0 c.loop-place.invariant.3 _ _ _ c.loop-place.invariant.1 c.settle.ensures.kept)
          c.answer_next.ensures.kept,
      resumed_waiting lookup a v c.settle.new.context.value c.answer_next.new.context.value c.settle.ensures.first waits
          is c.answer_next.ensures.plain _ c.in_ok-answer_next-in-None.ensures.answered
          (map (file_at files) (drop (c.loop-place.place-index + 1) c.args.places.now))
          ∙ ap (λ ps. resume_with_all lookup v a (map (file_at files) ps))
          (sym (number_at c.args.places.now c.loop-place.place-index c.loop-place-test.true))
          ∙ c.loop-place.invariant.2,
      answered_more lookup a start v c.settle.new.context.value c.answer_next.new.context.value
          (map (file_at files) (take c.loop-place.place-index c.args.places.now)) _ c.loop-place.invariant.0
          c.loop-place.invariant.3 c.settle.ensures.first waits is c.answer_next.ensures.plain
          c.in_ok-answer_next-in-None.ensures.answered
          ∙ ap (λ fs. (resume_with_all lookup start a fs).1)
          (sym (map_more (file_at files) c.args.places.now c.loop-place.place-index 0 c.loop-place-test.true)),
    )

pub returns-in_err-answer_next-in-None-clause-kept : goal.returns-in_err-answer_next-in-None-clause-kept
returns-in_err-answer_next-in-None-clause-kept g c =
    let lookup = g.L.AddressLookup.lookup in
    let asks = g.L.AddressLookup.asks in
    let start = c.args.context.now.value in
    let a = c.args.probe in
    let file = file_at (map (option_map (λ f. f.value.file)) c.args.answers.now) in
    keeps_answer lookup asks start a file c.args.places.now _ _ _
    (keeps_search lookup asks start a file c.args.places.now c.loop-place.place-index c.loop-place.context.value
    c.loop-place.invariant.0 c.loop-place.invariant.3 _ _ _ c.loop-place.invariant.1 c.settle.ensures.kept)
    c.answer_next.ensures.kept

pub returns-in_err-answer_next-in-None-clause-part : goal.returns-in_err-answer_next-in-None-clause-part
returns-in_err-answer_next-in-None-clause-part g c =
    let lookup = g.L.AddressLookup.lookup in
    let a = c.args.probe in
    let v = c.loop-place.context.value in
    let files = map (option_map (λ f. f.value.file)) c.args.answers.now in
    let waits =
    subst (λ o. DecidesUnlessWaiting (g.L.AddressLookup.Decides c.settle.new.context.units) (lookup v a) (Ok o))
    c.in-None.is c.in_ok-decided.ensures.settles in
    if_err c.from_residual-in_err-answer_next-in-None.result _
    (part_answered lookup a c.args.context.now.value (file_at files) c.args.places.now
    c.loop-place.place-index c.loop-place-test.true v c.settle.new.context.value c.answer_next.new.context.value
    c.loop-place.invariant.0 c.loop-place.invariant.3 c.settle.ensures.first waits c.settle.ensures.value
    c.answer_next.ensures.plain c.answer_next.ensures.left)

-- ---- it is decided

pub returns-in-Some-clause-settles : goal.returns-in-Some-clause-settles
returns-in-Some-clause-settles g c =
    let lookup = g.L.AddressLookup.lookup in
    let decides = g.L.AddressLookup.Decides c.settle.new.context.units in
    subst (λ (x : AnsweredContext). DecidesUnlessWaiting decides (lookup x c.args.probe) (Ok (Some c.in-Some.decided)))
    (sym c.settle.ensures.value)
    (subst (λ o. DecidesUnlessWaiting decides (lookup c.loop-place.context.value c.args.probe) (Ok o)) c.in-Some.is
    c.in_ok-decided.ensures.settles)

pub returns-in-Some-clause-resumed : goal.returns-in-Some-clause-resumed
returns-in-Some-clause-resumed g c =
    let lookup = g.L.AddressLookup.lookup in
    let a = c.args.probe in
    let v = c.loop-place.context.value in
    let files = map (option_map (λ f. f.value.file)) c.args.answers.now in
    let is =
    subst (λ o. DecidesUnlessWaiting (g.L.AddressLookup.Decides c.settle.new.context.units) (lookup v a) (Ok o))
    c.in-Some.is c.in_ok-decided.ensures.settles in
    let done : IsDone (lookup v a) = is.0 in
    found_in_same lookup a v _ c.settle.ensures.value _
    (sym c.loop-place.invariant.2
    ∙ resumed_done lookup a v done (map (file_at files) (drop c.loop-place.place-index c.args.places.now)))

pub returns-in-Some-clause-kept : goal.returns-in-Some-clause-kept
returns-in-Some-clause-kept g c =
    let file = file_at (map (option_map (λ f. f.value.file)) c.args.answers.now) in
    keeps_search g.L.AddressLookup.lookup g.L.AddressLookup.asks c.args.context.now.value c.args.probe file
    c.args.places.now c.loop-place.place-index c.loop-place.context.value c.loop-place.invariant.0
    c.loop-place.invariant.3 _ _ _ c.loop-place.invariant.1 c.settle.ensures.kept

-- ---- all places are taken

pub returns-clause-settles : goal.returns-clause-settles
returns-clause-settles g c =
    let decides = g.L.AddressLookup.Decides c.settle-2.new.context.units in
    subst (λ (x : AnsweredContext). DecidesUnlessWaiting decides (g.L.AddressLookup.lookup x c.args.probe)
    c.settle-2.result)
    (sym c.settle-2.ensures.value) c.settle-2.ensures.settles

pub returns-clause-resumed : goal.returns-clause-resumed
returns-clause-resumed g c =
    let lookup = g.L.AddressLookup.lookup in
    let a = c.args.probe in
    let v = c.loop-place.context.value in
    let files = map (option_map (λ f. f.value.file)) c.args.answers.now in
    if_ok c.settle-2.result _
    (found_in_same lookup a v _ c.settle-2.ensures.value _
    (sym c.loop-place.invariant.2
    ∙ ap (λ ps. resume_with_all lookup v a (map (file_at files) ps))
    (drop_all c.loop-place.place-index c.args.places.now c.loop-place-test.false)))

pub returns-clause-kept : goal.returns-clause-kept
returns-clause-kept g c =
    let file = file_at (map (option_map (λ f. f.value.file)) c.args.answers.now) in
    keeps_search g.L.AddressLookup.lookup g.L.AddressLookup.asks c.args.context.now.value c.args.probe file
    c.args.places.now c.loop-place.place-index c.loop-place.context.value c.loop-place.invariant.0
    c.loop-place.invariant.3 _ _ _ c.loop-place.invariant.1 c.settle-2.ensures.kept

pub returns-clause-part : goal.returns-clause-part
returns-clause-part g c =
    let files = map (option_map (λ f. f.value.file)) c.args.answers.now in
    if_err c.settle-2.result _
    (part_reached g.L.AddressLookup.lookup c.args.probe c.args.context.now.value (file_at files) c.args.places.now
    c.loop-place.place-index _
    (ap (λ (x : AnsweredContext). x.answers) c.settle-2.ensures.value ∙ c.loop-place.invariant.3))

-- ---- out of memory, in the search

pub returns-in_err-decided-clause-kept : goal.returns-in_err-decided-clause-kept
returns-in_err-decided-clause-kept g c =
    let file = file_at (map (option_map (λ f. f.value.file)) c.args.answers.now) in
    keeps_search g.L.AddressLookup.lookup g.L.AddressLookup.asks c.args.context.now.value c.args.probe file
    c.args.places.now c.loop-place.place-index c.loop-place.context.value c.loop-place.invariant.0
    c.loop-place.invariant.3 _ _ _ c.loop-place.invariant.1 c.settle.ensures.kept

pub returns-in_err-decided-clause-part : goal.returns-in_err-decided-clause-part
returns-in_err-decided-clause-part g c =
    let files = map (option_map (λ f. f.value.file)) c.args.answers.now in
    if_err c.from_residual.result _
    (part_reached g.L.AddressLookup.lookup c.args.probe c.args.context.now.value (file_at files) c.args.places.now
    c.loop-place.place-index _
    (ap (λ (x : AnsweredContext). x.answers) c.settle.ensures.value ∙ c.loop-place.invariant.3))
