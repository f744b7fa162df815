use Rattle.std.proofs.Common.{length, map, option_map, subst, refl, Ok}
use Rattle.linemap_replay.specs.Replays.{file_at}
use Rattle.addr2line_context.specs.FrameLoads.{DecidesUnlessWaiting}
use Rattle.linemap_replay.specs.declared.answer.Answer.TheVariants.{Suspended}
use Rattle.linemap_replay.proofs.AnsweredPlaces.{if_ok}
use Rattle.linemap_replay.proofs.CopiedAnswers.{suspended_copy, resumed_copy, last_answers}
use Rattle.linemap_replay.proofs.PartAnswers.{answered_all, if_err}
use Rattle.linemap_replay.proofs.lookups.find_copied.Goals as goal

-- ---- it waits

pub returns-in-None-clause-answer : goal.returns-in-None-clause-answer
returns-in-None-clause-answer g c =
    let units = c.resume_lookup.new.context.units in
    let l = g.L.AddressLookup.lookup c.resume_lookup.new.context.value c.args.probe in
    resumed_copy _ l _ c.in_ok-decided.ensures.resumed g.L.AddressLookup.answer (Ok Suspended)
    (suspended_copy g.L.AddressLookup.answer l
    (subst (λ o. DecidesUnlessWaiting (g.L.AddressLookup.Decides units) l (Ok o)) c.in-None.is
    c.in_ok-decided.ensures.settles))

pub returns-in-None-clause-left : goal.returns-in-None-clause-left
returns-in-None-clause-left g c = last_answers _ _ _ c.in_ok-decided.ensures.resumed _ refl

-- ---- it is decided

pub copy_found-requires : goal.copy_found-requires
copy_found-requires g c =
    let units = c.resume_lookup.new.context.units in
    let l = g.L.AddressLookup.lookup c.resume_lookup.new.context.value c.args.probe in
    let is =
    subst (λ o. DecidesUnlessWaiting (g.L.AddressLookup.Decides units) l (Ok o)) c.in-Some.is
    c.in_ok-decided.ensures.settles in (l, is.1)

pub returns-in-Some-clause-answer : goal.returns-in-Some-clause-answer
returns-in-Some-clause-answer g c =
    let units = c.resume_lookup.new.context.units in
    let l = g.L.AddressLookup.lookup c.resume_lookup.new.context.value c.args.probe in
    let is =
    subst (λ o. DecidesUnlessWaiting (g.L.AddressLookup.Decides units) l (Ok o)) c.in-Some.is
    c.in_ok-decided.ensures.settles in
    resumed_copy _ l _ c.in_ok-decided.ensures.resumed g.L.AddressLookup.answer c.copy_found.result
    (c.copy_found.ensures l is.1)

pub returns-in-Some-clause-left : goal.returns-in-Some-clause-left
returns-in-Some-clause-left g c =
    if_ok c.copy_found.result _ (last_answers _ _ _ c.in_ok-decided.ensures.resumed _ refl)

pub returns-in-Some-clause-part : goal.returns-in-Some-clause-part
returns-in-Some-clause-part g c =
    let files = map (file_at (map (option_map (λ f. f.value.file)) c.args.answers.now)) c.args.places.now in
    if_err c.copy_found.result _ (
      length files,
      answered_all g.L.AddressLookup.lookup c.args.probe c.args.context.now.value files _
          (last_answers _ _ _ c.in_ok-decided.ensures.resumed _ refl),
    )
