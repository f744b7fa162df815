use Rattle.std.proofs.Common.{refl, subst}
use Rattle.addr2line_context.specs.Contexts.{location}
use Rattle.addr2line_context.specs.OwnedPlaces.{CopiesOrNoMemory}
use Rattle.linemap_replay.specs.OwnedAnswers.{location_copy, answer_of}
use Rattle.linemap_replay.proofs.CopiedAnswers.{found_copy, refused_copy}
use Rattle.linemap_replay.proofs.lookups.find_place.Goals as goal

pub returns-in-Ok-clause-answer : goal.returns-in-Ok-clause-answer
returns-in-Ok-clause-answer g c =
    subst (CopiesOrNoMemory answer_of c.answer_place.result)
    (found_copy location_copy (location c.args.context.now.value.plain.context c.args.probe)
    _ _ c.in-Ok.ensures.place refl)
    c.answer_place.ensures

pub returns-in-Err-clause-answer : goal.returns-in-Err-clause-answer
returns-in-Err-clause-answer g c =
    refused_copy location_copy (location c.args.context.now.value.plain.context c.args.probe) c.in-Err.error
    c.refuse.result c.in-Err.ensures.place c.refuse.ensures
