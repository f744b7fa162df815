use Rattle.std.proofs.Common.{Ok, Err, option_map, refl}
use Rattle.addr2line_context.specs.BorrowedLocations.{location_value}
use Rattle.linemap_lookup.proofs.FrameSteps.{on_ok}
use Rattle.linemap_lookup.proofs.AnswerSteps.{grows_text}
use Rattle.linemap_lookup.proofs.lookups.answer_place.Goals as goal

pub returns-in-Ok-clause-answer : goal.returns-in-Ok-clause-answer
returns-in-Ok-clause-answer c =
    on_ok c.push_place_line.result
    (λ text. record {
      found = Ok (option_map location_value c.in-Ok.place);
      finds = c.in-Ok.ensures.place;
      grows = grows_text c.args.answer.now _ _ text refl refl;
    }) c.push_place_line.ensures

pub returns-in-Err-clause-answer : goal.returns-in-Err-clause-answer
returns-in-Err-clause-answer c =
    on_ok c.push_refused_place.result
    (λ grows. record { found = Err c.in-Err.error; finds = c.in-Err.ensures.place; grows = grows })
    c.push_refused_place.ensures
