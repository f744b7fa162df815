use Rattle.std.proofs.Common.{ap, subst, ◌∙◌}
use Rattle.addr2line_unit.specs.FirstAnswers.{output}
use Rattle.addr2line_lookups.specs.FramePlaces.{FindsFrames, frames_at_number}
use Rattle.addr2line_lookups.proofs.SettledUnits.{ok_place, asked_frames}
use Rattle.addr2line_lookups.proofs.address_search.FrameSearchAddressSearch.settle.Goals as goal

pub returns-in-Some-clause-settled : goal.returns-in-Some-clause-settled
returns-in-Some-clause-settled c known a vs us found kept = record {
  answer = frames_at_number known vs a c.args._number;
  is_found = asked_frames known vs a c.args._number;
  holds =
      subst (FindsFrames us (frames_at_number known vs a c.args._number))
      (c.in-Ok.is ∙ ap ok_place c.in-Some.is) found;
}

pub returns-in-None-clause-settled : goal.returns-in-None-clause-settled
returns-in-None-clause-settled c known a vs us found kept =
    asked_frames known vs a c.args._number
    ∙ ap output
    (subst (FindsFrames us (frames_at_number known vs a c.args._number))
    (c.in-Ok.is ∙ ap ok_place c.in-None.is) found)

pub returns-in-Err-clause-settled : goal.returns-in-Err-clause-settled
returns-in-Err-clause-settled c known a vs us found kept other =
    asked_frames known vs a c.args._number
    ∙ ap output (subst (FindsFrames us (frames_at_number known vs a c.args._number)) c.in-Err.is found other)
