use Rattle.std.proofs.Common.{Result, List, Some, None, sym, subst}
use Rattle.addr2line_unit.specs.Error.{Error}
use Rattle.addr2line_unit.specs.Calls.{ReturnsAs}
use Rattle.addr2line_unit.specs.BorrowedFrames.{frames_left}
use Rattle.addr2line_unit.specs.Frames.{Frame}
use Rattle.addr2line_lookups.proofs.KeptLines.{keeps_at}
use Rattle.addr2line_lookups.proofs.FoundFrames.{frames_in}
use Rattle.addr2line_lookups.proofs.frame_place.frames_at_place.Goals as goal

pub returns-in-Some : goal.returns-in-Some
returns-in-Some g c = λ kept.
    let us = c.args.units.now in
    let place = c.args.place in
    let unit = c.in-Some.unit.now in
    let P : Result (List Frame) Error → Type 0 = λ m. ReturnsAs frames_left c.frames_in_unit.result m in
    subst P (sym (frames_in us place (Some unit) c.in-Some.ensures))
    (c.frames_in_unit.ensures (keeps_at us place.unit unit c.in-Some.ensures kept))

pub returns-in-None : goal.returns-in-None
returns-in-None g c = λ kept. frames_in c.args.units.now c.args.place None c.in-None.ensures
