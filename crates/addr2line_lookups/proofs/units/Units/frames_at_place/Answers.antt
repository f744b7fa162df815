use Rattle.std.proofs.Common.{List, ◌∙◌, subst}
use Rattle.addr2line_unit.specs.BorrowedFrames.{frames_left}
use Rattle.addr2line_unit.specs.ResolvedUnits.{ResolvedUnit}
use Rattle.addr2line_lookups.specs.FramePlaces.{LendsFrames}
use Rattle.addr2line_lookups.proofs.FoundFrames.{lends_frames, lends_none}
use Rattle.addr2line_lookups.proofs.units.Units.frames_at_place.Goals as goal

pub returns-in-Ok : goal.returns-in-Ok
returns-in-Ok g c =
    let P : List ResolvedUnit → Type 0 = λ us. LendsFrames us c.args.place (frames_left c.in-Ok.frames) in
    subst P (c.as_slice.ensures.value ∙ c.self.view_is)
    (lends_frames frames_left c.as_slice.result.now c.args.place c.frames_at_place.result c.frames_at_place.ensures
    c.in-Ok.frames c.in-Ok.is)

pub returns-in-Err : goal.returns-in-Err
returns-in-Err g c =
    let P : List ResolvedUnit → Type 0 =
    λ us. LendsFrames us c.args.place (frames_left c.frame_without_function.result) in
    subst P (c.as_slice.ensures.value ∙ c.self.view_is)
    (lends_none frames_left c.as_slice.result.now c.args.place c.frames_at_place.result c.frames_at_place.ensures
    c.in-Err.field-0 _ c.in-Err.is)
