use Rattle.std.proofs.Common.{refl, map, subst, Ok, Err}
use Rattle.addr2line_context.specs.BorrowedFrames.{frames_left}
use Rattle.addr2line_context.specs.Histories.{frames_answer}
use Rattle.addr2line_context.specs.OwnedPlaces.{CopiesOrNoMemory}
use Rattle.linemap_replay.specs.OwnedAnswers.{frames_copy, answer_of, copied_frame}
use Rattle.linemap_replay.proofs.CopiedAnswers.{output_copy, refused_output}
use Rattle.linemap_replay.proofs.address_lookup.FrameLookupAddressLookup.copy_found.Goals as goal

pub returns-in-Ok : goal.returns-in-Ok
returns-in-Ok g c = λ meaning decides.
    subst (CopiesOrNoMemory answer_of c.answer_frames.result)
    (output_copy frames_answer meaning (Ok (frames_left c.in-Ok.frames))
    (frames_copy (map copied_frame (frames_left c.in-Ok.frames))) (c.in-Ok.ensures meaning decides) refl)
    c.answer_frames.ensures

pub returns-in-Err : goal.returns-in-Err
returns-in-Err g c = λ meaning decides.
    refused_output frames_answer meaning (Err c.in-Err.error) c.in-Err.error c.refuse.result
    (c.in-Err.ensures meaning decides) refl c.refuse.ensures
