use Rattle.std.proofs.Common.{ap, inl, refl, subst, sym}
use Rattle.addr2line_context.specs.AnsweredContexts.{AnsweredContext}
use Rattle.addr2line_context.specs.KeptContexts.{ResolvedContext}
use Rattle.linemap_replay.specs.CallEffects.{KeepsAndReads}
use Rattle.linemap_replay.proofs.KeptReads.{keeps_same}
use Rattle.linemap_replay.proofs.PartAnswers.{if_err}
use Rattle.linemap_replay.proofs.history.answer_call.Goals as goal

pub returns-in-Frames-clause-answer : goal.returns-in-Frames-clause-answer
returns-in-Frames-clause-answer g c =
    rw c.in-Frames.is (rw c.as_slice.ensures.value at c.find_copied.ensures.answer)

pub returns-in-Unit-clause-answer : goal.returns-in-Unit-clause-answer
returns-in-Unit-clause-answer g c =
    rw c.in-Unit.is (rw c.as_slice-in-Unit.ensures.value at c.find_copied-in-Unit.ensures.answer)

-- ---- where memory is refused

pub returns-in-Location-clause-part : goal.returns-in-Location-clause-part
returns-in-Location-clause-part g c =
    rw c.in-Location.is
    (if_err c.find_place.result _ (inl (ap (λ (x : AnsweredContext). x.answers) c.find_place.ensures.value)))

pub returns-in-Frames-clause-part : goal.returns-in-Frames-clause-part
returns-in-Frames-clause-part g c =
    rw c.in-Frames.is (rw c.as_slice.ensures.value at c.find_copied.ensures.part)

pub returns-in-Range-clause-part : goal.returns-in-Range-clause-part
returns-in-Range-clause-part g c =
    rw c.in-Range.is
    (if_err c.find_stretches.result _ (inl (ap (λ (x : AnsweredContext). x.answers) c.find_stretches.ensures.value)))

pub returns-in-Unit-clause-part : goal.returns-in-Unit-clause-part
returns-in-Unit-clause-part g c =
    rw c.in-Unit.is (rw c.as_slice-in-Unit.ensures.value at c.find_copied-in-Unit.ensures.part)

pub returns-in-Preload-clause-part : goal.returns-in-Preload-clause-part
returns-in-Preload-clause-part g c =
    rw c.in-Preload.is
    (if_err c.preload.result _ (inl (ap (λ (x : ResolvedContext). x.value.answers) c.preload.ensures.value)))

pub returns-in_err-file-in-Answer-clause-part : goal.returns-in_err-file-in-Answer-clause-part
returns-in_err-file-in-Answer-clause-part g c = rw c.in-Answer.is (if_err c.from_residual.result _ (inl refl))

pub returns-in_ok-file-in-Answer-clause-part : goal.returns-in_ok-file-in-Answer-clause-part
returns-in_ok-file-in-Answer-clause-part g c =
    rw c.in-Answer.is
    (rw (c.in_ok-file-in-Answer.ensures, c.as_slice-in-Answer.ensures.value) at c.answer_by_token.ensures.part)

pub returns-in-ParseLines-clause-part : goal.returns-in-ParseLines-clause-part
returns-in-ParseLines-clause-part g c =
    rw c.in-ParseLines.is
    (if_err c.read_lines.result _ (inl (ap (λ (x : AnsweredContext). x.answers) c.read_lines.ensures.value)))

pub returns-in-ParseFunctions-clause-part : goal.returns-in-ParseFunctions-clause-part
returns-in-ParseFunctions-clause-part g c = rw c.in-ParseFunctions.is c.read_functions.ensures.part

pub returns-in-ParseInlined-clause-part : goal.returns-in-ParseInlined-clause-part
returns-in-ParseInlined-clause-part g c = rw c.in-ParseInlined.is c.read_calls.ensures.part

-- ---- what is kept

pub returns-in-Location-clause-kept : goal.returns-in-Location-clause-kept
returns-in-Location-clause-kept g c = rw c.in-Location.is c.find_place.ensures.kept

pub returns-in-Frames-clause-kept : goal.returns-in-Frames-clause-kept
returns-in-Frames-clause-kept g c =
    rw c.in-Frames.is (rw c.as_slice.ensures.value at c.find_copied.ensures.kept)

pub returns-in-Range-clause-kept : goal.returns-in-Range-clause-kept
returns-in-Range-clause-kept g c = rw c.in-Range.is c.find_stretches.ensures.kept

pub returns-in-Unit-clause-kept : goal.returns-in-Unit-clause-kept
returns-in-Unit-clause-kept g c =
    rw c.in-Unit.is (rw c.as_slice-in-Unit.ensures.value at c.find_copied-in-Unit.ensures.kept)

pub returns-in-Preload-clause-kept : goal.returns-in-Preload-clause-kept
returns-in-Preload-clause-kept g c =
    rw c.in-Preload.is
    (subst (λ (x : ResolvedContext). KeepsAndReads (λ n. ⊥) (λ n. ⊥) c.args.context.now.units x.units)
    (sym c.preload.ensures.value) (keeps_same (λ n. ⊥) (λ n. ⊥) c.args.context.now.units))

pub returns-in_err-file-in-Answer-clause-kept : goal.returns-in_err-file-in-Answer-clause-kept
returns-in_err-file-in-Answer-clause-kept g c = keeps_same _ _ c.args.context.now.units

pub returns-in_ok-file-in-Answer-clause-kept : goal.returns-in_ok-file-in-Answer-clause-kept
returns-in_ok-file-in-Answer-clause-kept g c = rw c.in-Answer.is c.answer_by_token.ensures.kept

pub returns-in-ParseLines-clause-kept : goal.returns-in-ParseLines-clause-kept
returns-in-ParseLines-clause-kept g c = rw c.in-ParseLines.is c.read_lines.ensures.kept

pub returns-in-ParseFunctions-clause-kept : goal.returns-in-ParseFunctions-clause-kept
returns-in-ParseFunctions-clause-kept g c = rw c.in-ParseFunctions.is c.read_functions.ensures.kept

pub returns-in-ParseInlined-clause-kept : goal.returns-in-ParseInlined-clause-kept
returns-in-ParseInlined-clause-kept g c = rw c.in-ParseInlined.is c.read_calls.ensures.kept
