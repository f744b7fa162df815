use Rattle.std.proofs.Common.{◌≡◌, ◌⊎◌, inr, refl, subst, Option, OnOk}
use Rattle.addr2line_context.specs.DwarfFiles.{DwarfFile}
use Rattle.addr2line_context.specs.SettledLookups.{after_answer}
use Rattle.linemap_replay.proofs.KeptReads.{keeps_same, reads_nothing}
use Rattle.linemap_replay.proofs.loads.answer_next.Goals as goal

pub returns-clause-answered : goal.returns-clause-answered
returns-clause-answered g c =
    subst (λ (f : Option DwarfFile). OnOk c.answer_first.result
    (c.answer_first.new.context.value.answers ≡ (after_answer c.args.context.now.value c.args.probe f).answers))
    c.in_ok-file.ensures c.answer_first.ensures.ok

pub returns-clause-left : goal.returns-clause-left
returns-clause-left g c =
    subst (λ (f : Option DwarfFile).
    (c.answer_first.new.context.value.answers ≡ (after_answer c.args.context.now.value c.args.probe f).answers)
    ⊎ (c.answer_first.new.context.value.answers ≡ c.args.context.now.value.answers))
    c.in_ok-file.ensures c.answer_first.ensures.left

pub returns-in_err-file-clause-left : goal.returns-in_err-file-clause-left
returns-in_err-file-clause-left g c = inr refl

pub returns-in_err-file-clause-kept : goal.returns-in_err-file-clause-kept
returns-in_err-file-clause-kept g c = keeps_same (λ n. ⊥) (λ n. ⊥) c.args.context.now.units

pub returns-clause-kept : goal.returns-clause-kept
returns-clause-kept g c =
    reads_nothing 0 c.args.context.now.units c.answer_first.new.context.units c.answer_first.ensures.cost
    c.answer_first.ensures.lines c.answer_first.ensures.functions
