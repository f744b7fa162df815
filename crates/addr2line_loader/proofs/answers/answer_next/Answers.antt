use Rattle.std.proofs.Common.{refl, inl, inr, sym, subst, option_map, Ok}
use Rattle.std.proofs.lemmas.Result.{err_from_is_err_and}
use Rattle.addr2line_context.proofs.AnsweredFirst.{frames_have_load}
use Rattle.addr2line_context.proofs.FrameLoads.{fewer_loads_of_frames}
use Rattle.addr2line_split.specs.SplitLoading.{GetsFile}
use Rattle.addr2line_loader.proofs.AnsweredLoads.{first_load_is, answers_one}
use Rattle.addr2line_loader.proofs.FrameReads.{asks_left, reads_nothing, reads_by_answer}
use Rattle.addr2line_loader.proofs.answers.answer_next.Goals as goal

pub first_load-requires : goal.first_load-requires
first_load-requires g c = frames_have_load c.args.context.now.value c.args.probe c.requires

pub returns-in_err-file-clause-loads : goal.returns-in_err-file-clause-loads
returns-in_err-file-clause-loads g c =
    let p = err_from_is_err_and c.from_residual-in_err-file.result c.from_residual-in_err-file.ensures.1 in
    let is = first_load_is c.args.context.now.value c.args.probe c.requires c.in_ok-load.load c.in_ok-load.ensures in
    let file = c.in_err-file.ensures.file in
    rw (p.1, p.2) (
      c.in_err-file.ensures.memory,
      inl (
        refl,
        inr (
          c.requires.0,
          file.0,
          c.requires.1,
          subst (λ l. GetsFile g.S.SplitSource.answers l c.args.source.now file.0 c.load_split.new.source) (sym is)
              file.1,
        ),
      ),
    )

pub returns-clause-loads : goal.returns-clause-loads
returns-clause-loads g c =
    let is = first_load_is c.args.context.now.value c.args.probe c.requires c.in_ok-load.load c.in_ok-load.ensures in
    let got = c.in_ok-file.ensures.file in
    let file = option_map (λ d. d.value.file) c.in_ok-file.file in
    answers_one g.S.SplitSource.answers c.args.probe c.args.context.now.value c.answer_first.new.context.value
    c.args.source.now c.load_split.new.source file c.requires
    (subst (λ l. GetsFile g.S.SplitSource.answers l c.args.source.now (Ok file) c.load_split.new.source) (sym is)
    (subst (λ f. GetsFile g.S.SplitSource.answers c.in_ok-load.load c.args.source.now f c.load_split.new.source) got.2
    got.1))
    c.answer_first.result c.answer_first.ensures.ok c.answer_first.ensures.left c.answer_first.ensures.refusal

pub returns-clause-fewer : goal.returns-clause-fewer
returns-clause-fewer g c =
    fewer_loads_of_frames c.args.context.now.value c.answer_first.new.context.value c.args.probe c.answer_first.result
    c.requires
    c.answer_first.ensures.fewer

pub returns-in_err-load-clause-units : goal.returns-in_err-load-clause-units
returns-in_err-load-clause-units g c =
    reads_nothing c.args.context.now.value c.args.probe c.args.context.now.units

pub returns-in_err-file-clause-units : goal.returns-in_err-file-clause-units
returns-in_err-file-clause-units g c =
    reads_nothing c.args.context.now.value c.args.probe c.args.context.now.units

pub returns-clause-units : goal.returns-clause-units
returns-clause-units g c =
    reads_by_answer c.answer_first.new.context.value c.args.probe 0 c.args.context.now.units
    c.answer_first.new.context.units c.answer_first.ensures.cost c.answer_first.ensures.lines
    c.answer_first.ensures.functions

pub returns-in_err-load-clause-asks : goal.returns-in_err-load-clause-asks
returns-in_err-load-clause-asks g c = λ n asked. asked

pub returns-in_err-file-clause-asks : goal.returns-in_err-file-clause-asks
returns-in_err-file-clause-asks g c = λ n asked. asked

pub returns-clause-asks : goal.returns-clause-asks
returns-clause-asks g c =
    asks_left c.args.context.now.value c.answer_first.new.context.value c.args.probe
    (option_map (λ d. d.value.file) c.in_ok-file.file) c.answer_first.ensures.plain c.answer_first.ensures.left
