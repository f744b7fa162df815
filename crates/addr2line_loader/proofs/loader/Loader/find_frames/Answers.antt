use Rattle.std.proofs.Common.{refl}
use Rattle.std.proofs.lemmas.Result.{err_from_is_err_and}
use Rattle.addr2line_context.specs.BorrowedFrames.{frames_left}
use Rattle.addr2line_context.proofs.FoundRows.{found_row}
use Rattle.addr2line_loader.proofs.FoundFrames.{finds_frames, stops_frames}
use Rattle.addr2line_loader.proofs.loader.Loader.find_frames.Goals as goal

pub returns-in_err-decided : goal.returns-in_err-decided
returns-in_err-decided g c =
    let p = err_from_is_err_and c.from_residual.result c.from_residual.ensures.1 in (
      (
        refl,
        λ _. tt,
        rw (p.1, p.2) (stops_frames g.S.SplitSource.answers c.args.probe frames_left c.args.source.now
            (record {
              image = c.self.inside.elf;
              symbols = c.self.inside.symbols;
              sections = c.self.inside.sections.value.file;
              context = c.self.inside.context.value.plain;
              answers = c.self.inside.context.value.answers;
            })
            c.self.inside.context.units c.answer_loads.new.context c.answer_loads.new.source
            c.answer_loads.ensures.plain c.answer_loads.ensures.units
            c.answer_loads.ensures.alone c.in_err-decided.field-0.0 c.in_err-decided.ensures.loads
            c.args.self.now c.self.view_is),
      ),
      record { after = tt },
    )

pub returns : goal.returns
returns g c = (
  (
    refl,
    λ _. tt,
    finds_frames g.S.SplitSource.answers c.args.probe frames_left c.args.source.now
        (record {
          image = c.self.inside.elf;
          symbols = c.self.inside.symbols;
          sections = c.self.inside.sections.value.file;
          context = c.self.inside.context.value.plain;
          answers = c.self.inside.context.value.answers;
        })
        c.self.inside.context.units c.answer_loads.new.context c.answer_loads.new.source
        c.answer_loads.ensures.plain c.answer_loads.ensures.units
        c.answer_loads.ensures.alone c.in_ok-decided.decided c.in_ok-decided.ensures.loads
        (c.in_ok-decided.ensures.asked (found_row _)) c.lend_frames.result c.lend_frames.ensures
        c.args.self.now c.self.view_is,
  ),
  record { after = tt },
)

pub lend_frames-requires : goal.lend_frames-requires
lend_frames-requires g c = (_, c.in_ok-decided.ensures.loads.decides)
