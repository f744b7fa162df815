use Rattle.std.proofs.Common.{◌++◌, ◌∙◌, sym}
use Rattle.std.proofs.KnownBytes.{Consumes-trans}
use Rattle.linemap_lookup.proofs.LineParts.{next_part}
use Rattle.linemap_lookup.proofs.lines.LineBuffer.read_line.Goals as goal

pub part-preserved : goal.part-preserved
part-preserved g c =
    next_part _ _ _ c.args.self.now c.part.self c.count_try.new.self c.append_part.new.self c.part.invariant
    (sym c.is_whole.ensures ∙ c.part-test.true) c.in_ok-count_try.ensures.fewer c.in_ok-count_try.ensures.same
    c.in_ok-append_part.ensures.part

pub returns-in_err-append_part-clause-taken : goal.returns-in_err-append_part-clause-taken
returns-in_err-append_part-clause-taken g c = (
  c.part.self.line.items ++ c.append_part.ensures.taken.0,
  Consumes-trans _ _ _ _ _ c.part.invariant.consumes c.append_part.ensures.taken.1,
)
