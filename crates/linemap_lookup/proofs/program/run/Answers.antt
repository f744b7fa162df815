use Rattle.linemap_lookup.specs.FileParts.{bytes_if_any}
use Rattle.linemap_lookup.specs.Programs.{question}
use Rattle.linemap_lookup.proofs.ProgramSteps.{prints}
use Rattle.linemap_lookup.proofs.program.run.Goals as goal

pub returns-clause-clean : goal.returns-clause-clean
returns-clause-clean g c = λ memory write.
    prints g.S.SplitSource.answers c.args.options.now c.args.source (g.R.Read.remaining c.args.lines.now)
    (g.R.Read.remaining c.answer_image.new.lines) c.args.image.bytes (bytes_if_any c.args.supplement)
    (question c.args.options.now c.args.image.bytes (bytes_if_any c.args.supplement))
    (record { out = g.O.Write.contents c.args.out.now; err = g.E.Write.contents c.args.err.now })
    (record { out = g.O.Write.contents c.answer_image.new.out; err = g.E.Write.contents c.answer_image.new.err })
    c.answer_image.result c.answer_image.ensures memory write
