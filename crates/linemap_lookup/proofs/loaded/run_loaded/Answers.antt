use Rattle.std.proofs.Common.{subst}
use Rattle.addr2line_loader.specs.ResolvedFiles.{ResolvedFile}
use Rattle.linemap_lookup.specs.LookupRuns.{Streams}
use Rattle.linemap_lookup.specs.Programs.{LacksMemoryForAll, Runs, question_of}
use Rattle.linemap_lookup.proofs.ProgramSteps.{prints_loaded}
use Rattle.linemap_lookup.proofs.loaded.run_loaded.Goals as goal

pub returns-clause-clean : goal.returns-clause-clean
returns-clause-clean g c = λ memory write.
    let old : Streams = record { out = g.O.Write.contents c.args.out.now; err = g.E.Write.contents c.args.err.now } in
    let new : Streams = record { out = g.O.Write.contents c.run.new.out; err = g.E.Write.contents c.run.new.err } in
    let runs = subst (λ (l : ResolvedFile).
    Runs g.S.SplitSource.answers c.args.options.now c.args.source (g.R.Read.remaining c.args.lines.now)
    (g.R.Read.remaining c.run.new.lines) (LacksMemoryForAll c.args.options.now l.file)
    (question_of c.args.options.now l.file) old new c.run.result) c.new.ensures c.run.ensures in
    prints_loaded g.S.SplitSource.answers c.args.options.now c.args.source (g.R.Read.remaining c.args.lines.now)
    (g.R.Read.remaining c.run.new.lines) c.args.loader.file (question_of c.args.options.now c.args.loader.file)
    old new c.run.result runs memory write
