use Rattle.addr2line_context.specs.ContextCosts.{AsksForNext}
use Rattle.addr2line_loader.proofs.FoundPlaces.{free_of}
use Rattle.addr2line_loader.proofs.stretches.next_stretch.Goals as goal

pub returns-clause-free : goal.returns-clause-free
returns-clause-free c =
    free_of (λ v. AsksForNext v c.args.walk.now)
    (record {
      image = c.loader.inside.elf;
      symbols = c.loader.inside.symbols;
      sections = c.loader.inside.sections.value.file;
      context = c.loader.inside.context.value.plain;
      answers = c.loader.inside.context.value.answers;
    })
    c.loader.inside.context _ c.next_stretch.ensures.free c.args.loader.now c.loader.view_is
