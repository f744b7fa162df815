use Rattle.std.proofs.Common.{rules}
use Rattle.addr2line_split.specs.ElfDebugSections.{main_section}
use Rattle.addr2line_split.proofs.SectionAnswers.{of_load}
use Rattle.addr2line_loader.proofs.sections.main_sections.Goals as goal

pub returns : goal.returns
returns c =
    of_load _ _ (λ id. main_section id c.args.elf.now) _ (λ id r q s. search rules) _ c.load.ensures.loaded
    c.load.ensures.refusal
