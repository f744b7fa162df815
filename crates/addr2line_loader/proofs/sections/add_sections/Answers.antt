use Rattle.std.proofs.Common.{rules}
use Rattle.addr2line_split.specs.ElfDebugSections.{main_section}
use Rattle.addr2line_loader.proofs.SupplementSections.{of_load_sup}
use Rattle.addr2line_loader.proofs.sections.add_sections.Goals as goal

pub returns : goal.returns
returns c =
    of_load_sup _ _ (λ id. main_section id c.args.elf.now) _ (λ id r q s. search rules) c.args.dwarf.now
    c.load_sup.new.self c.load_sup.result c.load_sup.ensures.ok c.load_sup.ensures.refusal
