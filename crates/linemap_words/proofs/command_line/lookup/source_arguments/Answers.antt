use Rattle.std.proofs.Common.{sym, subst}
use Rattle.linemap_words.specs.CommandLine.{HaveRules, source_rules}
use Rattle.linemap_words.proofs.command_line.lookup.source_arguments.Goals as goal

pub returns : goal.returns
returns c =
    subst (λ items. HaveRules items source_rules) (sym c.in_ok-arguments.ensures.items) (
      c.exe_argument.ensures.rule,
      c.exe_argument.ensures.local,
      (
        c.text_option.ensures.rule,
        c.text_option.ensures.local,
        (
          c.section_argument.ensures.rule,
          c.section_argument.ensures.local,
          (c.flag.ensures.rule, c.flag.ensures.local, tt),
        ),
      ),
    )
