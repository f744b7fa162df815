use Rattle.std.proofs.Common.{sym, subst}
use Rattle.linemap_words.specs.CommandLine.{HaveRules, debug_rules}
use Rattle.linemap_words.proofs.command_line.lookup.debug_arguments.Goals as goal

pub returns : goal.returns
returns c =
    subst (λ items. HaveRules items debug_rules) (sym c.in_ok-arguments.ensures.items) (
      c.flag.ensures.rule,
      c.flag.ensures.local,
      (
        c.flag-2.ensures.rule,
        c.flag-2.ensures.local,
        (c.list_option.ensures.rule, c.list_option.ensures.local, tt),
      ),
    )
