use Rattle.std.proofs.Common.{sym, subst}
use Rattle.linemap_words.specs.CommandLine.{HaveRules, detail_rules}
use Rattle.linemap_words.proofs.command_line.lookup.detail_arguments.Goals as goal

pub returns : goal.returns
returns c =
    subst (λ items. HaveRules items detail_rules) (sym c.in_ok-arguments.ensures.items) (
      c.short_flag.ensures.rule,
      c.short_flag.ensures.local,
      (
        c.short_flag-2.ensures.rule,
        c.short_flag-2.ensures.local,
        (
          c.short_flag-3.ensures.rule,
          c.short_flag-3.ensures.local,
          (
            c.short_flag-4.ensures.rule,
            c.short_flag-4.ensures.local,
            (
              c.short_flag-5.ensures.rule,
              c.short_flag-5.ensures.local,
              (
                c.short_flag-6.ensures.rule,
                c.short_flag-6.ensures.local,
                (
                  c.flag.ensures.rule,
                  c.flag.ensures.local,
                  (c.flag-2.ensures.rule, c.flag-2.ensures.local, tt),
                ),
              ),
            ),
          ),
        ),
      ),
    )
