use Rattle.std.proofs.Common.{◌∙◌, ap, sym, subst, codes}
use Rattle.clap.specs.Simple.{app_of_fields}
use Rattle.clap.specs.Words.{new_app}
use Rattle.linemap_words.specs.CommandLine.{HaveRules, IsLocalApp, emit_rules}
use Rattle.linemap_words.proofs.CommandLemmas.{with_last_arguments}
use Rattle.linemap_words.proofs.command_line.emit.emit_command.Goals as goal

pub returns : goal.returns
returns c =
    let start : IsLocalApp c.after_help.result (new_app (codes "emit")) = (
      ap app_of_fields c.after_help.ensures ∙ ap app_of_fields c.about.ensures ∙ c.new.ensures.app,
      ap (λ f. f.has_globals) c.after_help.ensures ∙ ap (λ f. f.has_globals) c.about.ensures ∙ c.new.ensures.local,
    ) in
    with_last_arguments _ c.args-2.result _ _ _ c.args-2.ensures
    (subst (λ items. HaveRules items emit_rules) (sym c.in_ok-arguments.ensures.items) (
      c.table_argument.ensures.rule,
      c.table_argument.ensures.local,
      (
        c.out_argument.ensures.rule,
        c.out_argument.ensures.local,
        (
          c.number_option.ensures.rule,
          c.number_option.ensures.local,
          (
            c.number_option-2.ensures.rule,
            c.number_option-2.ensures.local,
            (
              c.number_option-3.ensures.rule,
              c.number_option-3.ensures.local,
              (c.flag.ensures.rule, c.flag.ensures.local, tt),
            ),
          ),
        ),
      ),
    ))
    start
