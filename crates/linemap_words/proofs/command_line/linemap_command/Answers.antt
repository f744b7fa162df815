use Rattle.std.proofs.Common.{◌≡◌, ◌∙◌, ap, true, codes}
use Rattle.clap.specs.Simple.{app_of_fields, on_top}
use Rattle.clap.specs.Words.{app_of, new_app}
use Rattle.linemap_words.specs.CommandLine.{linemap_app}
use Rattle.linemap_words.proofs.CommandLemmas.{with_command, with_last_command}
use Rattle.linemap_words.proofs.command_line.linemap_command.Goals as goal

pub returns : goal.returns
unfolding linemap_app
returns c =
    let start : app_of c.subcommand_required-command.result
    ≡ on_top (λ s. record s { subcommand_required = true }) (new_app (codes "linemap")) =
    ap app_of_fields c.subcommand_required-command.ensures
    ∙ ap (on_top (λ s. record s { subcommand_required = true }))
    (ap app_of_fields c.after_help.ensures ∙ ap app_of_fields c.about.ensures
    ∙ ap app_of_fields c.in_ok-command.ensures.0 ∙ c.new.ensures.app) in
    let lookup = with_command _ c.lookup_command.result _ _ _ c.in_ok-command-2.ensures c.lookup_command.ensures
    start in
    let ask = with_command _ c.ask_command.result _ _ _ c.in_ok-command-3.ensures c.ask_command.ensures lookup in
    let emit = with_command _ c.emit_command.result _ _ _ c.in_ok-command-4.ensures c.emit_command.ensures ask in
    with_last_command _ c.explain_command.result c.with_subcommand-4.result _ _ c.with_subcommand-4.ensures
    c.explain_command.ensures emit
