use Rattle.std.proofs.Common.{◌∙◌, ap, codes}
use Rattle.clap.specs.Simple.{app_of_fields}
use Rattle.clap.specs.Words.{new_app}
use Rattle.linemap_words.specs.CommandLine.{IsLocalApp}
use Rattle.linemap_words.proofs.CommandLemmas.{with_arguments, with_last_argument}
use Rattle.linemap_words.proofs.command_line.lookup.lookup_command.Goals as goal

pub returns : goal.returns
returns c =
    let start : IsLocalApp c.after_help.result (new_app (codes "lookup")) = (
      ap app_of_fields c.after_help.ensures ∙ ap app_of_fields c.about.ensures ∙ c.new.ensures.app,
      ap (λ f. f.has_globals) c.after_help.ensures ∙ ap (λ f. f.has_globals) c.about.ensures ∙ c.new.ensures.local,
    ) in
    let sources = with_arguments _ _ _ _ _ c.in_ok-args.ensures c.in_ok-sources.ensures start in
    let debug = with_arguments _ _ _ _ _ c.in_ok-args-2.ensures c.in_ok-debug.ensures sources in
    let details = with_arguments _ _ _ _ _ c.in_ok-args-3.ensures c.in_ok-details.ensures debug in
    with_last_argument _ c.arg.result _ _ _ c.arg.ensures c.addresses_argument.ensures.rule
    c.addresses_argument.ensures.local details
