use Rattle.std.proofs.Common.{◌∙◌, ap, Option, false, codes}
use Rattle.std.specs.Option.{option_map_or}
use Rattle.std.specs.Str.{bytes_eq}
use Rattle.clap.specs.Words.{Text, found_of}
use Rattle.clap.proofs.WalkLemmas.{first_value-rows}
use Rattle.linemap_words.proofs.matches.is_set.Goals as goal

pub returns-in-Some : goal.returns-in-Some
returns-in-Some c =
    c.eq.ensures
    ∙ ap (λ (text : Option Text). option_map_or (λ t. bytes_eq t (codes "true")) text false)
    (c.in-Some.ensures ∙ first_value-rows (found_of c.args.matches.now) c.args.id.now)

pub returns-in-None : goal.returns-in-None
returns-in-None c =
    ap (λ (text : Option Text). option_map_or (λ t. bytes_eq t (codes "true")) text false)
    (c.in-None.ensures ∙ first_value-rows (found_of c.args.matches.now) c.args.id.now)
