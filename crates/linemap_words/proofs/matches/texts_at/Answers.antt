use Rattle.std.proofs.Common.{◌∙◌, ap, sym, Some}
use Rattle.clap.specs.Words.{found_of}
use Rattle.clap.proofs.WalkLemmas.{raw_values-rows}
use Rattle.linemap_words.proofs.matches.texts_at.Goals as goal

pub returns-in_ok-copies_of-in-Some : goal.returns-in_ok-copies_of-in-Some
returns-in_ok-copies_of-in-Some c =
    sym (raw_values-rows (found_of c.args.matches.now) c.args.id.now) ∙ sym c.in-Some.ensures
    ∙ ap Some (sym c.in_ok-copies_of-in-Some.ensures)

pub returns-in-None : goal.returns-in-None
returns-in-None c = sym (raw_values-rows (found_of c.args.matches.now) c.args.id.now) ∙ sym c.in-None.ensures
