use Rattle.std.proofs.Common.{rules, tests}
use Rattle.std.specs.Prelude.{◌==◌}
use Rattle.std.proofs.lemmas.Iterator.{YieldsList-from_slice}
use Rattle.std.proofs.lemmas.Iterator.Search.{all_from_yields_List}
use Rattle.std.proofs.lemmas.List.Folds.{list_all-map}
use Rattle.gimli_lines_write_laws.specs.FileTables.{text_of}
use Rattle.gimli_lines_write_laws.specs.ExpressiblePrograms.{text_form}
use Rattle.gimli_lines_write_program.proofs.forms.have_form.Goals as goal

pub returns : goal.returns
returns c =
    rw list_all-map
    (all_from_yields_List (λ x. text_form (text_of x) == c.args.form.0) _ _ _
    c.all.ensures.ran (YieldsList-from_slice c.args.texts.now cc) (λ x b q k. search (rules, tests)))
