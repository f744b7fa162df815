use Rattle.std.proofs.Common.{rules, tests}
use Rattle.std.proofs.lemmas.Iterator.{YieldsList-from_slice}
use Rattle.std.proofs.lemmas.Iterator.Search.{all_from_yields_List}
use Rattle.std.proofs.lemmas.List.Folds.{list_all-map}
use Rattle.gimli_lines_write_laws.specs.FileTables.{text_of}
use Rattle.gimli_lines_write_program.specs.TextTests.{is_known}
use Rattle.gimli_lines_write_program.proofs.text_checks.are_known.Goals as goal

pub returns : goal.returns
returns c =
    rw list_all-map
    (all_from_yields_List (λ x. (is_known c.args.strings.now c.args.line_strings.now) (text_of x)) _ _ _
    c.all.ensures.ran (YieldsList-from_slice c.args.texts.now cc) (λ x b q k. search (rules, tests)))
