use Rattle.std.proofs.Common.{rules, tests}
use Rattle.std.proofs.lemmas.Iterator.{YieldsList-from_slice}
use Rattle.std.proofs.lemmas.Iterator.Search.{all_from_yields_List}
use Rattle.std.proofs.lemmas.List.Folds.{list_all-map}
use Rattle.gimli_lines_write_laws.specs.FileTables.{Info, info_of}
use Rattle.gimli_lines_write_program.specs.TextTests.{is_source_known}
use Rattle.gimli_lines_write_program.proofs.text_checks.are_sources_known.Goals as goal

pub returns : goal.returns
returns c =
    rw list_all-map
    (all_from_yields_List (λ x. (λ (i : Info). is_source_known c.args.strings.now c.args.line_strings.now i.source)
    (info_of x)) _ _ _ c.all.ensures.ran (YieldsList-from_slice c.args.infos.now cc) (λ x b q k. search (rules, tests)))
