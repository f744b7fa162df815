use Rattle.std.proofs.Common.{◌≡◌, IfOk, Option, Some, map, option_and_then, sym, ap, ◌∙◌, subst}
use Rattle.serde_json.specs.Data.{Data}
use Rattle.serde_json.specs.Read.{read}
use Rattle.linemap_check.specs.TableViews.{unit_part}
use Rattle.linemap_table.specs.JsonShapes.{units_in}
use Rattle.linemap_table.specs.TableInText.{json_in}
use Rattle.linemap_table.proofs.JsonLemmas.{json_in-utf8}
use Rattle.linemap_table.proofs.units_one_by_one.Goals as goal

pub returns-in-Ok : goal.returns-in-Ok
returns-in-Ok c =
    let same : json_in c.args.text.now ≡ read c.in-Ok.text.now =
    json_in-utf8 c.args.text.now c.in-Ok.ensures.cases.1 ∙ ap read (sym c.in-Ok.ensures.cases.0) in
    subst
    (λ (o : Option Data). IfOk c.read_units.result (λ v. option_and_then units_in o ≡ Some (map unit_part v.items)))
    (sym same) c.read_units.ensures
