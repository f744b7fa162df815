use Rattle.std.proofs.Common.{List, Result, Ok, ap, sym, ◌∙◌}
use Rattle.gimli_core_readers.specs.Error.{Error}
use Rattle.gimli_core_readers.specs.View.{View}
use Rattle.gimli_core_readers.proofs.RefusedCalls.{returns_refused}
use Rattle.gimli_core_abbrev.specs.Declarations.{Declaration, by_code}
use Rattle.gimli_core_abbrev.proofs.TableCollection.{table_refused, table_is}
use Rattle.gimli_core_abbrev.proofs.table.parse.Goals as goal

abbrev ok_table : List Declaration → View → Result (List Declaration × View) Error
ok_table ds v = Ok (by_code ds, v)

pub returns-in_err-list : goal.returns-in_err-list
returns-in_err-list g c =
    returns_refused _ c.from_residual.result _ _ c.from_residual.ensures.1
    (λ ne. table_refused c.args.input.now _ (c.in_err-list.ensures ne))

pub returns : goal.returns
returns g c =
    table_is c.args.input.now c.parse_list.new.input c.in_ok-list.list c.in_ok-list.ensures
    ∙ ap (λ (ds : List Declaration). ok_table ds c.parse_list.new.input) (sym c.in_ok-new.ensures.ok)
