use Rattle.std.proofs.Common.{◌≡◌, ◌∙◌, List, Result, Ok, Err, ap, sym}
use Rattle.gimli_core_readers.specs.Error.{Error}
use Rattle.gimli_core_abbrev.specs.Declarations.{Declaration}
use Rattle.gimli_core_abbrev.specs.TableParsing.{table_at}
use Rattle.gimli_core_abbrev.specs.TableLayout.{IsListAt}
use Rattle.gimli_core_abbrev.proofs.TableTails.{match_ok, list_table}
use Rattle.gimli_core_abbrev.proofs.tails.next_table.Goals as goal

abbrev ok_table : List Declaration → Result (List Declaration) Error
ok_table ds = Ok ds

pub returns-in_ok-table-in-Ok-clause-ok : goal.returns-in_ok-table-in-Ok-clause-ok
returns-in_ok-table-in-Ok-clause-ok g c =
    let view = g.R.Reader.view in
    let place = g.R.Offset.ReaderOffset.count c.args.offset.0 in
    let list = c.in-Ok.list in
    let at = match_ok c.in_ok-list.field-0 list
    (λ l. IsListAt c.args.section.now place l.list.value l.before (view l.input))
    (λ e. table_at place c.args.section.now ≡ Err e) c.in-Ok.is c.in_ok-list.ensures.ok in
    ap ok_table (c.in_ok-table-in-Ok.ensures.ok ∙ c.in_ok-from_list-in-Ok.ensures.ok)
    ∙ sym (list_table c.args.section.now (view list.input) list.list.value list.before place at)
