use Rattle.std.proofs.Common.{◌≤◌, List, subst}
use Rattle.addr2line_spec.specs.Lines.{LineRow}
use Rattle.addr2line_index.specs.NarrowRows.{last_address}
use Rattle.addr2line_index.specs.RowForms.{IsForm}
use Rattle.addr2line_index.proofs.RowIndexLemmas.{ascend_after}
use Rattle.addr2line_index.proofs.row_list.RowForm.put.Goals as goal

pub returns-in-Some-clause-form : goal.returns-in-Some-clause-form
returns-in-Some-clause-form c =
    let narrow = c.in-Some.narrow in
    ascend_after c.put_narrow.result c.in-Narrow.rows.items c.put_narrow.new.rows.items narrow
    (subst IsForm c.in-Narrow.is c.requires)
    (subst (λ (rows : List LineRow). last_address 0 rows ≤ narrow.address) c.as_slice.ensures.value
    c.in-Some.ensures.later)
    c.put_narrow.ensures.ok c.put_narrow.ensures.err
