use Rattle.std.proofs.Common.{◌∙◌, ap, sym, nat_lt}
use Rattle.addr2line_spec.specs.Lines.{LineRow}
use Rattle.addr2line_index.proofs.RowIndexLemmas.{last_address-at}
use Rattle.addr2line_index.proofs.row_list.is_below_last.Goals as goal

pub returns-in-Some : goal.returns-in-Some
returns-in-Some c =
    ap (nat_lt c.args.address)
    (ap (λ (r : LineRow). r.address) c.last-in-Some.view_is
    ∙ sym (last_address-at 0 c.args.rows.now c.in-Some.last.now (sym c.in-Some.ensures.value)))
