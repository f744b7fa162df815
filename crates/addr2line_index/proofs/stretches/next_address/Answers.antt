use Rattle.std.proofs.Common.{◌∙◌, List, ap, sym}
use Rattle.addr2line_spec.specs.Lines.{LineRow, next_address}
use Rattle.addr2line_index.proofs.StretchLemmas.{drop_at}
use Rattle.addr2line_index.proofs.stretches.next_address.Goals as goal

pub returns-then-index-len-clause-address : goal.returns-then-index-len-clause-address
returns-then-index-len-clause-address c =
    let s = c.args.sequence.now.sequence in
    ap (λ (r : LineRow). r.address) c.result.view_is
    ∙ sym (ap (λ (rows : List LineRow). next_address rows s.end)
    (drop_at c.args.index s.rows c.at.result c.at.ensures.row))
