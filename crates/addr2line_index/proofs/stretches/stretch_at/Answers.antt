use Rattle.std.proofs.Common.{◌<◌, ◌≤◌, ◌-◌, ◌∙◌, ℕ, ap, subst}
use Rattle.addr2line_spec.specs.Lines.{LineRow}
use Rattle.addr2line_index.specs.declared.stretches.RowStretch.{RowStretch}
use Rattle.addr2line_index.proofs.StretchLemmas.{none_below, first_below}
use Rattle.addr2line_index.proofs.stretches.stretch_at.Goals as goal

pub returns-then-address-high-clause-stretch : goal.returns-then-address-high-clause-stretch
returns-then-address-high-clause-stretch c = λ files.
    let s = c.args.sequence.now.sequence in
    none_below files s.end c.args.high c.args.index s.rows c.at-row.result c.at-row.ensures.row
    (subst (λ (r : LineRow). c.args.high ≤ r.address) c.row.view_is c.if-address-high.true)

pub returns-clause-stretch : goal.returns-clause-stretch
returns-clause-stretch c = λ files.
    let s = c.args.sequence.now.sequence in
    let r = c.at-row.result in
    let next = c.next_address-next.result in
    let made : ℕ → ℕ → RowStretch = λ a n. record { address = a; length = n; row = r } in
    first_below files s.end c.args.high c.args.index next s.rows r _ c.at-row.ensures.row
    (subst (λ (x : LineRow). x.address < c.args.high) c.row.view_is c.if-address-high.false)
    c.next_address-next.ensures.address
    (ap (made c.row.inside.address) c.saturating_sub.ensures
    ∙ ap (λ (x : LineRow). made x.address (next - x.address)) c.row.view_is)
