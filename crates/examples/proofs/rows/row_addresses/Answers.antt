use Rattle.std.proofs.Common.{◌≡◌, sym, ap, ◌∙◌}
use Rattle.gimli_lines.specs.ProgramRows.{rows_to_come}
use Rattle.gimli_lines.specs.RowSequences.{program_rows}
use Rattle.examples.specs.RowAddresses.{row_addresses}
use Rattle.examples.proofs.AddressesRead.{append_to, addresses_of, append_to_nothing, append_next, refusal_returned}
use Rattle.examples.proofs.rows.row_addresses.Goals as goal

pub returns-in_err-rows : goal.returns-in_err-rows
returns-in_err-rows g c =
    refusal_returned (λ addresses. addresses.items) c.from_residual.result
    (row_addresses g.R.Offset.ReaderOffset.limit c.args.header) _ c.from_residual.ensures.1
    (λ ne. cc (c.in_err-rows.ensures.value ne))

pub loop-rows-init : goal.loop-rows-init
loop-rows-init g c =
    let limit = g.R.Offset.ReaderOffset.limit in
    let first : c.in_ok-rows.rows ≡ program_rows c.args.header = cc c.in_ok-rows.ensures.value in
    ap (λ xs. append_to xs (addresses_of (rows_to_come limit c.in_ok-rows.rows))) c.new-addresses.ensures.items
    ∙ append_to_nothing (addresses_of (rows_to_come limit c.in_ok-rows.rows))
    ∙ ap (λ s. addresses_of (rows_to_come limit s)) first

pub loop-rows-preserved : goal.loop-rows-preserved
loop-rows-preserved g c =
    append_next g.R.Offset.ReaderOffset.limit c.loop-rows.rows c.advance.new.self _ c.loop-rows.addresses.items
    c.push.new.self.items c.if-branch.true c.in_ok-advance.ensures.next
    (cc (c.in_ok-push.ensures.items, c.address.ensures, c.row.ensures))
    ∙ c.loop-rows.invariant

pub returns-in_err-advance : goal.returns-in_err-advance
returns-in_err-advance g c =
    refusal_returned (λ addresses. addresses.items) c.from_residual-in_err-advance.result
    (row_addresses g.R.Offset.ReaderOffset.limit c.args.header) _ c.from_residual-in_err-advance.ensures.1
    (λ ne. sym c.loop-rows.invariant
    ∙ ap (λ rows. append_to c.loop-rows.addresses.items (addresses_of rows)) (c.in_err-advance.ensures.next.0 ne).0)
