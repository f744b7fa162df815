use Rattle.std.proofs.Common.{◌≡◌, ◌-◌, ◌∙◌, ap, sym, length, slice_get, slice_set, true, false}
use Rattle.addr2line_index.specs.PartialLines.{is_at}
use Rattle.addr2line_index.proofs.PartialLineRows.{put_row_same, put_row_other}
use Rattle.addr2line_index.proofs.row_list.put_row.Goals as goal

pub returns-then-is_last_at-clause-ok : goal.returns-then-is_last_at-clause-ok
returns-then-is_last_at-clause-ok c =
    let items = c.args.rows.now.items in
    let count : c.len-last.result ≡ length items =
    c.len-last.ensures ∙ sym c.as_slice.ensures.len ∙ ap length c.as_slice.ensures.value in
    let same : is_at c.args.row.address (slice_get items (length items - 1)) ≡ true =
    ap (λ r. is_at r.address (slice_get items (length items - 1))) (sym c.row.view_is)
    ∙ ap (λ l. is_at c.row.inside.address (slice_get l (length l - 1))) (sym c.as_slice.ensures.value)
    ∙ sym c.is_last_at.ensures
    ∙ c.if-is_last_at.true in
    ap (λ n. slice_set items (n - 1) c.args.row) count ∙ put_row_same items c.args.row same

pub returns-in_ok-push-clause-ok : goal.returns-in_ok-push-clause-ok
returns-in_ok-push-clause-ok c =
    let items = c.args.rows.now.items in
    let other : is_at c.args.row.address (slice_get items (length items - 1)) ≡ false =
    ap (λ r. is_at r.address (slice_get items (length items - 1))) (sym c.row.view_is)
    ∙ ap (λ l. is_at c.row.inside.address (slice_get l (length l - 1))) (sym c.as_slice.ensures.value)
    ∙ sym c.is_last_at.ensures
    ∙ c.if-is_last_at.false in
    c.in_ok-push.ensures.items ∙ put_row_other items c.args.row other
