use Rattle.std.proofs.Common.{◌∙◌, sym, arith}
use Rattle.addr2line_index.proofs.BoundedRangeLemmas.{first_left}
use Rattle.addr2line_index.proofs.next_range.is_first_left.Goals as goal
use Rattle.addr2line_index.proofs.next_range.is_first_left.Goals.{else-place-entries-2-via-then-place-entries-2+else-is_skipped, else-place-entries-2-via-else-place-entries-2}

pub returns : goal.returns
returns c = λ is.
    first_left c.args.from c.args.address c.args.place c.args.entries.now _ c.requires
    (omega (arith, c.if-place-eq0.false)) c.if-place-entries.false
    (λ below. elim c.else-place-entries-2.branch [
      | else-place-entries-2-via-then-place-entries-2+else-is_skipped w ↦
          sym w.is_skipped.ensures ∙ w.if-is_skipped.false
      | else-place-entries-2-via-else-place-entries-2 w ↦ absurd (omega (arith, w.if-place-entries-2.false))
    ])
    (sym c.is_skipped-2.ensures ∙ is)
