use Rattle.std.proofs.Common.{Err, drop, ◌+◌, sym, ap, subst, ◌∙◌}
use Rattle.std.proofs.lemmas.Result.{err_from_is_err_and}
use Rattle.gimli_lines_write_rows.specs.BuiltRows.{first_row}
use Rattle.gimli_lines_write_rows.specs.EntryBytes.{entries_bytes, Continues}
use Rattle.gimli_lines_write_rows.proofs.JoinedWrites.{none_done, entry_done, entry_refused, next_drop}
use Rattle.gimli_lines_write_rows.proofs.program_bytes.write_entries.Goals as goal

pub loop-entry-init : goal.loop-entry-init
loop-entry-init g c = none_done g.W.Writer.address_of c.args.rules (g.W.Writer.contents c.args.w.now)
    c.first-previous.result c.args.entries.now c.first-previous.ensures c.requires.follows

pub loop-entry-preserved : goal.loop-entry-preserved
loop-entry-preserved g c =
    entry_done g.W.Writer.address_of c.args.rules (g.W.Writer.contents c.args.w.now)
    (g.W.Writer.contents c.loop-entry.w) _ c.loop-entry.previous _
    (drop (c.loop-entry.entry-index + 1) c.args.entries.now) (drop c.loop-entry.entry-index c.args.entries.now)
    c.loop-entry.invariant (next_drop c.args.entries.now c.loop-entry.entry-index _ c.loop-entry-test.true)
    (g.W.Writer.contents c.write_entry.new.w) c.after_entry-previous.result c.in_ok-write_entry.ensures
    c.after_entry-previous.ensures

pub returns-in_err-write_entry : goal.returns-in_err-write_entry
returns-in_err-write_entry g c =
    let p = err_from_is_err_and c.from_residual.result c.from_residual.ensures.1 in
    subst (λ r. Continues r (g.W.Writer.contents c.args.w.now) (g.W.Writer.contents c.write_entry.new.w)
    (entries_bytes g.W.Writer.address_of (g.W.Writer.contents c.args.w.now).is_big c.args.rules
    (first_row c.args.rules) c.args.entries.now))
    (sym (p.1 ∙ ap Err p.2))
    (entry_refused g.W.Writer.address_of c.args.rules (g.W.Writer.contents c.args.w.now)
    (g.W.Writer.contents c.loop-entry.w) _ c.loop-entry.previous _
    (drop (c.loop-entry.entry-index + 1) c.args.entries.now) (drop c.loop-entry.entry-index c.args.entries.now)
    c.loop-entry.invariant (next_drop c.args.entries.now c.loop-entry.entry-index _ c.loop-entry-test.true)
    (Unit {0}) c.in_err-write_entry.field-0.0 (g.W.Writer.contents c.write_entry.new.w) c.in_err-write_entry.ensures)
