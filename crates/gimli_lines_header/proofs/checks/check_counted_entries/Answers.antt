use Rattle.std.proofs.Common.{arith}
use Rattle.gimli_lines_header.specs.TableEntries.{entry_fields}
use Rattle.gimli_lines_header.proofs.CheckSteps.{returns_fault, count_begins, count_checked, count_refused, count_over}
use Rattle.gimli_lines_header.proofs.checks.check_counted_entries.Goals as goal

pub loop-entry-init : goal.loop-entry-init
loop-entry-init g c = count_begins (entry_fields g.O.ReaderOffset.limit c.args.encoding c.args.formats.now)
    c.args.count (g.I.Reader.view c.args.input.now)

pub loop-entry-preserved : goal.loop-entry-preserved
loop-entry-preserved g c =
    count_checked (entry_fields g.O.ReaderOffset.limit c.args.encoding c.args.formats.now) c.args.count
    c.loop-entry._entry _ _ _ (omega arith) c.in_ok-check_entry.ensures c.loop-entry.invariant

pub returns-in_err-check_entry : goal.returns-in_err-check_entry
returns-in_err-check_entry g c =
    returns_fault _ c.from_residual.result _ _ c.from_residual.ensures.1
    (count_refused (entry_fields g.O.ReaderOffset.limit c.args.encoding c.args.formats.now) c.args.count
    c.loop-entry._entry _ _ _ (omega arith) c.in_err-check_entry.ensures c.loop-entry.invariant)

pub returns : goal.returns
returns g c = count_over (entry_fields g.O.ReaderOffset.limit c.args.encoding c.args.formats.now) c.args.count
    c.loop-entry._entry _ _ (omega arith) c.loop-entry.invariant
