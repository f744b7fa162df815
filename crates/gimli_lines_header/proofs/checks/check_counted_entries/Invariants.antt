use Rattle.std.proofs.Common.{◌≡◌, ◌-◌}
use Rattle.gimli_units_headers.specs.Repetition.{times}
use Rattle.gimli_lines_header.specs.Checks.{check}
use Rattle.gimli_lines_header.specs.TableEntries.{entry_fields}
use Rattle.gimli_lines_header.proofs.checks.check_counted_entries.Given as goal

-- the entries that are left are refused as all are
abbrev pub invariant-loop-entry : goal.invariant-loop-entry
invariant-loop-entry g l =
    let view = g.I.Reader.view in
    let read = entry_fields g.O.ReaderOffset.limit l.encoding l.formats in
    check (times (l.count - l._entry) read) (view l.input) ≡ check (times l.count read) (view l.fn.input)
