use Rattle.std.proofs.Common.{◌≡◌, ◌-◌}
use Rattle.gimli_units_headers.specs.Repetition.{times}
use Rattle.gimli_units_headers.proofs.Times.{prepend}
use Rattle.gimli_lines_header.specs.TableEntries.{file_entry}
use Rattle.gimli_lines_header.proofs.tables.parse_counted_files.Given as goal

-- the files so far, and then those that are left
abbrev pub invariant-loop-file : goal.invariant-loop-file
invariant-loop-file g l =
    let view = g.R.Reader.view in
    let read = file_entry g.R.Offset.ReaderOffset.limit l.encoding l.formats in
    prepend l.found.items (times (l.count - l._file) read (view l.input)) ≡ times l.count read (view l.fn.input)
