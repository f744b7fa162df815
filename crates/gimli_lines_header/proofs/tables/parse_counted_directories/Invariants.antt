use Rattle.std.proofs.Common.{map, ◌≡◌, ◌-◌}
use Rattle.gimli_units_headers.specs.Repetition.{times}
use Rattle.gimli_units_headers.proofs.Times.{prepend}
use Rattle.gimli_units_forms.specs.AttributeValues.{raw_value_of}
use Rattle.gimli_lines_header.specs.TableEntries.{directory_entry}
use Rattle.gimli_lines_header.proofs.tables.parse_counted_directories.Given as goal

-- the directories so far, and then those that are left
abbrev pub invariant-loop-directory : goal.invariant-loop-directory
invariant-loop-directory g l =
    let view = g.R.Reader.view in
    let read = directory_entry g.R.Offset.ReaderOffset.limit l.encoding l.formats in
    prepend (map (raw_value_of view g.R.Offset.ReaderOffset.count) l.found.items)
    (times (l.count - l._directory) read (view l.input)) ≡ times l.count read (view l.fn.input)
