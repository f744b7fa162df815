use Rattle.std.proofs.Common.{◌≡◌, ◌-◌}
use Rattle.gimli_units_headers.specs.Repetition.{times}
use Rattle.gimli_units_headers.proofs.Times.{prepend}
use Rattle.gimli_lines_header.specs.TableEntries.{entry_format}
use Rattle.gimli_lines_header.proofs.formats.parse_counted.Given as goal

-- the formats so far, and then those that are left
abbrev pub invariant-loop-field : goal.invariant-loop-field
invariant-loop-field g l =
    let view = g.R.Reader.view in
    prepend l.formats.items (times (l.count - l._field) entry_format (view l.input))
    ≡ times l.count entry_format (view l.fn.input)
