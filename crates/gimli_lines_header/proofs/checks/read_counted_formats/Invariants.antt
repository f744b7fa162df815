use Rattle.std.proofs.Common.{◌≡◌, ◌-◌, length, take}
use Rattle.gimli_units_headers.specs.Repetition.{times}
use Rattle.gimli_units_headers.proofs.Times.{prepend}
use Rattle.gimli_lines_header.specs.TableEntries.{entry_format}
use Rattle.gimli_lines_header.proofs.checks.read_counted_formats.Given as goal

-- the room stays as large; the formats so far, and then those that are left
abbrev pub invariant-loop-place : goal.invariant-loop-place
invariant-loop-place g l =
    let view = g.I.Reader.view in
    (length l.room ≡ length l.fn.room) × (prepend (take l.place l.room) (times (l.count - l.place) entry_format
    (view l.input)) ≡ times l.count entry_format (view l.fn.input))
