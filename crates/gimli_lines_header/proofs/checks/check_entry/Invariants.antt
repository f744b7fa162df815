use Rattle.std.proofs.Common.{◌≡◌, drop}
use Rattle.gimli_lines_header.specs.Checks.{check}
use Rattle.gimli_lines_header.specs.TableEntries.{entry_fields}
use Rattle.gimli_lines_header.proofs.checks.check_entry.Given as goal

-- the fields that are left are refused as all are
abbrev pub invariant-loop-format : goal.invariant-loop-format
invariant-loop-format g l =
    let view = g.I.Reader.view in
    let limit = g.O.ReaderOffset.limit in
    check (entry_fields limit l.encoding (drop l.format-index l.formats)) (view l.input)
    ≡ check (entry_fields limit l.encoding l.formats) (view l.fn.input)
