use Rattle.std.proofs.Common.{◌≡◌, drop}
use Rattle.gimli_lines_header.specs.TableEntries.{no_facts}
use Rattle.gimli_lines_header.proofs.TableLoops.{further}
use Rattle.gimli_lines_header.proofs.table_entries.parse_fields.Given as goal

-- what is said so far, and then what the fields that are left add
abbrev pub invariant-loop-format : goal.invariant-loop-format
invariant-loop-format g l =
    let view = g.R.Reader.view in
    let is_big = g.R.Endian.Endianity.is_big l.endian in
    let limit = g.R.Offset.ReaderOffset.limit in
    further limit l.encoding is_big (drop l.format-index l.formats) l.fields (view l.input)
    ≡ further limit l.encoding is_big l.formats no_facts (view l.fn.input)
