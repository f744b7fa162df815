use Rattle.std.proofs.Common.{drop}
use Rattle.gimli_lines_write_rows.specs.BuiltRows.{first_row}
use Rattle.gimli_lines_write_rows.specs.EntryBytes.{entries_bytes}
use Rattle.gimli_lines_write_rows.proofs.JoinedWrites.{EntriesLeft}
use Rattle.gimli_lines_write_rows.proofs.program_bytes.write_entries.Given as goal

abbrev pub invariant-loop-entry : goal.invariant-loop-entry
invariant-loop-entry g l =
    EntriesLeft g.W.Writer.address_of l.rules (g.W.Writer.contents l.initial.w) (g.W.Writer.contents l.w)
    (entries_bytes g.W.Writer.address_of (g.W.Writer.contents l.initial.w).is_big l.rules (first_row l.rules) l.entries)
    l.previous (drop l.entry-index l.entries)
