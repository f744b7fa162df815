-- What was written, and the bytes of the entries that are left, are the whole.
use Rattle.std.proofs.Common.{◌≡◌, ◌++◌, drop}
use Rattle.linemap_emit_parts.specs.EmittedEntryRows.{spelled_entries}
use Rattle.linemap_emit_parts.proofs.units.write_entries.Given as goal

abbrev pub invariant-loop-entry : goal.invariant-loop-entry
invariant-loop-entry l =
    (l.w.is_big ≡ l.fn.w.is_big)
    × (l.w.bytes ++ spelled_entries l.encoding l.fn.w.is_big (drop l.entry-index l.entries)
    ≡ l.fn.w.bytes ++ spelled_entries l.encoding l.fn.w.is_big l.entries)
