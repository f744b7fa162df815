-- The sequences that are left can be added, and what was added with them is the whole.
use Rattle.std.proofs.Common.{◌≡◌, drop, length, map}
use Rattle.linemap_emit_rows.specs.TableViews.{sequence_part}
use Rattle.linemap_emit_rows.specs.EmittedRows.{AllOrdered, emitted_sequences}
use Rattle.linemap_emit_rows.specs.SequenceBuilding.{IsIdle, with_entries}
use Rattle.linemap_emit_programs.specs.EmittedFiles.{place_in}
use Rattle.linemap_emit_programs.proofs.sequences.push_sequences.Given as goal

abbrev pub invariant-loop-sequence : goal.invariant-loop-sequence
invariant-loop-sequence l =
    AllOrdered l.program.rows.rules (place_in l.files) (length l.files)
    (map sequence_part (drop l.sequence-index l.sequences))
    × IsIdle l.program.rows
    × (record l.program {
      rows = with_entries
          (emitted_sequences (place_in l.files) (map sequence_part (drop l.sequence-index l.sequences)))
          l.program.rows;
    }
    ≡ record l.fn.program {
      rows = with_entries (emitted_sequences (place_in l.files) (map sequence_part l.sequences)) l.fn.program.rows;
    })
