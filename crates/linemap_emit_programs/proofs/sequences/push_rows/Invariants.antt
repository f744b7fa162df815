-- The rows that are left can follow, and what was added with them is the whole.
use Rattle.std.proofs.Common.{◌≡◌, drop, length, map}
use Rattle.linemap_emit_rows.specs.TableViews.{row_part}
use Rattle.linemap_emit_rows.specs.EmittedRows.{AllFrom}
use Rattle.linemap_emit_rows.specs.SequenceBuilding.{IsOpen, with_rows}
use Rattle.linemap_emit_programs.specs.EmittedFiles.{place_in}
use Rattle.linemap_emit_programs.proofs.sequences.push_rows.Given as goal

abbrev pub invariant-loop-row : goal.invariant-loop-row
invariant-loop-row l =
    AllFrom (length l.files) l.begin (map row_part (drop l.row-index l.rows))
    × IsOpen (place_in l.files) l.begin (map row_part (drop l.row-index l.rows)) l.end l.program.rows
    × (record l.program {
      rows = with_rows (place_in l.files) l.begin (map row_part (drop l.row-index l.rows)) l.end l.program.rows;
    }
    ≡ record l.fn.program {
      rows = with_rows (place_in l.files) l.begin (map row_part l.rows) l.end l.fn.program.rows;
    })
