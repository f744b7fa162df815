-- A sequence that was added, from its first row on.
use Rattle.std.proofs.Common.{◌≡◌, ℕ, List, [], ◌∷◌, map, Some, slice_get, ap, ◌∙◌}
use Rattle.linemap_emit_rows.specs.Address.TheVariants.{Constant}
use Rattle.linemap_emit_rows.specs.RowsBuilding.{BuilderState, with_sequence}
use Rattle.gimli_lines_write_program.specs.BuiltPrograms.{Program}
use Rattle.linemap_emit_rows.specs.TableParts.{RowPart}
use Rattle.linemap_emit_rows.specs.EmittedRows.{emitted_sequence}
use Rattle.linemap_emit_rows.specs.SequenceBuilding.{with_entries, with_rows, IsIdle}
use Rattle.linemap_emit_rows.proofs.BuiltSequences.{sequence_built}

pub sequence_whole : {R : Type 0} (see : R → RowPart) (place : ℕ → ℕ) (rows rows1 rows2 : List R) (first : R) (end : ℕ)
    (p p1 p2 : Program) → IsIdle p.rows → rows1 ≡ rows → Some first ≡ slice_get rows1 0 → rows2 ≡ rows
    → p1 ≡ record p { rows = with_sequence (Some (Constant (see first).address)) p.rows }
    → p2 ≡ record p1 { rows = with_rows place (see first).address (map see rows2) end p1.rows }
    → p2
    ≡ record p {
      rows = with_entries (emitted_sequence place (record { rows = map see rows; end = end })) p.rows;
    }
sequence_whole {R} see place [] rows1 rows2 first end p p1 p2 idle one is two begun ended =
    absurd (let clash = is ∙ ap (λ (l : List R). slice_get l 0) one in cc)
sequence_whole {R} see place (r ∷ rows) rows1 rows2 first end p p1 p2 idle one is two begun ended =
    let same : first ≡ r =
    let both : Some first ≡ Some r = is ∙ ap (λ (l : List R). slice_get l 0) one in cc in
    let begin = (see first).address in
    let with_built : BuilderState → Program = λ b. record p { rows = b } in
    ended
    ∙ ap (λ (q : Program). record q { rows = with_rows place begin (map see rows2) end q.rows }) begun
    ∙ ap (λ (l : List R). with_built (with_rows place begin (map see l) end
    (with_sequence (Some (Constant begin)) p.rows))) two
    ∙ ap with_built (ap (λ (x : R). with_rows place (see x).address (map see (r ∷ rows)) end
    (with_sequence (Some (Constant (see x).address)) p.rows)) same)
    ∙ ap with_built (sequence_built place (see r).address (map see (r ∷ rows)) end p.rows idle)
