use Rattle.std.proofs.Common.{arith, subst, sym, length, take, ℕ, ◌≡◌, ◌≤◌, ◌∙◌, Ok}
use Rattle.std.proofs.lemmas.List.{length-set}
use Rattle.gimli_units_headers.specs.Repetition.{times}
use Rattle.gimli_units_headers.proofs.Times.{count_fault, count_end}
use Rattle.gimli_lines_header.specs.TableEntries.{entry_format}
use Rattle.gimli_lines_header.proofs.CheckSteps.{returns_fault}
use Rattle.gimli_lines_header.proofs.TableLoops.{count_stored}
use Rattle.gimli_lines_header.proofs.checks.read_counted_formats.Goals as goal

pub loop-place-preserved : goal.loop-place-preserved
loop-place-preserved g c =
    let large : 255 ≤ length c.loop-place.room =
    subst (λ (n : ℕ). 255 ≤ n) (sym c.loop-place.invariant.0) c.requires in (
      length-set c.loop-place.room c.from.result _ ∙ c.loop-place.invariant.0,
      count_stored c.args.count c.loop-place.place c.from.result c.loop-place.room _ _ _ _ (omega arith) (omega arith)
          (omega arith) c.in_ok-room.ensures c.loop-place.invariant.1,
    )

pub returns-in_err-room-clause-value : goal.returns-in_err-room-clause-value
returns-in_err-room-clause-value g c =
    returns_fault _ c.from_residual.result _ _ c.from_residual.ensures.1
    (count_fault entry_format c.args.count c.loop-place.place (take c.loop-place.place c.loop-place.room) _ _ _
    (omega arith) c.in_err-room.ensures c.loop-place.invariant.1)

pub returns-clause-value : goal.returns-clause-value
returns-clause-value g c =
    let over : c.loop-place.place ≡ c.args.count = omega arith in
    subst (λ (n : ℕ). times c.args.count entry_format (g.I.Reader.view c.args.input.now)
    ≡ Ok (take n c.loop-place.room, g.I.Reader.view c.loop-place.input)) over
    (count_end entry_format c.args.count c.loop-place.place (take c.loop-place.place c.loop-place.room) _ _
    (omega arith) c.loop-place.invariant.1)
