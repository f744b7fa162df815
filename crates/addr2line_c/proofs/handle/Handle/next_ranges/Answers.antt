use Rattle.std.proofs.Common.{Err, refl, subst, sym}
use Rattle.std.proofs.lemmas.Result.{err_from_is_err_and}
use Rattle.addr2line_c.specs.Answers.{KeepsStretches}
use Rattle.addr2line_c.specs.declared.open_file.OpenFile.{OpenFile}
use Rattle.addr2line_c.proofs.KeptStretches.{are_next, leaves_next}
use Rattle.addr2line_c.proofs.handle.Handle.next_ranges.Goals as goal

pub returns : goal.returns
returns c =
    let new = c.next_stretches.new.self in
    let is = c.as_slice.ensures.value in
    let keeps = subst (λ (f : OpenFile). KeepsStretches c.args.count f new _) c.file_mut-file.ensures.file
    c.in_ok-next_stretches.ensures in (
      (refl, λ _. tt, (refl, leaves_next _ _ _ _ _ keeps (sym is))),
      record { stretches = are_next _ _ _ _ _ keeps is; after = tt },
    )

pub returns-in_err-next_stretches : goal.returns-in_err-next_stretches
returns-in_err-next_stretches c =
    let p = err_from_is_err_and c.from_residual.result c.from_residual.ensures.1 in
    let new = c.next_stretches.new.self in
    let keeps : KeepsStretches c.args.count c.args.self.now.file new (Err c.in_err-next_stretches.field-0.0) =
    subst (λ (f : OpenFile). KeepsStretches c.args.count f new (Err c.in_err-next_stretches.field-0.0))
    c.file_mut-file.ensures.file c.in_err-next_stretches.ensures in (
      (refl, λ _. tt, (refl, rw (p.1, p.2) (leaves_next _ _ _ _ _ keeps keeps.end.0))),
      record { stretches = rw (p.1, p.2) keeps.end.1; after = tt },
    )
