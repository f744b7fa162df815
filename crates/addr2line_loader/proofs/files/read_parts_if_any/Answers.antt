use Rattle.std.proofs.Common.{Some, Ok, Err, refl, sym, ap}
use Rattle.std.specs.Option.{is_some}
use Rattle.std.proofs.lemmas.Result.{err_from_is_err_and}
use Rattle.addr2line_loader.proofs.files.read_parts_if_any.Goals as goal

pub returns-in_err-read_parts-in-Some : goal.returns-in_err-read_parts-in-Some
returns-in_err-read_parts-in-Some g c =
    let p = err_from_is_err_and c.from_residual.result c.from_residual.ensures.1 in
    rw (p.1, p.2) (
      Some (Err c.in_err-read_parts-in-Some.field-0.0),
      ap is_some (sym c.in-Some.is),
      c.in_err-read_parts-in-Some.ensures,
      refl,
    )

pub returns-in_ok-read_parts-in-Some : goal.returns-in_ok-read_parts-in-Some
returns-in_ok-read_parts-in-Some g c = (
  Some (Ok c.in_ok-read_parts-in-Some.field-0),
  ap is_some (sym c.in-Some.is),
  c.in_ok-read_parts-in-Some.ensures,
  refl,
)
