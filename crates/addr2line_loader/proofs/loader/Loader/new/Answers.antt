use Rattle.std.proofs.Common.{Ok, Err, None, refl}
use Rattle.std.proofs.lemmas.Result.{err_from_is_err_and}
use Rattle.addr2line_loader.proofs.loader.Loader.new.Goals as goal

pub returns-in_err-image : goal.returns-in_err-image
returns-in_err-image g c =
    let p = err_from_is_err_and c.from_residual.result c.from_residual.ensures.1 in
    rw (p.1, p.2) (record {
      image = Err c.in_err-image.field-0.0;
      supplement = Ok None;
      image_is_read = c.in_err-image.ensures;
      supplement_is_read = (None, refl, tt, refl);
      loads = λ ne. refl;
      lines = tt;
    })

pub returns : goal.returns
returns g c = record {
  image = Ok c.in_ok-image.image;
  supplement = Ok None;
  image_is_read = c.in_ok-image.ensures;
  supplement_is_read = (None, refl, tt, refl);
  loads = c.from_parts.ensures.file;
  lines = c.from_parts.ensures.lines;
}
