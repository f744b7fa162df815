use Rattle.std.proofs.Common.{inr, Err, refl}
use Rattle.std.specs.Option.{is_some}
use Rattle.std.proofs.lemmas.Result.{err_from_is_err_and}
use Rattle.addr2line_split.specs.FileReads.{AreRead}
use Rattle.addr2line_loader.proofs.FileReadLemmas.{any_read}
use Rattle.addr2line_loader.proofs.loader.Loader.new_with_sup.Goals as goal

pub returns-in_err-image : goal.returns-in_err-image
returns-in_err-image g c =
    let p = err_from_is_err_and c.from_residual.result c.from_residual.ensures.1 in
    let other = any_read AreRead (inr refl) (is_some c.args.sup_path) in
    rw (p.1, p.2) (record {
      image = Err c.in_err-image.field-0.0;
      supplement = other.0;
      image_is_read = c.in_err-image.ensures;
      supplement_is_read = other.1;
      loads = λ ne. refl;
      lines = tt;
    })
