use Rattle.std.proofs.Common.{◌≡◌, ◌≢◌, inr, Result, Err, refl, sym, ap}
use Rattle.std.specs.Option.{is_some}
use Rattle.addr2line_decompress.specs.declared.error.DecompressError.{DecompressError}
use Rattle.addr2line_decompress.specs.declared.error.DecompressError.TheVariants.{Memory, Image}
use Rattle.addr2line_split.specs.FileReads.{IsRead}
use Rattle.addr2line_split.specs.LoadError.{LoadError}
use Rattle.addr2line_split.specs.LoadError.TheVariants as load
use Rattle.addr2line_loader.specs.DecompressedFiles.{refusal_of}
use Rattle.addr2line_loader.specs.LoadedFiles.{LoadedFile}
use Rattle.addr2line_loader.proofs.FileReadLemmas.{any_read}
use Rattle.addr2line_loader.proofs.loader.Loader.new_decompressed.Goals as goal

abbrev refused : DecompressError → Result LoadedFile DecompressError
refused e = Err e

-- a read that is refused, but for memory, is a refusal of the image
refused_read : (e : LoadError) (r : DecompressError) → r ≡ refusal_of e → r ≢ Memory → refused (Image e) ≡ refused r
refused_read load.Memory r is ne = absurd (ne is)
refused_read e r is ne = ap refused (sym is)

pub returns-in-Err : goal.returns-in-Err
returns-in-Err g c =
    let other = any_read IsRead (inr refl) (is_some c.args.sup_path) in
    record {
      image = Err c.in-Err.error;
      supplement = other.0;
      image_is_read = c.in-Err.ensures;
      supplement_is_read = other.1;
      loads = refused_read c.in-Err.error c.refusal_of.result c.refusal_of.ensures;
      lines = tt;
    }
