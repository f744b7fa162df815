-- Reads of files that may not be there.
use Rattle.std.proofs.Common.{Bool, true, false, Option, Some, None, Result, Ok, Err, refl}
use Rattle.addr2line_split.specs.LoadError.{LoadError}
use Rattle.addr2line_split.specs.LoadError.TheVariants.{Io}
use Rattle.addr2line_loader.specs.FileLoads.{IsReadIfAny}

-- some read of a file, if there is one, where a read may be refused
pub any_read : {A : Type 0} (reads : Result A LoadError → Type 0) → reads (Err Io) → (has_file : Bool)
    → (r : Result (Option A) LoadError) × IsReadIfAny reads has_file r
any_read reads refused true = (Err Io, (Some (Err Io), refl, refused, refl))
any_read reads refused false = (Ok None, (None, refl, tt, refl))
