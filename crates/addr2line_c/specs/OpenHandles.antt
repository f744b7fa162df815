-- Handles that are open over the bytes of a file.
use Rattle.std.specs.Prelude.{◌≡◌, ℕ, Bool, true, false, List, [], Option, Result, Ok}
use Rattle.addr2line_context.specs.Contexts.{stretches}
use Rattle.addr2line_context.specs.RangeWalks.{stretches_left}
use Rattle.addr2line_loader.specs.DecompressedFiles.{decompressed_file}
use Rattle.addr2line_loader.specs.DecompressError.{DecompressError}
use Rattle.addr2line_loader.specs.DecompressResults.{or_image}
use Rattle.addr2line_loader.specs.LoadedFiles.{LoadedFile, loaded_file}
use Rattle.addr2line_c.specs.declared.handle.Handle.{Handle}
use Rattle.addr2line_c.specs.declared.open_file.OpenFile.{OpenFile}

-- the file of some bytes, with a supplement if there is one: decompressed, or as they are
abbrev pub file_over : Bool → List ℕ → Option (List ℕ) → Result LoadedFile DecompressError
file_over true image supplement = decompressed_file image supplement
file_over false image supplement = or_image (loaded_file image supplement)

-- A file of which nothing was asked: it keeps no frames and no loads, and its walk is over no
-- addresses. Its split files are decompressed or not, as it was.
pub record IsNew (decompresses : Bool) (f : OpenFile) : Type 0 where
  pub decompresses_is : f.decompresses ≡ decompresses
  pub frames : f.frames.items ≡ []
  pub loads : f.loads.items ≡ []
  pub walk : stretches_left f.loader.file.context.context.units f.walk
      ≡ stretches f.loader.file.context.context 0 0

-- a handle is open over a new file of these bytes
pub record IsOpenOver (decompresses : Bool) (image : List ℕ) (supplement : Option (List ℕ))
    (h : Handle) : Type 0 where
  pub opened : h.opened ≡ 1
  pub file : file_over decompresses image supplement ≡ Ok h.file.loader.file
  pub is_new : IsNew decompresses h.file
