-- Files that are read from the file system and loaded. Of what a read gives nothing is known here.
use Rattle.std.specs.Prelude.{◌≡◌, Bool, Option, Some, None, Result, Ok, IfOk, IfSome}
use Rattle.std.specs.Option.{is_some}
use Rattle.addr2line_context.specs.ResolvedUnits.{RunForRangesAlone}
use Rattle.addr2line_context.specs.Results.{◌>>=◌}
use Rattle.addr2line_split.specs.FileParts.{PartialFile, bytes_if_any}
use Rattle.addr2line_split.specs.FileReads.{AreRead}
use Rattle.addr2line_split.specs.ImageLoading.{LoadsAsOrNoMemory}
use Rattle.addr2line_split.specs.LoadError.{LoadError}
use Rattle.addr2line_loader.specs.LoadedFiles.{LoadedFile, loaded_file}
use Rattle.addr2line_loader.specs.ResolvedFiles.{ResolvedFile}

-- what was read of a file, if there is one
abbrev pub read_if_any : {A : Type 0} → Option (Result A LoadError) → Result (Option A) LoadError
read_if_any None = Ok None
read_if_any (Some read) = do
  file ← read
  Ok (Some file)

-- reading a file, or its parts, if there is one, gives this; `reads` is what such a read gives
abbrev pub IsReadIfAny : {A : Type 0} → (Result A LoadError → Type 0) → Bool
    → Result (Option A) LoadError → Type 0
IsReadIfAny {A} reads has_file result =
    (read : Option (Result A LoadError))
    × (is_some read ≡ has_file)
    × IfSome read reads
    × (result ≡ read_if_any read)

-- the file whose parts were read, with its supplement
abbrev pub file_of_reads : Result PartialFile LoadError → Result (Option PartialFile) LoadError
    → Result LoadedFile LoadError
file_of_reads image supplement = do
  file ← image
  more ← supplement
  loaded_file file.bytes (bytes_if_any more)

-- The parts of a file that a loader needs are read, then those of its supplement, if there is one,
-- and both are loaded. Lines are read only where a unit's ranges are those of its lines.
pub record LoadsFiles (has_supplement : Bool) (result : Result ResolvedFile LoadError) : Type 0
  where
    pub image : Result PartialFile LoadError
    pub supplement : Result (Option PartialFile) LoadError
    pub image_is_read : AreRead image
    pub supplement_is_read : IsReadIfAny AreRead has_supplement supplement
    pub loads : LoadsAsOrNoMemory (λ f. f.file) result (file_of_reads image supplement)
    pub lines : IfOk result (λ f. RunForRangesAlone f.units)
