-- Files whose compressed sections of debugging information are decompressed before they are loaded.
use Rattle.std.specs.Prelude.{ℕ, Bool, List, Option, Some, None, option_map, Result, Ok, Err, IfOk}
use Rattle.addr2line_context.specs.Error.{Error}
use Rattle.addr2line_context.specs.ResolvedUnits.{RunForRangesAlone}
use Rattle.addr2line_context.specs.Results.{◌>>=◌}
use Rattle.addr2line_decompress.specs.DecompressedBytes.{decompressed}
use Rattle.addr2line_decompress.specs.DecompressResults.{DecompressesAsOrNoMemory, or_image}
use Rattle.addr2line_decompress.specs.declared.error.DecompressError.{DecompressError}
use Rattle.addr2line_decompress.specs.declared.error.DecompressError.TheVariants.{Memory, Image}
use Rattle.addr2line_decompress.specs.declared.sections.DebugSections.TheVariants.{Lookups}
use Rattle.addr2line_split.specs.FileReads.{IsRead}
use Rattle.addr2line_split.specs.LoadError.{LoadError}
use Rattle.addr2line_split.specs.LoadError.TheVariants as load
use Rattle.addr2line_loader.specs.FileLoads.{IsReadIfAny}
use Rattle.addr2line_loader.specs.LoadedFiles.{LoadedFile, loaded_file}
use Rattle.addr2line_loader.specs.ResolvedFiles.{ResolvedFile}

-- ---- files and supplements

-- a refusal of loading as one of decompressing
abbrev pub refusal_of : LoadError → DecompressError
refusal_of load.Memory = Memory
refusal_of e = Image e

-- a supplement, if there is one, with the sections that lookups read decompressed
abbrev pub decompressed_if_any : Option (List ℕ) → Result (Option (List ℕ)) DecompressError
decompressed_if_any None = Ok None
decompressed_if_any (Some bytes) = do
  text ← decompressed Lookups bytes
  Ok (Some text)

-- the file of some bytes, with a supplement if there is one, both decompressed; or the first
-- refusal of the file, of its supplement, or of loading them
abbrev pub decompressed_file : List ℕ → Option (List ℕ) → Result LoadedFile DecompressError
decompressed_file bytes supplement = do
  image ← decompressed Lookups bytes
  more ← decompressed_if_any supplement
  or_image (loaded_file image more)

-- ---- files of the file system

-- the file that was read, with its supplement
abbrev pub decompressed_file_of_reads : Result (List ℕ) LoadError
    → Result (Option (List ℕ)) LoadError → Result LoadedFile DecompressError
decompressed_file_of_reads image supplement = do
  bytes ← or_image image
  more ← or_image supplement
  decompressed_file bytes more

-- A file is read, then its supplement, if there is one, and both are loaded, decompressed. Lines
-- are read only where a unit's ranges are those of its lines.
pub record LoadsDecompressedFiles (has_supplement : Bool)
    (result : Result ResolvedFile DecompressError) : Type 0 where
  pub image : Result (List ℕ) LoadError
  pub supplement : Result (Option (List ℕ)) LoadError
  pub image_is_read : IsRead image
  pub supplement_is_read : IsReadIfAny IsRead has_supplement supplement
  pub loads : DecompressesAsOrNoMemory (λ f. f.file) result
      (decompressed_file_of_reads image supplement)
  pub lines : IfOk result (λ f. RunForRangesAlone f.units)

-- ---- split files

-- a text, or where there is none, other bytes
abbrev pub text_or : List ℕ → Result (List ℕ) DecompressError → List ℕ
text_or bytes (Ok text) = text
text_or bytes (Err e) = bytes

-- the bytes of a file, decompressed, if they can be
abbrev pub decompressed_or_same : List ℕ → List ℕ
decompressed_or_same bytes = text_or bytes (decompressed Lookups bytes)

-- what a source answers, decompressed
abbrev pub decompressed_answer : Result (Option (List ℕ)) Error → Result (Option (List ℕ)) Error
decompressed_answer answer = do
  file ← answer
  Ok (option_map decompressed_or_same file)
