-- Files whose debugging information is compressed, or in files of its own.
use Rattle.std.specs.Prelude.{◌≡◌, ◌≢◌, ◌⊎◌, ℕ, List, Option, Some, None, option_map, codes, Result, Ok, Err}
use Rattle.std.specs.Io.KnownBytes.{Keeps}
use Rattle.std.specs.declared.alloc.AllocError.{AllocError}
use Rattle.addr2line_context.specs.Results.{◌>>=◌}
use Rattle.addr2line_debug_files.specs.declared.debug_files.DebugFiles.{DebugFiles}
use Rattle.addr2line_debug_files.specs.declared.files.NamedFile.{NamedFile}
use Rattle.addr2line_debug_files.specs.Searches.{FindsDebugFiles}
use Rattle.addr2line_loader.specs.DecompressResults.{or_image}
use Rattle.addr2line_loader.specs.DecompressError.{DecompressError}
use Rattle.addr2line_loader.specs.DecompressError.TheVariants.{Memory, Image}
use Rattle.addr2line_loader.specs.DecompressedFiles.{decompressed_file}
use Rattle.addr2line_loader.specs.LoadedFiles.{LoadedFile}
use Rattle.addr2line_loader.specs.SymbolFiles.{with_symbols_of}
use Rattle.addr2line_split.specs.ElfImages.{image_of}
use Rattle.addr2line_split.specs.LoadErrors.{text_of}
use Rattle.linemap_output.specs.ErrorLine.{error_line}
use Rattle.linemap_output.specs.WriterBytes.{AppendsPrefix}
use Rattle.linemap_output.specs.declared.ended.Ended.{Ended}
use Rattle.linemap_lookup.specs.Programs.{EndsWithLine, LacksMemory, RefusesByOrLacksMemory, load_memory_line, or_line}

-- ---- what is loaded

-- the bytes of a debug file, or else those of its program
abbrev pub debug_bytes : NamedFile → Option NamedFile → List ℕ
debug_bytes program None = program.bytes
debug_bytes program (Some file) = file.bytes

-- the bytes of a supplement, if one is given, or else those of the one that was found
abbrev pub supplement_or : Option (List ℕ) → Option NamedFile → Option (List ℕ)
supplement_or (Some bytes) found = Some bytes
supplement_or None found = option_map (λ file. file.bytes) found

-- a program with the debug file and the supplement that were found for it: their debugging
-- information, and the debug file's symbols, or else the program's
abbrev pub found_file : NamedFile → Option (List ℕ) → DebugFiles → Result LoadedFile DecompressError
found_file program supplement found = do
  file ← decompressed_file (debug_bytes program found.debug_file)
      (supplement_or supplement found.supplement)
  or_image (with_symbols_of program.bytes file)

-- ---- what is reported

-- a line, or a prefix of it, says that no debug file was found; else nothing is written
abbrev pub ReportsNone
    : List ℕ → Option NamedFile → Option (List ℕ) → Option (List ℕ) → Type 0
ReportsNone name (Some file) old new = Keeps old new
ReportsNone name None old new =
    AppendsPrefix old new (error_line (codes "no debug info found for ") name)

-- the line of a refusal: that of loading, or one that says what isn't decompressed
abbrev pub IsRefusalLine : DecompressError → List ℕ → Type 0
IsRefusalLine (Image e) line =
    line ≡ error_line (codes "failed to load debug info: ") (text_of e)
IsRefusalLine e line =
    (why : List ℕ) × (line ≡ error_line (codes "failed to decompress debug info: ") why)

-- a refusal is reported by its line, or by the one for memory
abbrev pub ReportsRefusal : DecompressError → Option (List ℕ) → Option (List ℕ) → Ended → Type 0
ReportsRefusal refusal old new e =
    LacksMemory load_memory_line old new e
    ⊎ ((refusal ≢ Memory)
    × (line : List ℕ) × IsRefusalLine refusal line × EndsWithLine line old new e)

-- the refusal of a file is reported, or that memory is refused
abbrev pub RefusesDecompression : Result LoadedFile DecompressError → Option (List ℕ)
    → Option (List ℕ) → Ended → Type 0
RefusesDecompression file old new e =
    LacksMemory load_memory_line old new e
    ⊎ ((refusal : DecompressError) × (file ≡ Err refusal) × ReportsRefusal refusal old new e)

-- a program whose files are looked for is refused: it can't be read, or memory is refused
abbrev pub RefusesProgram : NamedFile → Option (List ℕ) → Option (List ℕ) → Ended → Type 0
RefusesProgram program old new e =
    RefusesByOrLacksMemory
    (or_line (codes "failed to load debug info: ") text_of (image_of program.bytes))
    load_memory_line old new e

-- `answers` says what a source may answer, as in `FindsDebugFiles`.
module _ {F : Type 0} (answers : F → List ℕ → Result (Option NamedFile) AllocError → F → Type 0)
  where
    -- The program is refused, or else, after the line where no debug file was found, what was
    -- found.
    abbrev pub RefusesFound : List ℕ → NamedFile → List (List ℕ) → Option (List ℕ) → F → F
        → Option (List ℕ) → Option (List ℕ) → Ended → Type 0
    RefusesFound name program folders supplement files files_left old new e =
        RefusesProgram program old new e
        ⊎ ((found : DebugFiles) × (mid : Option (List ℕ))
        × FindsDebugFiles answers program folders files found files_left
        × ReportsNone name found.debug_file old mid
        × RefusesDecompression (found_file program supplement found) mid new e)
