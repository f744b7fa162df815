-- What sources of split files answer.
use Rattle.std.specs.Prelude.{◌≡◌, ℕ, List, Option, Some, None, Result, Ok}
use Rattle.addr2line_context.specs.Calls.{ReturnsOrNoMemory}
use Rattle.addr2line_context.specs.Error.{Error}
use Rattle.addr2line_c.specs.declared.load_sources.NoFiles.{NoFiles}
use Rattle.addr2line_c.specs.declared.load_sources.OneFile.{OneFile}

-- the source that has no files
abbrev pub no_files : NoFiles
no_files = record {}

-- no file for any name
abbrev pub answers_none : NoFiles → List ℕ → List ℕ → Result (Option (List ℕ)) Error → NoFiles
    → Type 0
answers_none old directory name result new = result ≡ Ok None

-- the bytes of one file for each name, or out of memory
abbrev pub answers_one : OneFile → List ℕ → List ℕ → Result (Option (List ℕ)) Error → OneFile
    → Type 0
answers_one old directory name result new =
    (new ≡ old) × ReturnsOrNoMemory result (Ok (Some old.bytes))
