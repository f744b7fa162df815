-- Which files a search takes, by what their source answers.
use Rattle.std.specs.Prelude.{◌≡◌, ℕ, List, [], ◌∷◌, Option, Some, None, Result, Ok, Err, MatchBool, MatchOption}
use Rattle.std.specs.declared.alloc.AllocError.{AllocError}
use Rattle.addr2line_elf.specs.declared.error.LoadError.{LoadError}
use Rattle.addr2line_elf.specs.ElfImages.{Image, image_of}
use Rattle.addr2line_debug_files.specs.declared.candidates.Candidate.{Candidate}
use Rattle.addr2line_debug_files.specs.declared.debug_files.DebugFiles.{DebugFiles}
use Rattle.addr2line_debug_files.specs.declared.files.NamedFile.{NamedFile}
use Rattle.addr2line_debug_files.specs.Candidates.{debug_file_names, supplement_names}
use Rattle.addr2line_debug_files.specs.DebugLinks.{has_debug_info}
use Rattle.addr2line_debug_files.specs.NamedFiles.{file_for}

-- where the supplement of a file may be; nowhere, if the file isn't an ELF file that can be read
abbrev pub names_in : Result Image LoadError → List ℕ → List (List ℕ) → List Candidate
names_in (Ok image) path debug_folders = supplement_names image path debug_folders
names_in (Err e) path debug_folders = []

abbrev pub supplement_names_of : NamedFile → List (List ℕ) → List Candidate
supplement_names_of file debug_folders = names_in (image_of file.bytes) file.path debug_folders

-- `answers` says what a source may answer: by the source before it, a path, the answer and the
-- source after it.
module _ {F : Type 0} (answers : F → List ℕ → Result (Option NamedFile) AllocError → F → Type 0)
  where
    -- The source is asked for the candidates in order, each once, up to the first whose file is the
    -- one that is named. That is found; if there is none, nothing is.
    abbrev pub Finds : List Candidate → F → Option NamedFile → F → Type 0
    Finds [] old found new = (found ≡ None) × (new ≡ old)
    Finds (candidate ∷ rest) old found new =
        (answer : Option NamedFile) × (next : F)
        × answers old candidate.path (Ok answer) next
        × MatchOption (file_for candidate.identity answer) (Finds rest next found new)
        (λ file. (found ≡ Some file) × (new ≡ next))

    -- a program that has debugging information is its own debug file, and nothing is asked for
    abbrev pub FindsDebugFile
        : Image → NamedFile → List (List ℕ) → F → Option NamedFile → F → Type 0
    FindsDebugFile image program debug_folders old found new =
        MatchBool (has_debug_info image) ((found ≡ Some program) × (new ≡ old))
        (Finds (debug_file_names image program.path debug_folders) old found new)

    -- the supplement of a file that may be there
    abbrev pub FindsSupplement
        : Option NamedFile → List (List ℕ) → F → Option NamedFile → F → Type 0
    FindsSupplement None debug_folders old found new = (found ≡ None) × (new ≡ old)
    FindsSupplement (Some file) debug_folders old found new =
        Finds (supplement_names_of file debug_folders) old found new

    -- the debug file of a program, and then that file's supplement
    abbrev pub FindsDebugFiles : NamedFile → List (List ℕ) → F → DebugFiles → F → Type 0
    FindsDebugFiles program debug_folders old found new =
        (image : Image) × (between : F)
        × (image_of program.bytes ≡ Ok image)
        × FindsDebugFile image program debug_folders old found.debug_file between
        × FindsSupplement found.debug_file debug_folders between found.supplement new
