-- Files of the file system: their paths, and what a read of one says.
use Rattle.std.specs.Prelude.{◌≡◌, ◌⊎◌, ℕ, Bool, true, false, List, Option, Some, None, option_map, option_and_then, Result, Ok, Err, IfErr, if◌then◌else◌}
use Rattle.std.specs.Str.{is_utf8}
use Rattle.std.specs.Path.{path_join}
use Rattle.std.specs.declared.io.ErrorKind.{ErrorKind}
use Rattle.std.specs.declared.io.ErrorKind.TheVariants.{OutOfMemory}
use Rattle.addr2line_unit.specs.Error.{Error}
use Rattle.addr2line_unit.specs.Error.TheVariants as debug
use Rattle.addr2line_elf.specs.declared.error.LoadError.{LoadError}
use Rattle.addr2line_elf.specs.declared.error.LoadError.TheVariants.{Memory, Io}
use Rattle.addr2line_elf.specs.FileParts.{PartialFile}
use Rattle.addr2line_elf.specs.LoadedParts.{IsLoadable}
use Rattle.addr2line_elf.specs.LoadErrors.{IsReadRefusal}

-- bytes as a text, if they are UTF-8
abbrev pub as_text : List ℕ → Option (List ℕ)
as_text bytes = if is_utf8 bytes then Some bytes else None

-- the path of a name that counts from a directory, if both are texts
abbrev pub path_in : List ℕ → List ℕ → Option (List ℕ)
path_in directory name =
    option_and_then (λ d. option_map (path_join d) (as_text name)) (as_text directory)

-- why a read is refused
abbrev pub read_refusal : ErrorKind → LoadError
read_refusal OutOfMemory = Memory
read_refusal kind = Io

-- what reading a file gives: bytes, of which nothing is known here, or one of these refusals
abbrev pub IsRead : Result (List ℕ) LoadError → Type 0
IsRead read = IfErr read IsReadRefusal

-- what reading the parts of a file gives: those that a loader needs, or one of these refusals
abbrev pub AreRead : Result PartialFile LoadError → Type 0
AreRead (Ok file) = IsLoadable file
AreRead (Err e) = IsReadRefusal e

-- what was read, if it can be read
abbrev pub if_readable : {A : Type 0} → Result A LoadError → Result (Option A) Error
if_readable (Ok x) = Ok (Some x)
if_readable (Err Memory) = Err debug.Memory
if_readable (Err e) = Ok None

-- ---- files of a file system, by what it answers

module _ (answers_kind : List ℕ → Result Bool LoadError → Type 0)
    (answers_bytes : List ℕ → Result (List ℕ) LoadError → Type 0) where
  -- what is read where a path leads to a regular file, to another one, or nowhere
  abbrev pub ReadsIfRegular : List ℕ → Result Bool LoadError → Result (List ℕ) LoadError → Type 0
  ReadsIfRegular path (Ok true) read = answers_bytes path read
  ReadsIfRegular path (Ok false) read = read ≡ Err Io
  ReadsIfRegular path (Err e) read = read ≡ Err e

  -- A file is read if it is regular; else it can't be read.
  abbrev pub ReadsRegularFile : List ℕ → Result (List ℕ) LoadError → Type 0
  ReadsRegularFile path read =
      (is_regular : Result Bool LoadError)
      × answers_kind path is_regular
      × ReadsIfRegular path is_regular read

  -- What a source has for a name that counts from a directory: the file of the path that both make,
  -- if it is regular and can be read; none where they make no path. Or out of memory.
  abbrev pub GetsFileOf : Option (List ℕ) → Result (Option (List ℕ)) Error → Type 0
  GetsFileOf None result = result ≡ Ok None
  GetsFileOf (Some path) result =
      (read : Result (List ℕ) LoadError)
      × ReadsRegularFile path read
      × (result ≡ if_readable read)

  abbrev pub GetsPath : List ℕ → List ℕ → Result (Option (List ℕ)) Error → Type 0
  GetsPath directory name result =
      (result ≡ Err debug.Memory) ⊎ GetsFileOf (path_in directory name) result
