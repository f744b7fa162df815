-- Where the files with an image's debugging information may be (GDB manual, "Debugging Information
-- in Separate Files"). Paths are bytes; their parts are separated by slashes.
use Rattle.std.specs.Prelude.{ℕ, ◌==◌, not, nat_eq, nat_lt, Bool, ◌||◌, List, [], ◌∷◌, ◌++◌, map, take, drop, length, slice_index, codes, Option, Some, None, if◌then◌else◌}
use Rattle.std.specs.List.{concat, filter, list_any}
use Rattle.std.specs.Cmp.Lexicographic.{pointwise}
use Rattle.hex.specs.Hex.{encode_lower}
use Rattle.addr2line_elf.specs.ElfImages.{Image}
use Rattle.addr2line_debug_files.specs.declared.candidates.Candidate.{Candidate}
use Rattle.addr2line_debug_files.specs.declared.candidates.Identity.{Identity}
use Rattle.addr2line_debug_files.specs.declared.candidates.Identity.TheVariants.{BuildId, Crc}
use Rattle.addr2line_debug_files.specs.declared.links.DebugLink.{DebugLink}
use Rattle.addr2line_debug_files.specs.declared.links.SupplementLink.{SupplementLink}
use Rattle.addr2line_debug_files.specs.declared.paths.TheConstants.{SLASH}
use Rattle.addr2line_debug_files.specs.DebugLinks.{build_id, debug_link, supplement_link}

-- ---- paths

abbrev pub is_slash : ℕ → Bool
is_slash b = b == SLASH

-- the path of a file's folder, with its last slash; empty where the file's path has no slash
abbrev pub folder_of : List ℕ → List ℕ
folder_of [] = []
folder_of (b ∷ bs) = if is_slash b || list_any is_slash bs then b ∷ folder_of bs else []

abbrev pub is_absolute : List ℕ → Bool
is_absolute path = slice_index path 0 == SLASH

-- a path as it counts from a folder
abbrev pub path_from : List ℕ → List ℕ → List ℕ
path_from folder path = if is_absolute path then path else concat (folder ∷ path ∷ [])

-- the file of a build identifier under a debug folder: the identifier's first byte names a folder,
-- and the others the file
unfoldable pub build_id_path : List ℕ → List ℕ → List ℕ
build_id_path id debug_folder =
    concat (debug_folder ∷ codes "/.build-id/" ∷ encode_lower (take 1 id) ∷ codes "/"
    ∷ encode_lower (drop 1 id) ∷ codes ".debug" ∷ [])

-- an identifier of one byte names no file
abbrev pub build_id_paths : List ℕ → List (List ℕ) → List (List ℕ)
build_id_paths id debug_folders =
    if nat_lt (length id) 2 then [] else map (build_id_path id) debug_folders

-- under each debug folder, in the program's folder, where its path is known from the root on
abbrev pub system_paths : List ℕ → List ℕ → List (List ℕ) → List (List ℕ)
system_paths name folder debug_folders =
    if is_absolute folder
    then map (λ debug_folder. concat (debug_folder ∷ folder ∷ name ∷ [])) debug_folders else []

-- the file that a debug link names: beside the program, in the folder .debug there, or under a
-- debug folder
abbrev pub link_paths : List ℕ → List ℕ → List (List ℕ) → List (List ℕ)
link_paths name folder debug_folders =
    concat (folder ∷ name ∷ []) ∷ concat (folder ∷ codes ".debug/" ∷ name ∷ [])
    ∷ system_paths name folder debug_folders

-- the supplement of a file in a folder: at the path that the file says, or under a debug folder
abbrev pub supplement_paths : SupplementLink → List ℕ → List (List ℕ) → List (List ℕ)
supplement_paths link folder debug_folders =
    path_from folder link.name ∷ build_id_paths link.build_id debug_folders

-- ---- candidates

abbrev pub candidates_at : Identity → List (List ℕ) → List Candidate
candidates_at identity paths = map (λ path. record { path = path; identity = identity }) paths

abbrev pub by_build_id : Option (List ℕ) → List (List ℕ) → List Candidate
by_build_id None debug_folders = []
by_build_id (Some id) debug_folders = candidates_at (BuildId id) (build_id_paths id debug_folders)

abbrev pub by_link : Option DebugLink → List ℕ → List (List ℕ) → List Candidate
by_link None folder debug_folders = []
by_link (Some link) folder debug_folders =
    candidates_at (Crc link.crc) (link_paths link.name folder debug_folders)

abbrev pub by_supplement_link : Option SupplementLink → List ℕ → List (List ℕ) → List Candidate
by_supplement_link None folder debug_folders = []
by_supplement_link (Some link) folder debug_folders =
    candidates_at (BuildId link.build_id) (supplement_paths link folder debug_folders)

-- all but the file of a path itself
abbrev pub without : List ℕ → List Candidate → List Candidate
without path candidates = filter (λ c. not (pointwise nat_eq c.path path)) candidates

-- ---- where the files may be, in order

-- the file with the debugging information of the program at a path
abbrev pub debug_file_names : Image → List ℕ → List (List ℕ) → List Candidate
debug_file_names image path debug_folders =
    without path (by_build_id (build_id image) debug_folders
    ++ by_link (debug_link image) (folder_of path) debug_folders)

-- the supplement of the file at a path
abbrev pub supplement_names : Image → List ℕ → List (List ℕ) → List Candidate
supplement_names image path debug_folders =
    without path (by_supplement_link (supplement_link image) (folder_of path) debug_folders)
