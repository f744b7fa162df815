-- The paths of the folders so far are added.
use Rattle.std.proofs.Common.{◌≡◌, ◌++◌, map, take}
use Rattle.addr2line_debug_files.specs.Candidates.{build_id_path}
use Rattle.addr2line_debug_files.proofs.paths.add_build_id_paths.Given as goal

abbrev pub invariant-loop-debug_folder : goal.invariant-loop-debug_folder
invariant-loop-debug_folder l =
    l.paths.items ≡ l.initial.paths.items ++ map (build_id_path l.id) (take l.debug_folder-index l.debug_folders)
