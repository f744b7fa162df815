-- The paths of the folders so far are added.
use Rattle.std.proofs.Common.{◌≡◌, [], ◌∷◌, ◌++◌, map, take}
use Rattle.std.specs.List.{concat}
use Rattle.addr2line_debug_files.proofs.paths.link_paths.Given as goal

abbrev pub invariant-loop-debug_folder : goal.invariant-loop-debug_folder
invariant-loop-debug_folder l =
    l.paths.items
    ≡ l.initial.paths.items ++ map (λ debug_folder. concat (debug_folder ∷ l.folder ∷ l.name ∷ []))
    (take l.debug_folder-index l.debug_folders)
