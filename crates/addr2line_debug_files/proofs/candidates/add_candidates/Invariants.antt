-- The paths so far are added, all but the file's own.
use Rattle.std.proofs.Common.{◌≡◌, ◌++◌, take}
use Rattle.addr2line_debug_files.specs.Candidates.{candidates_at, without}
use Rattle.addr2line_debug_files.proofs.candidates.add_candidates.Given as goal

abbrev pub invariant-loop-path : goal.invariant-loop-path
invariant-loop-path l =
    l.names.items
    ≡ l.initial.names.items ++ without l.own_path (candidates_at l.identity (take l.path-index l.paths))
