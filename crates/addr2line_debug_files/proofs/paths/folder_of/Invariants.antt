-- The bytes after the first ones are of the file's name.
use Rattle.std.proofs.Common.{◌≡◌, ◌≤◌, length, take}
use Rattle.addr2line_debug_files.specs.Candidates.{folder_of}
use Rattle.addr2line_debug_files.proofs.paths.folder_of.Given as goal

abbrev pub invariant-loop-len : goal.invariant-loop-len
invariant-loop-len l = record {
  within : l.len ≤ length l.path;
  same : folder_of (take l.len l.path) ≡ folder_of l.path;
}

abbrev pub decreases-loop-len : goal.decreases-loop-len
decreases-loop-len l = l.len
