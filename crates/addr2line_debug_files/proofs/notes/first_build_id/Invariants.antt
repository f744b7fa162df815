-- The first build identifier of the notes that are left is that of all.
use Rattle.std.proofs.Common.{◌≡◌, length}
use Rattle.addr2line_debug_files.specs.Notes.{first_build_id}
use Rattle.addr2line_debug_files.proofs.notes.first_build_id.Given as goal

abbrev pub invariant-loop-rest : goal.invariant-loop-rest
invariant-loop-rest l = first_build_id l.rest ≡ first_build_id l.initial.rest

abbrev pub decreases-loop-rest : goal.decreases-loop-rest
decreases-loop-rest l = length l.rest.bytes
