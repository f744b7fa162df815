-- The path so far is the parts so far.
use Rattle.std.proofs.Common.{◌≡◌, take}
use Rattle.std.specs.List.{flat_map}
use Rattle.addr2line_debug_files.proofs.paths.concat.Given as goal

abbrev pub invariant-loop-part : goal.invariant-loop-part
invariant-loop-part l = l.path.items ≡ flat_map (λ part. part.now) (take l.part-index l.parts)
