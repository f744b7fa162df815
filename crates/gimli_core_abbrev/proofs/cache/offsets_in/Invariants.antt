use Rattle.std.proofs.Common.{◌≡◌, map, take}
use Rattle.gimli_core_abbrev.proofs.cache.offsets_in.Given as goal

-- the offsets so far
abbrev pub invariant-loop-root : goal.invariant-loop-root
invariant-loop-root g l = l.offsets.items ≡ map (λ root. root.0) (take l.root-index l.roots)
