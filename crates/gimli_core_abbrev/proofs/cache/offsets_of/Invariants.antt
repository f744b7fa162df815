use Rattle.std.proofs.Common.{◌≡◌, map, Ok}
use Rattle.gimli_core_abbrev.proofs.cache.offsets_of.Given as goal

-- each of the items so far is an offset
abbrev pub invariant-loop-offset : goal.invariant-loop-offset
invariant-loop-offset g l = l.yielded ≡ map (λ o. Ok o) l.found.items
