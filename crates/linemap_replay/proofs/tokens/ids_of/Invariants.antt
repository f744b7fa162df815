-- The identifiers so far are those of the first loads.
use Rattle.std.proofs.Common.{◌≡◌, map, take}
use Rattle.linemap_replay.proofs.tokens.ids_of.Given as goal

abbrev pub invariant-loop-load : goal.invariant-loop-load
invariant-loop-load g l = map (λ i. i.0) l.ids.items ≡ map (λ p. p.0.dwo_id) (take l.load-index l.loads)
