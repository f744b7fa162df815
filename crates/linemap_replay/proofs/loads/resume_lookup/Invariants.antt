-- The loads so far were answered in turn, and what is left to resume is the same.
use Rattle.std.proofs.Common.{◌≡◌, map, drop, take, option_map}
use Rattle.linemap_replay.specs.CallEffects.{KeepsAfterLookup}
use Rattle.linemap_replay.specs.Replays.{file_at, resume_with_all}
use Rattle.linemap_replay.proofs.loads.resume_lookup.Given as goal

abbrev pub invariant-loop-place : goal.invariant-loop-place
invariant-loop-place g l =
    let lookup = g.L.AddressLookup.lookup in
    let files = map (option_map (λ f. f.value.file)) l.answers in
    let start = l.fn.context.value in
    (l.context.value.plain ≡ start.plain)
    × KeepsAfterLookup lookup g.L.AddressLookup.asks start l.probe (map (file_at files) l.places) l.fn.context.units
    l.context.units
    × (resume_with_all lookup l.context.value l.probe (map (file_at files) (drop l.place-index l.places))
    ≡ resume_with_all lookup start l.probe (map (file_at files) l.places))
    × (l.context.value.answers
    ≡ (resume_with_all lookup start l.probe (map (file_at files) (take l.place-index l.places))).1)
