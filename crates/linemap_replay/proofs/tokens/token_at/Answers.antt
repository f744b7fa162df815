use Rattle.std.proofs.Common.{sym, ap, ◌∙◌, Some, option_map}
use Rattle.std.proofs.lemmas.Option.{slice_get-map, slice_get-get_or, slice_get_past}
use Rattle.linemap_replay.specs.Replays.{token_of}
use Rattle.linemap_replay.proofs.tokens.token_at.Goals as goal

pub returns-in-Some : goal.returns-in-Some
returns-in-Some g c =
    let load = c.in-Some.field-0.now in
    sym (slice_get-map token_of c.args.loads.now c.args.number
    ∙ ap (option_map token_of)
    (slice_get-get_or c.args.loads.now c.args.number load c.in-Some.ensures.lookup.3.0
    ∙ ap Some (sym c.in-Some.ensures.lookup.1)))

pub returns-in-None : goal.returns-in-None
returns-in-None g c =
    sym (slice_get-map token_of c.args.loads.now c.args.number
    ∙ ap (option_map token_of) (slice_get_past c.args.loads.now c.args.number c.in-None.ensures.lookup.3))
