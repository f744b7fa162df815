-- `new` makes a value of no bytes, whose count is 0. The walk picks its name, which no clause shows.
use Rattle.std.proofs.Common.{[], ◌∷◌, refl}
use Rattle.std.proofs.raw_atomic.Walks.{proved}
use base.Fml.{ftrue}
use types.Kit.{‵, raw, ◌$◌, ◌∵◌, !, qed, drop, fjoin, suffices, done}
use types.Part.{agg}
use types.Run.{enter, returns, and_then, no_more, unit_lit}
use types.ByLocal.{alloc_all, pass_all, free_all, look_at, sets}
use denote.Steps.{nothing}
use denote.Triple.Entry.{on_entry}
use denote.Triple.Walked.{says, Stays, walk_of, ends_at}
use Rattle.addr2line_search.specs.contracts.tally.Tally.{the_row as R}
use Rattle.addr2line_search.specs.contracts.tally.Tally.new as f
use Rattle.addr2line_search.proofs.Seal.{seal, seal_made}
use Rattle.addr2line_search.proofs.tally.Tally.new.Statement.{statement}
use Rattle.addr2line_search.proofs.tally.Tally.new.Code as code

abbrev stays : Stays f.ended.signature.params f.ended.kept
stays = tt

pub new_spec : {M : Type 1} → statement M
new_spec 𝓤 𝓛 𝓜 𝓡 wired =
    let c = f.clauses 𝓛 𝓜.mem 𝓡.returns in
    let W = walk_of 𝓛 f.ended stays c in
    proved 𝓛 f.ended stays c 𝓜 𝓡 tt f.Key.name code.function (code.unfolded 𝓤 𝓛.H 𝓜 𝓡 wired)
    (λ κs. tt) (λ κs. tt) (λ κs qs bounds a _ are.
    let y : W.Ghost = ((κs, qs, bounds, a, tt), tt) in
    let made : R.Denot = record { seal = tt; name = 0; count = 0 } in
    qed 𝓛 (raw (on_entry 𝓛 f.signature κs qs a y.0.4) ∷ ‵ ftrue ∷ []) ∵ drop ! $ drop ! $
    enter ! _ _ _ _ _ $ alloc_all ! (λ l. pass_all ! refl tt $
    sets ! (agg ! (and_then ! (unit_lit !) (no_more !))) refl (tt, (tt, tt)) $
    returns ! (look_at ! 0 refl) $ free_all ! refl $
    suffices ! _ (ends_at 𝓛 f.ended stays c y seal made tt tt) $ says ! refl $
    nothing ! $ seal_made ! $ fjoin ! $ nothing ! $ nothing ! $ done !))
