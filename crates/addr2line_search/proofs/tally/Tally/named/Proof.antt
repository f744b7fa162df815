-- `named` makes a value of no bytes with the name of a mark. The walk picks its count, 0.
use Rattle.std.proofs.Common.{[], ◌∷◌, refl}
use Rattle.std.proofs.raw_atomic.Walks.{proved}
use mir.Syntax.{named}
use base.Fml.{ftrue}
use types.Kit.{‵, raw, ◌⊛◌, ◌$◌, ◌∵◌, !, qed, move, keep, split, join, fjoin, suffices, done}
use types.Part.{agg}
use types.Run.{enter, returns, and_then, no_more, unit_lit}
use types.ByLocal.{alloc_all, pass_all, free_all, look_at, sets}
use denote.Builtin.{RefOf}
use denote.Exit.{yes}
use denote.Ref.{shr_vals, shr_Tells}
use denote.RattleType.{owns}
use denote.Signature.{plain, types_at}
use denote.Steps.{nothing}
use denote.Triple.Entry.{alive}
use denote.Triple.Walked.{says, Stays, stay_dropped, Goes-dropped, walk_of, ends_at}
use Rattle.addr2line_search.specs.contracts.tally.Mark.{the_row as T}
use Rattle.addr2line_search.specs.contracts.tally.Tally.{the_row as R}
use Rattle.addr2line_search.specs.contracts.tally.Tally.named as f
use Rattle.addr2line_search.proofs.Seal.{seal, seal_made}
use Rattle.addr2line_search.proofs.tally.Tally.named.Statement.{statement}
use Rattle.addr2line_search.proofs.tally.Tally.named.Code as code

abbrev stays : Stays f.ended.signature.params f.ended.kept
stays = (stay_dropped _ yes, tt)

pub named_spec : {M : Type 1} → statement M
named_spec 𝓤 𝓛 𝓜 𝓡 wired =
    let c = f.clauses 𝓛 𝓜.mem 𝓡.returns in
    let W = walk_of 𝓛 f.ended stays c in
    proved 𝓛 f.ended stays c 𝓜 𝓡
    (Goes-dropped 𝓛 1 (RefOf (0 ∷ []) tt (plain (λ _. T)) (λ _. tt)) yes (λ κs x w. refl), tt)
    f.Key.name code.function (code.unfolded 𝓤 𝓛.H 𝓜 𝓡 wired)
    (λ κs. (shr_vals, tt)) (λ κs. (shr_Tells (named 0) κs.0 T, tt)) (λ κs qs bounds a _ are.
    let y : W.Ghost = ((κs, qs, bounds, a, (shr_vals a.0, tt)), tt) in
    let made : R.Denot = record { seal = tt; name = a.0.now.name; count = 0 } in
    qed 𝓛 ((raw (alive 𝓛 f.signature κs qs) ⊛ ‵ (owns (types_at f.signature.params κs) a y.0.4)) ∷ ‵ ftrue ∷ []) ∵
    split ! $ keep ! (0 ∷ []) $ enter ! _ _ _ _ _ $ alloc_all ! (λ l. pass_all ! refl ((tt, tt), tt) $
    sets ! (agg ! (and_then ! (unit_lit !) (no_more !))) refl (tt, (tt, tt)) $
    returns ! (look_at ! 0 refl) $ free_all ! refl $
    suffices ! _ (ends_at 𝓛 f.ended stays c y seal made (tt, tt) (tt, tt)) $ says ! (refl, refl) $
    nothing ! $ seal_made ! $ fjoin ! $ nothing ! $ nothing ! $ join ! $ move ! (2 ∷ 0 ∷ 1 ∷ []) $ done !))
