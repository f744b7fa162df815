-- The first word is read, and nothing changes.
use Rattle.std.proofs.Common.{List, [], ◌∷◌, refl, w32}
use mir.Syntax.{named}
use mir.Val.{Val, vint}
use base.Fml.{ftrue, flft}
use base.Fraction.{full_share}
use types.Kit.{‵, ◌⊛◌, ◌$◌, ◌∵◌, !, qed, move, keep, split, join, fsplit3, rewrite, suffices, frame, group, done}
use types.Part.{sub, whole, look_in}
use types.Run.{stop, fld, load, of_opd, returns, enter, well_typed}
use types.ByLocal.{alloc_all, pass_all, free_all, look_at, through, sets}
use contract.Running.{tables}
use denote.Builtin.{u32}
use denote.Laws.{shows}
use denote.Memory.{cell_at}
use denote.Plain.{uint_Makes}
use denote.Ref.{MutRef, mut_vals, mut_Tells}
use denote.Signature.{plain}
use denote.Steps.{nothing, opens, closes, peeks, owned}
use denote.Triple.Walked.{Stays, walk_of, stay_ref, Goes-ref, ends_at}
use Rattle.core.proofs.mem.Facts.{says_two}
use Rattle.std.proofs.raw_atomic.Walks.{proved}
use Rattle.addr2line_c.proofs.HandleFields.{handle_word}
use Rattle.addr2line_c.specs.contracts.handle.Handle.{the_row as R}
use Rattle.addr2line_c.proofs.handle.Handle.TheLaws.{lowers}
use Rattle.addr2line_c.specs.contracts.handle.Handle.state as f
use Rattle.addr2line_c.proofs.handle.Handle.state.Statement.{statement}
use Rattle.addr2line_c.proofs.handle.Handle.state.Code as code

abbrev stayed : Stays f.ended.signature.params f.ended.kept
stayed = (stay_ref (0 ∷ []) tt (plain (λ _. R)), tt)

pub state_spec : {M : Type 1} → statement M
state_spec 𝓤 𝓛 𝓜 𝓡 wired =
    let H = 𝓛.H in let c = f.clauses 𝓛 𝓜.mem 𝓡.returns in let 𝓣 = tables 𝓤 H 𝓜 𝓡 𝓡.env in let fn = code.function in
    proved 𝓛 f.ended stayed c 𝓜 𝓡 (Goes-ref 𝓛 1 0 tt (plain (λ _. R)), tt)
    f.Key.name fn (code.unfolded 𝓤 H 𝓜 𝓡 wired) (λ κs. (mut_vals, tt)) (λ κs. (mut_Tells (named 0) κs.0 R, tt)) (λ
    κs qs bounds a _ are.
    let r = a.0 in let b = r.ref_ptr.0 in let o = r.ref_ptr.1 in let h = r.now in let vs = mut_vals r in
    let W = walk_of 𝓛 f.ended stayed c in
    let z : W.Ghost = ((κs, qs, bounds, a, (vs, tt)), tt) in
    let Cell = λ (xs : List Val). ‵ (cell_at full_share R.mir xs b o) in
    qed 𝓛 (((‵ (flft κs.0 qs.0) ⊛ ‵ ftrue) ⊛ ‵ ((MutRef (named 0) κs.0 R).own_val r vs) ⊛ ‵ ftrue) ∷ ‵ ftrue ∷ []) ∵
    split ! $ split ! $ move ! (2 ∷ []) $ split ! $ keep ! (0 ∷ 2 ∷ []) $ enter ! 𝓣.C 𝓣.Λ fn vs (W.post z) $
    alloc_all ! (λ l. pass_all ! refl ((tt, tt), tt) $
    fsplit3 ! $ move ! (1 ∷ 2 ∷ 3 ∷ []) $ opens ! tt R b o (λ ts. move ! (1 ∷ []) $
    peeks ! R _ (shows 𝓛 R) h ts (λ is. rewrite ! 0 (λ (xs : List Val). ‵ (R.own_val h xs)) (lowers.val_is h ts is)
    refl $ rewrite ! 1 Cell (lowers.val_is h ts is) refl $ move ! (1 ∷ []) $ well_typed ! (λ ok.
    -- [the handle's cell; what it owns; the open borrow, in three entries; the reference]
    sets ! (of_opd ! (load ! (through ! refl (fld ! refl (stop !))) (look_in ! 0 (sub ! 0 refl (whole !))))) refl
    (tt, ok.1.0) $
    closes ! tt R h (handle_word h.opened h.at ∷ []) b o $ returns ! (look_at ! 0 refl) $ free_all ! refl $
    keep ! (3 ∷ 0 ∷ 1 ∷ 2 ∷ []) $
    suffices ! _ (ends_at 𝓛 f.ended stayed c z (vint w32 h.opened) h.opened (h, tt) (tt, tt)) $
    says_two ! (refl, refl) $
    group ! 3 $ nothing ! $ move ! (1 ∷ 0 ∷ []) $ join ! $ nothing ! $ move ! (2 ∷ 0 ∷ []) $ join ! $ frame ! $
    frame ! $ owned ! u32 _ (uint_Makes 𝓛 w32) h.opened _ (refl, ok.1.0.fits) $ done !)))))
