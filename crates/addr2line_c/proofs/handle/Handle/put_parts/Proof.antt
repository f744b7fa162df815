-- The pointer of the parts is stored in the handle, which takes over what they own.
use Rattle.std.proofs.Common.{◌≡◌, List, [], ◌∷◌, ◌++◌, refl, sym, subst, lit<}
use mir.Syntax.{named}
use mir.Val.{Val, vunit, vptr}
use base.Logic.{SProp, ent, id⊢}
use base.Fraction.{full_share}
use base.Fml.{ftrue, fsep, flft}
use prog.Wp.{WpFn}
use types.Kit.{‵, raw, ◌⊛◌, ◌$◌, ◌∵◌, !, qed, move, keep, drop, use0, split, join, fsplit3, fjoin, feq_i}
use types.Kit.{rewrite, suffices, frame, group, done}
use types.Part.{sub, whole, store_in}
use types.Run.{stop, fld, of_opd, lit, unit_lit, assigns, returns, enter}
use types.ByLocal.{alloc_all, pass_all, free_all, look_at, get, get_in, through, sets}
use contract.Monad.{fact}
use contract.Running.{tables}
use denote.Exit.{yes}
use denote.Laws.{shows}
use denote.Memory.{cell_at}
use denote.RawPtr.{block_ptr}
use denote.Ref.{MutRef}
use denote.Signature.{plain}
use denote.Steps.{nothing, heard, opens, closes, peeks}
use denote.Triple.Walked.{Stays, walk_of, stay_ref, stay_dropped, Goes-ref, Goes-dropped, ends_at}
use Rattle.core.proofs.mem.Facts.{says_two}
use Rattle.std.proofs.raw_atomic.Walks.{proved_at}
use Rattle.std_alloc.proofs.BoxSteps.Form as box
use Rattle.std_alloc.proofs.BoxSteps.Steps.{box_out}
use Rattle.addr2line_c.proofs.HandleFields.{file_box, BoxParts, Stored, handle_word, stores}
use Rattle.addr2line_c.specs.contracts.handle.Handle.{the_row as R}
use Rattle.addr2line_c.proofs.handle.Handle.TheLaws.{lowers}
use Rattle.addr2line_c.specs.contracts.handle.Handle.put_parts as f
use Rattle.addr2line_c.proofs.handle.Handle.put_parts.Statement.{statement}
use Rattle.addr2line_c.proofs.handle.Handle.put_parts.Code as code

abbrev stayed : Stays f.ended.signature.params f.ended.kept
stayed = (stay_ref (0 ∷ []) tt (plain (λ _. R)), (stay_dropped (plain (λ _. BoxParts)) yes, tt))

pub put_parts_spec : {M : Type 1} → statement M
put_parts_spec 𝓤 𝓛 𝓜 𝓡 wired =
    let H = 𝓛.H in let c = f.clauses 𝓛 𝓜.mem 𝓡.returns in let 𝓣 = tables 𝓤 H 𝓜 𝓡 𝓡.env in let fn = code.function in
    proved_at 𝓛 f.ended stayed c 𝓜 𝓡 (
      Goes-ref 𝓛 1 0 tt (plain (λ _. R)),
      (
        Goes-dropped 𝓛 1 (plain (λ _. BoxParts))
            yes (λ κs x f. refl),
        tt,
      ),
    )
    f.Key.name fn (code.unfolded 𝓤 H 𝓜 𝓡 wired) (λ z are.
    let κ = z.0.0.0 in let q = z.0.1.0 in let r = z.0.3.0 in let b = r.ref_ptr.0 in let o = r.ref_ptr.1 in
    let h = r.now in
    let p = z.0.3.1.0 in let v : box.D file_box = record { ptr = p.pointer; alloc = p.alloc; value = p.content } in
    let Post : Val → SProp 𝓤 = (walk_of 𝓛 f.ended stayed c).post z in
    let Run : List Val → SProp 𝓤 = λ ws. WpFn 𝓤 H 𝓣.C 𝓣.Λ fn ws Post in
    qed 𝓛 (((‵ (flft κ q) ⊛ ‵ ftrue) ⊛ ‵ (fsep ((MutRef (named 0) κ R).own_val r z.0.4.0) (fsep ((box.B
    file_box).own_val
    v z.0.4.1.0) ftrue))) ∷ raw (fact 𝓤 (h.opened ≡ 0)) ∷ []) ∵
    move ! (1 ∷ []) $ heard ! _ (λ empty. split ! $ move ! (1 ∷ []) $ fsplit3 ! $ move ! (1 ∷ []) $
    box_out file_box ! v z.0.4.1.0 (λ b' o' hv e ws fa. let w : Val = box.word file_box hv b' o' in
    let us : List Val = vptr b o ∷ w ∷ [] in
    suffices ! (Run us) (subst (λ (xs : List Val). ent 𝓤 (Run us) (Run xs)) (sym (λ i. are.0.0 i ++ (ws i ++ [])))
    (id⊢ 𝓤 (Run us))) $
    -- [the file; the right to free it; the handle; self; nothing; the token]
    move ! (2 ∷ []) $ drop ! $ enter ! 𝓣.C 𝓣.Λ fn us Post $
    alloc_all ! (λ l. pass_all ! refl ((tt, tt), (box.box_typed file_box hv b' o' fa, tt)) $
    sets ! (of_opd ! (get_in ! (fld ! refl (stop !)) (sub ! 0 refl (whole !)))) refl (tt, tt) $
    sets ! (of_opd ! (get ! refl)) refl (tt, tt) $
    move ! (2 ∷ []) $ fsplit3 ! $ move ! (6 ∷ []) $ split ! $ move ! (3 ∷ 4 ∷ 0 ∷ []) $
    opens ! tt R b o (λ ts. move ! (1 ∷ []) $ peeks ! R _ (shows 𝓛 R) h ts (λ is. drop ! $
    rewrite ! 0 (λ (xs : List Val). ‵ (cell_at full_share R.mir xs b o)) (lowers.val_is h ts is) refl $
    -- [the handle's cell; the open borrow, in three entries; nothing; the reference; the file; the right to free it]
    assigns ! (of_opd ! (get ! refl)) (through ! refl (fld ! refl (stop !))) (store_in ! 0 (sub ! 1 refl (whole !))
    (tt, tt)) $ assigns ! (of_opd ! (lit ! tt)) (through ! refl (fld ! refl (stop !))) (store_in ! 0 (sub ! 0 refl
    (whole !)) (tt, record { fits = lit< tt })) $ sets ! (of_opd ! (unit_lit !)) refl (tt, tt) $
    let at = block_ptr b' o' in let now : R.Denot = record { opened = 1; at = at; file = p.content } in
    move ! (6 ∷ 7 ∷ []) $ fjoin ! $ use0 𝓛 (‵ (Stored.own_val (1, (at, tt)) (handle_word 1 at ∷ []))) (stores 𝓛 1
    at (lit<
    tt)) $ fjoin ! $ move ! (1 ∷ []) $ closes ! tt R now (handle_word 1 at ∷ []) b o $
    returns ! (look_at ! 0 refl) $ free_all ! refl $ keep ! (4 ∷ 0 ∷ 1 ∷ 2 ∷ []) $
    suffices ! _ (ends_at 𝓛 f.ended stayed c z vunit tt (now, (tt, tt)) (tt, (tt, tt))) $ says_two ! (refl, refl) $
    group ! 3 $ nothing ! $ nothing ! $ join ! $ move ! (1 ∷ 0 ∷ []) $ join ! $ nothing ! $ move ! (2 ∷ 0 ∷ []) $
    join ! $ frame ! $ frame ! $ feq_i ! _ (vunit ∷ []) _ refl $ done !))))))
