-- `file_mut` lends the file behind the pointer, and the handle ends with its last value.
use Rattle.std.proofs.Common.{◌≡◌, ℕ, List, [], ◌∷◌, refl, sym, ◌∙◌, lit<}
use seplogic.Ra.Ura.{Ura}
use mir.Syntax.{named}
use mir.Raw.{raw as bare}
use mir.Val.{Val, vptr}
use base.Fraction.{full_share}
use base.Logic.{ent, sep, never, fst∗, id⊢}
use base.Fml.{GName, Fml, ftrue, fsep, flft}
use types.Logic.{Logic, sem}
use types.Kit.{‵, raw, ◌⊛◌, some, later, at_ret, ◌$◌, ◌∵◌, !, qed, move, keep, drop, use0, use1, await, pick}
use types.Kit.{split, join, fsplit, fsplit3, fjoin, fpack, rewrite, suffices, frame, group, done}
use types.Part.{sub, whole, look_in}
use types.Run.{stop, fld, load, of_opd, addr, first, blocks, exec, returns, enter}
use types.ByLocal.{alloc_all, pass_all, free_all, look_at, get, through, sets, sets_last, env}
use contract.Monad.{fact}
use contract.Running.{tables}
use denote.Exit.{no}
use denote.Follow.{follows, Part, lends_Part}
use denote.Laws.{shows}
use denote.Memory.{mem, cell_at, part_at, part_of}
use denote.RawPtr.{Ptr, block_ptr, null_ptr, in_a_block}
use denote.Ref.{MutRef, mut_vals, mut_Tells}
use denote.Signature.{plain, mut_ref_to}
use denote.Steps.{nothing, heard, opens, peeks}
use denote.Triple.Walked.{Stays, walk_of, says, stay_dropped, Goes-spent_ref, ends_at}
use Rattle.core.proofs.atomic.Steps.{tail}
use Rattle.std.proofs.raw_atomic.Walks.{proved}
use Rattle.std_alloc.specs.Box.Ownership.{box_owns}
use Rattle.std_alloc.proofs.BoxSteps.Form as box
use Rattle.addr2line_c.specs.contracts.open_file.OpenFile.{the_row as T}
use Rattle.addr2line_c.specs.Handles.{owns_file, token}
use Rattle.addr2line_c.specs.Lending.{with_file}
use Rattle.addr2line_c.proofs.HandleFields.{file_box, Stored, handle_word, stores}
use Rattle.addr2line_c.specs.contracts.handle.Handle.{the_row as R}
use Rattle.addr2line_c.proofs.handle.Handle.TheLaws.{lowers}
use Rattle.addr2line_c.specs.contracts.handle.Handle.file_mut as f
use Rattle.addr2line_c.proofs.handle.Handle.file_mut.Statement.{statement}
use Rattle.addr2line_c.proofs.handle.Handle.file_mut.Code as code

abbrev stayed : Stays f.ended.signature.params f.ended.kept
stayed = (stay_dropped (mut_ref_to (0 ∷ []) tt (plain (λ _. R))) no, tt)

module _ {M : Type 1} {𝓤 : Ura M} (𝓛 : Logic 𝓤) (h : R.Denot) (rb ro b o : ℕ) where
  -- all of the handle but its file
  abbrev Rest : Fml
  Rest =
      fsep (token (bare (box.τ file_box)) (block_ptr b o))
      (cell_at full_share R.mir (handle_word 1 (block_ptr b o) ∷ []) rb ro)

  back : h.at ≡ block_ptr b o → (t : T.Denot)
      → ent 𝓤 (sep 𝓤 (sem 𝓛 ((mem T).own_at t b o)) (sem 𝓛 Rest)) (sem 𝓛 ((mem R).own_at (with_file h t) rb ro))
  unfolding part_of
  back e t =
      qed 𝓛 (‵ (part_at T full_share t b o) ∷ ‵ Rest ∷ []) ∵ move ! (1 ∷ []) $ fsplit ! $ move ! (2 ∷ 0 ∷ []) $
      fjoin ! $
      rewrite ! 0 (λ (p : Ptr). ‵ (box_owns token T p t)) (sym e) refl $
      rewrite ! 1 (λ (p : Ptr). ‵ (cell_at full_share R.mir (handle_word 1 p ∷ []) rb ro)) (sym e) refl $
      use0 𝓛 (‵ (Stored.own_val (1, (h.at, tt)) (handle_word 1 h.at ∷ []))) (stores 𝓛 1 h.at (lit< tt)) $ fjoin ! $
      move ! (1 ∷ 0 ∷ []) $ fjoin ! $
      fpack ! (List Val) (λ us. fsep (cell_at full_share R.mir us rb ro) (R.own_val (with_file h t) us))
      (handle_word 1
      h.at ∷ []) $ done !

pub file_mut_spec : {M : Type 1} → statement M
file_mut_spec 𝓤 𝓛 𝓜 𝓡 wired =
    let H = 𝓛.H in let c = f.clauses 𝓛 𝓜.mem 𝓡.returns in let 𝓣 = tables 𝓤 H 𝓜 𝓡 𝓡.env in let fn = code.function in
    proved 𝓛 f.ended stayed c 𝓜 𝓡 (Goes-spent_ref 𝓛 1 (0 ∷ []) tt (plain (λ _. R)), tt)
    f.Key.name fn (code.unfolded 𝓤 H 𝓜 𝓡 wired) (λ κs. (mut_vals, tt)) (λ κs. (mut_Tells (named 0) κs.0 R, tt)) (λ
    κs qs bounds a _ are.
    let κ = κs.0 in let q = qs.0 in let r = a.0 in let rb = r.ref_ptr.0 in let ro = r.ref_ptr.1 in let h = r.now in
    let vs = mut_vals r in let W = walk_of 𝓛 f.ended stayed c in
    let z : W.Ghost = ((κs, qs, bounds, a, (vs, tt)), tt) in
    qed 𝓛 (((‵ (flft κ q) ⊛ ‵ ftrue) ⊛ ‵ ((MutRef (named 0) κ R).own_val r vs) ⊛ ‵ ftrue) ∷ raw (fact 𝓤 (h.opened ≡
    1)) ∷ []) ∵
    move ! (1 ∷ []) $ heard ! _ (λ is_open. split ! $ split ! $ move ! (2 ∷ []) $ split ! $ keep ! (0 ∷ 2 ∷ []) $
    enter ! 𝓣.C 𝓣.Λ fn vs (W.post z) $ alloc_all ! (λ l. pass_all ! refl ((tt, tt), tt) $
    fsplit3 ! $ drop ! $ move ! (0 ∷ 1 ∷ 2 ∷ []) $ opens ! tt R rb ro (λ ts. move ! (1 ∷ []) $
    peeks ! R _ (shows 𝓛 R) h ts (λ is. fsplit ! $ drop ! $
    rewrite ! 0 (λ (n : ℕ). ‵ (owns_file n h.at h.file)) is_open refl $
    in_a_block ! h.at (λ p. box_owns token T p h.file) (fst∗ 𝓤 (never 𝓤) (sem 𝓛 (token (bare (box.τ file_box))
    null_ptr)))
    (λ b o e. let at = block_ptr b o in
    rewrite ! 1 (λ (xs : List Val). ‵ (cell_at full_share R.mir xs rb ro)) (lowers.val_is h ts is ∙ (λ i.
    handle_word
    (is_open i) (e i) ∷ [])) refl $ fsplit ! $
    -- [the file; the right to free it; the handle's cell; the open borrow, in three entries]
    first ! $ blocks ! $
    sets ! (of_opd ! (load ! (through ! refl (fld ! refl (stop !))) (look_in ! 2 (sub ! 1 refl (whole !))))) refl
    (tt, tt) $ sets ! (of_opd ! (get ! refl)) refl (tt, tt) $
    sets_last ! (addr ! (through ! refl (stop !))) refl (tt, tt) $
    exec ! 𝓣.C 𝓣.Λ (env fn.locals l) (tail fn.body) (at_ret (env fn.locals l) (W.post z)) $
    sets ! (of_opd ! (get ! refl)) refl (tt, tt) $
    move ! (1 ∷ 2 ∷ []) $ fjoin ! $ move ! (2 ∷ 3 ∷ 4 ∷ 1 ∷ 0 ∷ []) $ group ! 5 $
    use1 𝓛 (later (some (λ (γ : GName). raw (Part 𝓛 R T (with_file h) (named 0) κ q rb ro b o r.ghost_name (sem 𝓛
    (Rest 𝓛 h rb ro b o)) (back 𝓛 h rb ro b o e) h.file γ))))
    (lends_Part 𝓛 R T (with_file h) (named 0) κ q rb ro b o r.ghost_name (sem 𝓛 (Rest 𝓛 h rb ro b o)) (back 𝓛 h rb
    ro b o e) (R.coded.code h) (R.coded.code h) h.file) $ await ! tt $ pick ! (λ γ.
    returns ! (look_at ! 0 refl) $ free_all ! refl $
    use1 𝓛 (‵ ((MutRef (named 0) κ T).own_val (record {
      ref_ptr = (b, o);
      ghost_name = γ;
      now = h.file;
    }) (vptr b o ∷ [])) ⊛ (‵ (flft κ q) ⊛ ‵ (follows R T r.ghost_name γ (with_file h)))) (id⊢ 𝓤 _) $
    split ! $ move ! (1 ∷ []) $ split ! $
    keep ! (2 ∷ 0 ∷ 1 ∷ []) $ suffices ! _ (ends_at 𝓛 f.ended stayed c z (vptr b o) (record {
      ref_ptr = (b, o);
      ghost_name = γ;
      now = h.file;
    }) (tt, tt) (tt, tt)) $
    nothing ! $ nothing ! $ fjoin ! $ join ! $ nothing ! $ move ! (2 ∷ 0 ∷ []) $ join ! $ join ! $ frame ! $
    says ! refl $ done !)))))))
