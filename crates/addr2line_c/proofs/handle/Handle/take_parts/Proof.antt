-- The pointer of the handle becomes that of parts, which take over what it owns.
use Rattle.std.proofs.Common.{◌≡◌, ℕ, List, [], ◌∷◌, ◌++◌, refl, sym, ◌∙◌, subst, lit<}
use mir.Syntax.{named}
use mir.Val.{Val, vptr}
use base.Logic.{SProp, ent, id⊢, never, fst∗}
use base.Fraction.{full_share}
use base.Fml.{ftrue, fsep, flft}
use prog.Wp.{WpFn}
use types.Logic.{sem}
use types.Kit.{‵, raw, ◌⊛◌, ◌$◌, ◌∵◌, !, qed, move, keep, drop, use0, use1, split, join, fsplit, fsplit3}
use types.Kit.{fjoin, rewrite, suffices, frame, group, done}
use types.Part.{sub, whole, look_in, store_in, agg}
use types.Run.{stop, fld, load, of_opd, lit, assigns, no_more, and_then, returns, enter}
use types.ByLocal.{alloc_all, pass_all, free_all, look_at, get, through, sets}
use contract.Monad.{fact}
use contract.Running.{tables}
use denote.Exit.{yes}
use denote.Laws.{shows}
use denote.Memory.{cell_at}
use denote.RawPtr.{block_ptr, null_ptr, in_a_block}
use denote.Ref.{MutRef}
use denote.Signature.{plain}
use denote.Steps.{nothing, heard, opens, closes, peeks}
use denote.Triple.Walked.{Stays, walk_of, stay_ref, stay_dropped, Goes-ref, Goes-dropped, ends_at}
use Rattle.core.proofs.mem.Facts.{says_two}
use Rattle.std.proofs.raw_atomic.Walks.{proved_at}
use mir.Raw.{raw as bare}
use Rattle.core.proofs.alloc.Calls.{handle_tells}
use Rattle.std_heap.specs.contracts.Global as Heap
use Rattle.addr2line_c.specs.contracts.open_file.OpenFile as open_file
use Rattle.std_alloc.specs.Box.Ownership.{box_owns}
use Rattle.std_alloc.proofs.BoxSteps.Form as box
use Rattle.std_alloc.proofs.BoxSteps.Steps.{box_in}
use Rattle.addr2line_c.specs.Handles.{owns_file, token}
use Rattle.addr2line_c.proofs.HandleFields.{file_box, BoxParts, Stored, handle_word, stores}
use Rattle.addr2line_c.specs.contracts.handle.Handle.{the_row as R}
use Rattle.addr2line_c.proofs.handle.Handle.TheLaws.{lowers}
use Rattle.addr2line_c.specs.contracts.handle.Handle.take_parts as f
use Rattle.addr2line_c.proofs.handle.Handle.take_parts.Statement.{statement}
use Rattle.addr2line_c.proofs.handle.Handle.take_parts.Code as code

abbrev stayed : Stays f.ended.signature.params f.ended.kept
stayed = (stay_ref (0 ∷ []) tt (plain (λ _. R)), (stay_dropped (plain (λ _. Heap.the_row)) yes, tt))

pub take_parts_spec : {M : Type 1} → statement M
take_parts_spec 𝓤 𝓛 𝓜 𝓡 wired =
    let H = 𝓛.H in let c = f.clauses 𝓛 𝓜.mem 𝓡.returns in let 𝓣 = tables 𝓤 H 𝓜 𝓡 𝓡.env in let fn = code.function in
    proved_at 𝓛 f.ended stayed c 𝓜 𝓡 (
      Goes-ref 𝓛 1 0 tt (plain (λ _. R)),
      (
        Goes-dropped 𝓛 1 (plain (λ _.
            Heap.the_row)) yes (λ κs x f. refl),
        tt,
      ),
    )
    f.Key.name fn (code.unfolded 𝓤 H 𝓜 𝓡 wired) (λ z are.
    let κ = z.0.0.0 in let q = z.0.1.0 in let r = z.0.3.0 in let b = r.ref_ptr.0 in let o = r.ref_ptr.1 in
    let h = r.now in let a = z.0.3.1.0 in
    let Post : Val → SProp 𝓤 = (walk_of 𝓛 f.ended stayed c).post z in
    let Run : List Val → SProp 𝓤 = λ ws. WpFn 𝓤 H 𝓣.C 𝓣.Λ fn ws Post in
    qed 𝓛 (((‵ (flft κ q) ⊛ ‵ ftrue) ⊛ ‵ (fsep ((MutRef (named 0) κ R).own_val r z.0.4.0) (fsep
    (Heap.the_row.own_val a z.0.4.1.0) ftrue))) ∷ raw (fact 𝓤 (h.opened ≡ 1)) ∷ []) ∵
    move ! (1 ∷ []) $ heard ! _ (λ is_open. split ! $ move ! (1 ∷ []) $ fsplit3 ! $ move ! (1 ∷ []) $
    handle_tells file_box.al ! a z.0.4.1.0 (λ hv eh fa. let us : List Val = vptr b o ∷ hv ∷ [] in
    suffices ! (Run us) (subst (λ (xs : List Val). ent 𝓤 (Run us) (Run xs)) (sym (λ i. are.0.0 i ++ (eh i ++ [])))
    (id⊢ 𝓤 (Run us))) $
    enter ! 𝓣.C 𝓣.Λ fn us Post $ alloc_all ! (λ l. pass_all ! refl ((tt, tt), (fa, tt)) $
    -- [the handle; self; nothing; the token]
    move ! (1 ∷ []) $ fsplit3 ! $ move ! (5 ∷ []) $ split ! $ move ! (3 ∷ 4 ∷ 0 ∷ []) $
    opens ! tt R b o (λ ts. move ! (1 ∷ []) $ peeks ! R _ (shows 𝓛 R) h ts (λ is. fsplit ! $ drop ! $
    rewrite ! 0 (λ (n : ℕ). ‵ (owns_file n h.at h.file)) is_open refl $
    in_a_block ! h.at (λ p. box_owns token open_file.the_row p h.file) (fst∗ 𝓤 (never 𝓤) (sem 𝓛 (token (bare (box.τ
    file_box)) null_ptr))) (λ b' o' e. let at = block_ptr b' o' in
    rewrite ! 1 (λ (xs : List Val). ‵ (cell_at full_share R.mir xs b o)) (lowers.val_is h ts is ∙ (λ i. handle_word
    (is_open i) (e i) ∷ [])) refl $
    -- [the box; the handle's cell; the open borrow, in three entries; nothing; the reference; the allocator]
    assigns ! (of_opd ! (lit ! tt)) (through ! refl (fld ! refl (stop !))) (store_in ! 1 (sub ! 0 refl (whole !))
    (tt, record { fits = lit< tt })) $
    sets ! (of_opd ! (load ! (through ! refl (fld ! refl (stop !))) (look_in ! 1 (sub ! 1 refl (whole !))))) refl
    (tt, tt) $ sets ! (of_opd ! (get ! refl)) refl (tt, tt) $
    sets ! (agg ! (and_then ! (get ! refl) (and_then ! (get ! refl) (no_more !)))) refl (box.box_typed file_box hv
    b' o'
    fa) $
    let now : R.Denot = record { opened = 0; at = at; file = h.file } in
    let v : box.D file_box = record { ptr = at; alloc = a; value = h.file } in
    let parts : BoxParts.Denot = record { pointer = at; alloc = a; content = h.file } in
    let w : Val = box.word file_box hv b' o' in
    nothing ! $ use0 𝓛 (‵ (Stored.own_val (0, (at, tt)) (handle_word 0 at ∷ []))) (stores 𝓛 0 at (lit< tt)) $
    fjoin ! $
    move ! (2 ∷ 0 ∷ 3 ∷ 4 ∷ 5 ∷ []) $ closes ! tt R now (handle_word 0 at ∷ []) b o $
    returns ! (look_at ! 0 refl) $ free_all ! refl $
    move ! (3 ∷ []) $ fsplit ! $ move ! (0 ∷ 1 ∷ 7 ∷ []) $ box_in file_box ! v b' o' h.file refl refl $
    use1 𝓛 (‵ (BoxParts.own_val parts (w ∷ []))) (id⊢ 𝓤 _) $ keep ! (5 ∷ 1 ∷ 2 ∷ 0 ∷ 3 ∷ []) $
    suffices ! _ (ends_at 𝓛 f.ended stayed c z w parts (now, (tt, tt)) (tt, (tt, tt))) $ says_two ! (refl, refl) $
    group ! 3 $ nothing ! $ nothing ! $ join ! $ move ! (1 ∷ 0 ∷ []) $ join ! $ nothing ! $ move ! (3 ∷ 0 ∷ []) $
    join ! $ frame ! $ frame ! $ done !)))))))
