use Rattle.std.proofs.Common.{◌≡◌, ◌-◌, false, true, get_or, sym, ◌∙◌, arith}
use Rattle.std.proofs.lemmas.Bool.{ne_eqb, eq-eqb}
use Rattle.addr2line_debug_files.specs.Candidates.{is_slash}
use Rattle.addr2line_debug_files.proofs.FolderLemmas.{folder-shorter, folder-found, folder-none}
use Rattle.addr2line_debug_files.proofs.paths.folder_of.Goals as goal
use Rattle.addr2line_debug_files.proofs.paths.folder_of.Goals.{then-loop-len-test+else-path-len-ne-SLASH, else-loop-len-test}

pub loop-len-preserved : goal.loop-len-preserved
loop-len-preserved c =
    let path = c.args.path.now in
    let len = c.loop-len.len in
    let name : is_slash (get_or path (len - 1) 0) ≡ false = ne_eqb _ _ c.if-path-len-ne-SLASH.true in
    record {
      within = omega arith;
      same = folder-shorter path len (omega arith) (omega arith) name ∙ c.loop-len.invariant.same;
    }

pub returns : goal.returns
returns c =
    let path = c.args.path.now in
    let len = c.loop-len.len in
    elim c.loop-len-test.branch [
      | then-loop-len-test+else-path-len-ne-SLASH w ↦
          let slash : is_slash (get_or path (len - 1) 0) ≡ true = eq-eqb _ _ w.if-path-len-ne-SLASH.false in
          sym (folder-found path len (omega arith) (omega arith) slash) ∙ c.loop-len.invariant.same
      | else-loop-len-test w ↦ folder-none path len (omega arith) ∙ c.loop-len.invariant.same
    ]
