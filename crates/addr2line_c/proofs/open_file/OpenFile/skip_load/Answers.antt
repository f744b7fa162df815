use Rattle.std.proofs.Common.{rules, refl, ◌∙◌, slice_get, w32}
use Rattle.std.proofs.lemmas.Int.{to_z-of_z}
use Rattle.addr2line_c.proofs.LoadNumbers.{at_number, past_them, skips, skips_none}
use Rattle.addr2line_c.proofs.open_file.OpenFile.skip_load.Goals as goal

pub returns-in-Some : goal.returns-in-Some
returns-in-Some c =
    let load = c.in-Some.item.now in
    let old = c.args.self.now in
    let lookup = c.in-Some.ensures.lookup in
    skips (slice_get old.loads.items c.args.number) load old _ _
    (at_number old.loads.items c.deref.result.now c.args.number load c.deref.ensures.value lookup.1 lookup.3.0)
    (record {
      done = c.answer_load.result;
      answers = c.answer_load.ensures.answers;
      number = to_z-of_z w32 c.done_number.result (search rules) ∙ c.done_number.ensures;
      file_is = c.answer_load.ensures.same;
      same = refl;
    })

pub returns-in-None : goal.returns-in-None
returns-in-None c =
    let old = c.args.self.now in
    skips_none (slice_get old.loads.items c.args.number) old
    (past_them old.loads.items c.deref.result.now c.args.number c.deref.ensures.value c.in-None.ensures.lookup.3)
