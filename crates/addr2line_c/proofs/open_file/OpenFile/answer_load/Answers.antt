use Rattle.std.proofs.Common.{rules, option_map, refl, ap, ◌∙◌, slice_get, w32}
use Rattle.std.proofs.lemmas.Int.{to_z-of_z}
use Rattle.addr2line_c.specs.Numbers.{error_number}
use Rattle.addr2line_c.proofs.LoadNumbers.{at_number, decided, no_memory, wrong_file}
use Rattle.addr2line_c.proofs.open_file.OpenFile.answer_load.Goals as goal

pub returns-in-Ok-Some : goal.returns-in-Ok-Some
returns-in-Ok-Some c =
    let load = c.in-Some.item.now in
    let old = c.args.self.now in
    let lookup = c.in-Some.ensures.lookup in
    decided c.args.bytes (slice_get old.loads.items c.args.number) load old
    (at_number old.loads.items c.deref.result.now c.args.number load c.deref.ensures.value lookup.1 lookup.3.0)
    c.in-Ok-Some.file.value.file _ _
    (c.in-Ok-Some.ensures.file ∙ ap (option_map (λ d. d.value.file)) c.in-Ok-Some.field-0-is)
    (record {
      done = c.answer_load.result;
      answers = c.answer_load.ensures.answers;
      number = to_z-of_z w32 c.done_number.result (search rules) ∙ c.done_number.ensures;
      file_is = c.answer_load.ensures.same;
      same = refl;
    })

pub returns-in-Ok-None : goal.returns-in-Ok-None
returns-in-Ok-None c =
    let load = c.in-Some.item.now in
    let old = c.args.self.now in
    let lookup = c.in-Some.ensures.lookup in
    wrong_file c.args.bytes (slice_get old.loads.items c.args.number) load old
    (at_number old.loads.items c.deref.result.now c.args.number load c.deref.ensures.value lookup.1 lookup.3.0)
    (c.in-Ok-None.ensures.file ∙ ap (option_map (λ d. d.value.file)) c.in-Ok-None.field-0-is)

pub returns-in-Err : goal.returns-in-Err
returns-in-Err c =
    let load = c.in-Some.item.now in
    let old = c.args.self.now in
    let lookup = c.in-Some.ensures.lookup in
    no_memory c.args.bytes (slice_get old.loads.items c.args.number) load old
    (at_number old.loads.items c.deref.result.now c.args.number load c.deref.ensures.value lookup.1 lookup.3.0) _
    (to_z-of_z w32 c.error_number.result (search rules) ∙ c.error_number.ensures
    ∙ ap error_number c.in-Err.ensures.memory)
