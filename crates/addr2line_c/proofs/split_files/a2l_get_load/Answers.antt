use Rattle.std.proofs.Common.{ap, ◌∙◌, slice_get}
use Rattle.addr2line_c.proofs.LoadNumbers.{at_number, past_them, writes, none_number}
use Rattle.addr2line_c.proofs.split_files.a2l_get_load.Goals as goal

pub returns-in-Some-clause-load : goal.returns-in-Some-clause-load
returns-in-Some-clause-load c =
    let loads = c.args.handle.now.file.loads.items in
    let load = c.in-Some.item.now in
    let lookup = c.in-Some.ensures.lookup in
    λ ok. writes (slice_get loads c.args.number) load _
    (at_number loads c.as_slice-loads.result.now c.args.number load
    (c.as_slice-loads.ensures.value ∙ ap (λ f. f.loads.items) c.file.ensures.file
    ∙ ap (λ h. h.file.loads.items) c.state-opened.ensures.same) lookup.1 lookup.3.0)
    c.of.ensures

pub returns-in-None-clause-number : goal.returns-in-None-clause-number
returns-in-None-clause-number c =
    let loads = c.args.handle.now.file.loads.items in
    λ opened. none_number (slice_get loads c.args.number)
    (past_them loads c.as_slice-loads.result.now c.args.number
    (c.as_slice-loads.ensures.value ∙ ap (λ f. f.loads.items) c.file.ensures.file
    ∙ ap (λ h. h.file.loads.items) c.state-opened.ensures.same) c.in-None.ensures.lookup.3)
