use Rattle.std.proofs.Common.{drop, ap, subst, sym, ◌+◌, ◌∙◌}
use Rattle.gimli_lines_write_tables.specs.StringSections.{IsText}
use Rattle.linemap_emit_programs.specs.TableViews.{calls_part}
use Rattle.linemap_emit_units.specs.InlinedNames.{call_names, with_texts, NamesAre}
use Rattle.linemap_emit_programs.proofs.AddedFiles.{first_left}
use Rattle.linemap_emit_units.proofs.EmittedCallLemmas.{call_named}
use Rattle.linemap_emit_units.proofs.inlined_names.+add_names.Goals as goal

pub loop-call-preserved : goal.loop-call-preserved
loop-call-preserved n c =
    let cs = c.args.calls.now in
    let call = c.call-item.result in
    let rest = drop (c.loop-call.call-index + 1) cs in
    let here = first_left cs c.loop-call.call-index call c.loop-call-test.true c.call-item.is in
    let so_far = c.loop-call.invariant in
    call_named call rest c.loop-call.names c.add_name.new.names c.add_names.new.names
    (with_texts c.args.names.now (call_names (calls_part cs))) c.in_ok-add_name.ensures.ok
    (c.in_ok-add_names.ensures.ok
    ∙ ap (λ l. with_texts c.add_name.new.names (call_names (calls_part l))) c.deref.ensures.value)
    (subst (λ l. NamesAre IsText (calls_part l)) here so_far.0)
    (ap (λ l. with_texts c.loop-call.names (call_names (calls_part l))) (sym here) ∙ so_far.1)
