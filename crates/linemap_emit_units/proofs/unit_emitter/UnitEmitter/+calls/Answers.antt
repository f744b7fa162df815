use Rattle.std.proofs.Common.{drop, length, ◌==◌, ap, not, sym, subst, ◌+◌, ◌∙◌}
use Rattle.linemap_emit_programs.specs.EmittedFiles.{file_number}
use Rattle.linemap_emit_programs.specs.TableViews.{call_part, calls_part}
use Rattle.linemap_emit_programs.specs.TableCall.TheViews.{out-TableCall}
use Rattle.linemap_emit_units.specs.InlinedNames.{NamesAre, IsAmong}
use Rattle.linemap_emit_units.specs.UnitEmission.{with_call, with_calls, CanEmitCalls}
use Rattle.linemap_emit_programs.proofs.AddedFiles.{first_left}
use Rattle.linemap_emit_units.proofs.EmittedCallLemmas.{call_emitted, some_in}
use Rattle.linemap_emit_units.proofs.unit_emitter.UnitEmitter.+calls.Goals as goal

pub loop-call-preserved : goal.loop-call-preserved
loop-call-preserved n c =
    let cs = c.args.calls.now in
    let names = c.args.names.now in
    let count = length c.args.files.now in
    let number = file_number c.args.version c.args.files.now in
    let call = c.call-item.result in
    let rest = drop (c.loop-call.call-index + 1) cs in
    let here = first_left cs c.loop-call.call-index call c.loop-call-test.true c.call-item.is in
    let so_far = c.loop-call.invariant in
    let after_call = c.in_ok-call.ensures.same ∙ so_far.0 in
    let step =
    call_emitted c.args.self.now.encoding.address_size count number names call rest c.loop-call.self c.call.new.self
    c.calls.new.self
    c.close.new.self (with_calls number names (calls_part cs) c.args.self.now) (not c.is_empty-has_children.result)
    (ap not c.is_empty-has_children.ensures ∙ ap (λ n. not (n == 0))
    (sym c.deref.ensures.len ∙ ap length c.deref.ensures.value) ∙ sym (some_in call))
    (c.in_ok-call.ensures.ok
    ∙ ap (λ ns. with_call number ns (not c.is_empty-has_children.result) (call_part call).site c.loop-call.self)
    so_far.0)
    (c.in_ok-calls.ensures.ok ∙ ap (λ l. with_calls number c.call.new.names (calls_part l) c.call.new.self)
    c.deref.ensures.value
    ∙ ap (λ ns. with_calls number ns (calls_part (out-TableCall call).calls.items) c.call.new.self) after_call)
    c.in_ok-close.ensures.ok
    (subst (λ l. CanEmitCalls c.args.self.now.encoding.address_size count (calls_part l)) here so_far.2)
    (subst (λ l. NamesAre (IsAmong names) (calls_part l)) here so_far.3)
    (ap (λ l. with_calls number names (calls_part l) c.loop-call.self) (sym here) ∙ so_far.4) in
    (c.in_ok-calls.ensures.same ∙ after_call, step.0 ∙ so_far.1, step.1, step.2, step.3)
