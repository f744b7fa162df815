use Rattle.std.proofs.Common.{drop, length, ◌==◌, ap, map, not, sym, subst, ◌+◌, ◌∙◌}
use Rattle.linemap_emit_programs.specs.EmittedFiles.{file_number}
use Rattle.linemap_emit_programs.specs.TableViews.{calls_part, function_part}
use Rattle.linemap_emit_units.specs.InlinedNames.{NamesAre, FunctionNamesAre, IsAmong}
use Rattle.linemap_emit_units.specs.UnitEmission.{with_calls, with_functions, CanEmitFunctions}
use Rattle.linemap_emit_programs.proofs.AddedFiles.{first_left}
use Rattle.linemap_emit_units.proofs.EmittedCallLemmas.{function_emitted, some_calls}
use Rattle.linemap_emit_units.proofs.unit_emitter.UnitEmitter.functions.Goals as goal

pub calls-requires-clause-among : goal.calls-requires-clause-among
calls-requires-clause-among c =
    let fs = c.args.functions.now in
    let function = c.function-item.result in
    let here = first_left fs c.loop-function.function-index function c.loop-function-test.true c.function-item.is in
    let so_far = c.loop-function.invariant in
    subst (λ names. NamesAre (IsAmong names) (calls_part c.deref.result.now)) (sym so_far.0)
    (subst (λ l. NamesAre (IsAmong c.args.names.now) (calls_part l)) (sym c.deref.ensures.value)
    (subst (λ l. FunctionNamesAre (IsAmong c.args.names.now) (map function_part l)) here so_far.3).0)

pub loop-function-preserved : goal.loop-function-preserved
loop-function-preserved c =
    let fs = c.args.functions.now in
    let names = c.args.names.now in
    let count = length c.args.files.now in
    let number = file_number c.args.version c.args.files.now in
    let function = c.function-item.result in
    let rest = drop (c.loop-function.function-index + 1) fs in
    let here = first_left fs c.loop-function.function-index function c.loop-function-test.true c.function-item.is in
    let so_far = c.loop-function.invariant in
    let step =
    function_emitted c.args.self.now.encoding.address_size count number names (function_part function)
    (map function_part rest)
    c.loop-function.self c.function.new.self c.calls.new.self c.close.new.self
    (with_functions number names (map function_part fs) c.args.self.now) (not c.is_empty-has_children.result)
    (ap not c.is_empty-has_children.ensures
    ∙ ap (λ n. not (n == 0)) (sym c.deref.ensures.len ∙ ap length c.deref.ensures.value)
    ∙ sym (some_calls function.calls.items)) c.in_ok-function.ensures.ok
    (c.in_ok-calls.ensures.ok
    ∙ ap (λ l. with_calls number c.loop-function.names (calls_part l) c.function.new.self) c.deref.ensures.value
    ∙ ap (λ ns. with_calls number ns (calls_part function.calls.items) c.function.new.self) so_far.0)
    c.in_ok-close.ensures.ok
    (subst (λ l. CanEmitFunctions c.args.self.now.encoding.address_size count (map function_part l)) here so_far.2)
    (subst (λ l. FunctionNamesAre (IsAmong names) (map function_part l)) here so_far.3)
    (ap (λ l. with_functions number names (map function_part l) c.loop-function.self) (sym here) ∙ so_far.4) in
    (c.in_ok-calls.ensures.same ∙ so_far.0, step.0 ∙ so_far.1, step.1, step.2, step.3)
