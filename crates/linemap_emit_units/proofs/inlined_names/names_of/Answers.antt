use Rattle.std.proofs.Common.{drop, map, ap, subst, sym, ◌+◌, ◌∙◌}
use Rattle.gimli_lines_write_tables.specs.StringSections.{IsText}
use Rattle.linemap_emit_programs.specs.TableViews.{calls_part, function_part}
use Rattle.linemap_emit_units.specs.InlinedNames.{call_names, called_names, with_texts, NamesAre, FunctionNamesAre}
use Rattle.linemap_emit_programs.proofs.AddedFiles.{first_left}
use Rattle.linemap_emit_units.proofs.InlinedNameLemmas.{with_texts-append}
use Rattle.linemap_emit_units.proofs.inlined_names.names_of.Goals as goal

pub add_names-requires : goal.add_names-requires
add_names-requires c =
    let fs = c.args.functions.now in
    let function = c.function-item.result in
    let here = first_left fs c.loop-function.function-index function c.loop-function-test.true c.function-item.is in
    subst (λ l. NamesAre IsText (calls_part l)) (sym c.deref.ensures.value)
    (subst (λ l. FunctionNamesAre IsText (map function_part l)) here c.loop-function.invariant.0).0

pub loop-function-preserved : goal.loop-function-preserved
loop-function-preserved c =
    let fs = c.args.functions.now in
    let function = c.function-item.result in
    let rest = drop (c.loop-function.function-index + 1) fs in
    let here = first_left fs c.loop-function.function-index function c.loop-function-test.true c.function-item.is in
    let own = call_names (calls_part function.calls.items) in
    let later = called_names (map function_part rest) in
    let so_far = c.loop-function.invariant in (
      (subst (λ l. FunctionNamesAre IsText (map function_part l)) here so_far.0).1,
      ap (λ l. with_texts l later)
          (c.in_ok-add_names.ensures.ok
          ∙ ap (λ l. with_texts c.loop-function.names (call_names (calls_part l))) c.deref.ensures.value)
          ∙ sym (with_texts-append c.loop-function.names own later)
          ∙ ap (λ l. with_texts c.loop-function.names (called_names (map function_part l))) (sym here) ∙ so_far.1,
    )
