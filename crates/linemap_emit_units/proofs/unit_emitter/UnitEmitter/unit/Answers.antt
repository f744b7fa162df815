use Rattle.std.proofs.Common.{◌≡◌, [], true, length, map, ap, subst, sym, ◌∙◌}
use Rattle.gimli_lines_write_tables.specs.Encoding.{Encoding}
use Rattle.gimli_lines_write_tables.specs.NumberParsers.{is_address_size}
use Rattle.gimli_lines_write_tables.specs.StringSections.{IsText}
use Rattle.linemap_emit_programs.specs.TableViews.{function_part, unit_part}
use Rattle.linemap_emit_units.specs.InlinedNames.{called_names, with_texts, FunctionNamesAre, IsAmong}
use Rattle.linemap_emit_units.specs.UnitEmission.{CanEmitFunctions}
use Rattle.linemap_emit_units.proofs.EmittedCallLemmas.{abstract_keeps}
use Rattle.linemap_emit_units.proofs.InlinedNameLemmas.{unit_names_are, unit_names_are_texts}
use Rattle.linemap_emit_units.proofs.unit_emitter.UnitEmitter.unit.Goals as goal

pub names_of-requires : goal.names_of-requires
names_of-requires c =
    subst (λ l. FunctionNamesAre IsText (map function_part l)) (sym c.deref.ensures.value)
    (unit_names_are_texts c.args.self.now.encoding.address_size (unit_part c.args.unit.now) c.requires.can_emit)

pub functions-requires-clause-size : goal.functions-requires-clause-size
functions-requires-clause-size c =
    subst (λ (e : Encoding). is_address_size e.address_size ≡ true)
    (sym (ap (λ x. x.encoding) c.in_ok-abstract_functions.ensures.ok
    ∙ abstract_keeps c.in_ok-names.names c.root.new.self
    ∙ ap (λ x. x.encoding) c.in_ok-root.ensures.ok)) c.requires.size

pub functions-requires-clause-can_emit : goal.functions-requires-clause-can_emit
functions-requires-clause-can_emit c =
    subst (λ (e : Encoding). CanEmitFunctions e.address_size (length c.args.ids.now)
    (map function_part c.deref-2.result.now))
    (sym (ap (λ x. x.encoding) c.in_ok-abstract_functions.ensures.ok
    ∙ abstract_keeps c.in_ok-names.names c.root.new.self
    ∙ ap (λ x. x.encoding) c.in_ok-root.ensures.ok))
    (subst (λ l. CanEmitFunctions c.args.self.now.encoding.address_size (length c.args.ids.now) (map function_part l))
    (sym c.deref-2.ensures.value)
    (subst (λ n. CanEmitFunctions c.args.self.now.encoding.address_size n (unit_part c.args.unit.now).functions)
    (sym c.requires.ids) c.requires.can_emit.2))

pub functions-requires-clause-among : goal.functions-requires-clause-among
functions-requires-clause-among c =
    let among = unit_names_are (unit_part c.args.unit.now) in
    subst (λ l. FunctionNamesAre (IsAmong c.in_ok-names.names) (map function_part l)) (sym c.deref-2.ensures.value)
    (subst (λ names. FunctionNamesAre (IsAmong names) (map function_part c.args.unit.now.functions.items))
    (sym (c.in_ok-names.ensures.ok
    ∙ ap (λ l. with_texts [] (called_names (map function_part l))) c.deref.ensures.value)) among)
