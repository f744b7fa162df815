use Rattle.std.proofs.Common.{◌≡◌, ◌∙◌, sym, subst, map, length, List, Ok, Err, None}
use Rattle.std.proofs.lemmas.Result.{err_from_is_err_and}
use Rattle.addr2line_lookups.specs.CachedFiles.{CachedFile}
use Rattle.addr2line_lookups.specs.ArangeIndexes.{IsIndexOf, fault_of_sets}
use Rattle.addr2line_lookups.specs.DwarfFiles.{supplement}
use Rattle.addr2line_lookups.specs.Contexts.{units_of_supplement, file_context}
use Rattle.addr2line_lookups.specs.FirstAnswers.{no_answers}
use Rattle.addr2line_lookups.specs.ResolvedUnits.{ResolvedUnit, value_of_unit, plain_unit, RunForRangesAlone}
use Rattle.addr2line_context.proofs.ContextParts.{made_units, refused_units, file_context_of_parts, supplement_refused, units_refused, file_context_with}
use Rattle.addr2line_lookups.specs.AnsweredUnits.{answers_of}
use Rattle.addr2line_context.specs.KeptContexts.{HoldsUnits}
use Rattle.addr2line_context.proofs.KeptUnits.{holds_new}
use Rattle.addr2line_context.proofs.NewContexts.{new_without_answers}
use Rattle.addr2line_context.proofs.context.Context.from_arc_dwarf.Goals as goal

pub units_of_file-requires : goal.units_of_file-requires
units_of_file-requires g c =
    subst (λ (s : CachedFile). IsIndexOf s.file c.in_ok-aranges.aranges) c.as_ref-dwarf.ensures
    c.in_ok-aranges.ensures.ranges

pub returns-in_err-units-clause-context : goal.returns-in_err-units-clause-context
returns-in_err-units-clause-context g c =
    let p = err_from_is_err_and c.from_residual-in_err-units.result c.from_residual-in_err-units.ensures.1 in
    rw (p.1, p.2) (λ m.
    units_refused c.args.sections.value.file _
    (subst (λ (s : CachedFile). fault_of_sets s.file ≡ None) c.as_ref-dwarf.ensures
    (sym c.in_ok-aranges.ensures.fault ∙ c.in_ok-check.ensures.ok))
    (refused_units c.args.sections.value.file _ (c.in_err-units.ensures.units m)))

pub returns-in_err-supplement_units-clause-context : goal.returns-in_err-supplement_units-clause-context
returns-in_err-supplement_units-clause-context g c =
    let p =
    err_from_is_err_and c.from_residual-in_err-supplement_units.result
    c.from_residual-in_err-supplement_units.ensures.1 in
    rw (p.1, p.2) (λ m.
    supplement_refused c.args.sections.value.file (map plain_unit c.in_ok-units.units.items) _
    (subst (λ (s : CachedFile). fault_of_sets s.file ≡ None) c.as_ref-dwarf.ensures
    (sym c.in_ok-aranges.ensures.fault ∙ c.in_ok-check.ensures.ok))
    (made_units c.args.sections.value.file c.in_ok-units.units.items c.in_ok-units.ensures.units)
    (subst (λ (s : CachedFile). units_of_supplement (supplement s.file) ≡ Err c.in_err-supplement_units.field-0.0)
    c.as_ref-dwarf.ensures (c.in_err-supplement_units.ensures m)))

pub returns-clause-context : goal.returns-clause-context
returns-clause-context g c =
    subst (λ (us : List ResolvedUnit). file_context c.args.sections.value.file
    ≡ Ok (file_context_with c.args.sections.value.file us c.in_ok-supplement_units.supplement_units.items))
    (sym c.in_ok-kept.ensures.ok)
    (file_context_of_parts c.args.sections.value.file (map plain_unit c.in_ok-units.units.items)
    c.in_ok-supplement_units.supplement_units.items
    (subst (λ (s : CachedFile). fault_of_sets s.file ≡ None) c.as_ref-dwarf.ensures
    (sym c.in_ok-aranges.ensures.fault ∙ c.in_ok-check.ensures.ok))
    (made_units c.args.sections.value.file c.in_ok-units.units.items c.in_ok-units.ensures.units)
    (subst (λ (s : CachedFile). units_of_supplement (supplement s.file)
    ≡ Ok c.in_ok-supplement_units.supplement_units.items)
    c.as_ref-dwarf.ensures c.in_ok-supplement_units.ensures))

pub returns-clause-answers : goal.returns-clause-answers
returns-clause-answers g c =
    subst (λ (us : List ResolvedUnit). answers_of (map value_of_unit us) ≡ no_answers (length (map plain_unit us)))
    (sym c.in_ok-kept.ensures.ok)
    (new_without_answers c.args.sections.value.file c.in_ok-units.units.items c.in_ok-units.ensures.units)

pub returns-clause-lines : goal.returns-clause-lines
returns-clause-lines g c = subst RunForRangesAlone (sym c.in_ok-kept.ensures.ok) c.in_ok-units.ensures.lines

pub invariant_of-result : goal.invariant_of-result
invariant_of-result g c =
    let file = c.args.sections.value.file in
    let supplement_units = c.in_ok-supplement_units.supplement_units.items in
    let f = c.none.result in
    let u = c.none-2.result in
    subst (λ (us : List ResolvedUnit). HoldsUnits file supplement_units us f u) (sym c.in_ok-kept.ensures.ok)
    (holds_new file supplement_units c.in_ok-units.units.items c.in_ok-units.ensures.units
    (subst (λ (s : CachedFile). units_of_supplement (supplement s.file) ≡ Ok supplement_units) c.as_ref-dwarf.ensures
    c.in_ok-supplement_units.ensures)
    c.in_ok-units.ensures.functions f u c.none.ensures c.none-2.ensures)
