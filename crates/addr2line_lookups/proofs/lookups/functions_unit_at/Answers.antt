use Rattle.std.proofs.Common.{ap, sym, subst, ◌∙◌, Option, Some, None, IfSome}
use Rattle.addr2line_unit.specs.EntryReferences.{HoldingUnit}
use Rattle.addr2line_unit.specs.ResolvedUnits.{ResolvedUnit}
use Rattle.addr2line_lookups.specs.KeptUnits.{KeepsFunctionList}
use Rattle.addr2line_lookups.specs.UnitLookups.{unit_if_any}
use Rattle.addr2line_lookups.proofs.SettledUnits.{unit_by_number}
use Rattle.addr2line_lookups.proofs.lookups.functions_unit_at.Goals as goal

pub returns-in-Ok : goal.returns-in-Ok
returns-in-Ok g c = λ kept.
    ap (λ (h : HoldingUnit). Some h.unit) c.holder.view_is
    ∙ sym (ap unit_if_any c.in-Ok.ensures.unit)
    ∙ sym (unit_by_number c.args.units.now c.args.number (Some c.in-Some.unit.now) c.in-Some.ensures)

pub returns-in-Err : goal.returns-in-Err
returns-in-Err g c = λ kept.
    let P : Option ResolvedUnit → Type 0 = λ o. IfSome o KeepsFunctionList in
    sym (ap unit_if_any (c.in-Err.ensures.kept (subst P (sym c.in-Some.ensures) kept)))
    ∙ sym (unit_by_number c.args.units.now c.args.number (Some c.in-Some.unit.now) c.in-Some.ensures)

pub returns-in-None : goal.returns-in-None
returns-in-None g c = λ kept. sym (unit_by_number c.args.units.now c.args.number None c.in-None.ensures)
