use Rattle.addr2line_context.proofs.SettledContexts.{kept_calls, unit_goes_on, unit_kept, unit_holds, after_unit, unit_settled}
use Rattle.addr2line_context.proofs.context.Context.settle_unit.Goals as goal

pub settle_unit-settled-requires-clause-calls : goal.settle_unit-settled-requires-clause-calls
settle_unit-settled-requires-clause-calls g c =
    kept_calls _ _ _ c.self.invariant _ c.as_slice-supplement_units.ensures.value

pub settle_unit-settled-requires-clause-passed : goal.settle_unit-settled-requires-clause-passed
settle_unit-settled-requires-clause-passed g c =
    unit_goes_on _ _ _ c.self.invariant _ c.as_slice-supplement_units.ensures.value c.args.probe _
    c.index_for-index.ensures

pub settle_unit-settled-requires-clause-kept : goal.settle_unit-settled-requires-clause-kept
settle_unit-settled-requires-clause-kept g c =
    unit_kept _ _ _ c.self.invariant _ c.as_slice-supplement_units.ensures.value c.args.probe _
    c.index_for-index.ensures

pub invariant_of-self : goal.invariant_of-self
invariant_of-self g c =
    unit_holds _ _ _ c.self.invariant _ c.as_slice-supplement_units.ensures.value _
    c.settle_unit-settled.ensures.values c.settle_unit-settled.ensures.calls
    c.settle_unit-settled.ensures.cost.functions c.args.probe _ c.settle_unit-settled.ensures.passed
    c.settle_unit-settled.ensures.kept

pub returns-clause-found : goal.returns-clause-found
returns-clause-found g c =
    unit_settled _ _ _ c.self.invariant _ c.as_slice-supplement_units.ensures.value _
    c.settle_unit-settled.ensures.values c.args.probe _ c.self.view_is c.settle_unit-settled.result
    c.settle_unit-settled.ensures.found

pub returns-clause-after : goal.returns-clause-after
returns-clause-after g c =
    after_unit _ _ _ c.self.invariant _ c.as_slice-supplement_units.ensures.value _
    c.settle_unit-settled.ensures.values c.args.probe _ c.self.view_is _ c.settle_unit-settled.ensures.cost
    c.settle_unit-settled.ensures.reads c.settle_unit-settled.ensures.functions c.settle_unit-settled.ensures.asked
