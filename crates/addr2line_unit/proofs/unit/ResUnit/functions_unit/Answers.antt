use Rattle.std.proofs.Common.{ap, subst, sym, Err, Result, ◌∙◌}
use Rattle.addr2line_functions.specs.Error.{Error}
use Rattle.addr2line_functions.specs.Calls.{Returns}
use Rattle.addr2line_functions.specs.EntryReferences.{HoldingUnit}
use Rattle.addr2line_unit.specs.ResolvedUnits.{ResolvedUnit, main_unit, decided, first_answer, unit_of_functions}
use Rattle.addr2line_unit.proofs.KeptParses.{unit_by_load, of_same_unit, unless_memory}
use Rattle.addr2line_unit.proofs.unit.ResUnit.functions_unit.Goals as goal

-- a unit that isn't whole keeps no functions
pub returns-in_default-clause-kept : goal.returns-in_default-clause-kept
returns-in_default-clause-kept g c = λ kept.
    let bare = c.in_default.ensures.0 in
    let whole = c.self.invariant.is_whole (ap (λ (u : ResolvedUnit). u.keeps_functions) c.self.view_is ∙ kept) in
    absurd cc

pub returns-in-Ok-clause-kept : goal.returns-in-Ok-clause-kept
returns-in-Ok-clause-kept g c = λ kept.
    let i = c.self.inside in
    let P : Result HoldingUnit Error → Type 0 = λ x. Returns c.unit_decided.result x in
    subst P
    (sym (unit_by_load c.args.self.now i.main.counted.unit i.load i.first _
    (ap (λ (x : ResolvedUnit). unit_of_functions (main_unit x.value) (first_answer x.value)) c.self.view_is)
    c.self.invariant.load_is (ap (λ l. decided l i.first) c.in-Ok.ensures)))
    (of_same_unit P c.in-Some.main.now i.main.counted.unit _ c.in-Some.ensures c.unit_decided.ensures)

pub returns-in-Ok-clause-unit : goal.returns-in-Ok-clause-unit
returns-in-Ok-clause-unit g c =
    let i = c.self.inside in
    let P : Result HoldingUnit Error → Type 0 = λ x. Returns c.unit_decided.result x in
    unless_memory c.unit_decided.result _
    (subst P
    (sym (unit_by_load c.args.self.now i.main.counted.unit i.load i.first _
    (ap (λ (x : ResolvedUnit). unit_of_functions (main_unit x.value) (first_answer x.value)) c.self.view_is)
    c.self.invariant.load_is (ap (λ l. decided l i.first) c.in-Ok.ensures)))
    (of_same_unit P c.in-Some.main.now i.main.counted.unit _ c.in-Some.ensures c.unit_decided.ensures))

pub returns-in-Err-clause-kept : goal.returns-in-Err-clause-kept
returns-in-Err-clause-kept g c = λ kept.
    let i = c.self.inside in
    unit_by_load c.args.self.now i.main.counted.unit i.load i.first (Err c.in-Err.error)
    (ap (λ (x : ResolvedUnit). unit_of_functions (main_unit x.value) (first_answer x.value)) c.self.view_is)
    c.self.invariant.load_is (ap (λ l. decided l i.first) c.in-Err.ensures)

pub returns-in-Err-clause-unit : goal.returns-in-Err-clause-unit
returns-in-Err-clause-unit g c = λ other.
    let i = c.self.inside in
    unit_by_load c.args.self.now i.main.counted.unit i.load i.first (Err c.in-Err.error)
    (ap (λ (x : ResolvedUnit). unit_of_functions (main_unit x.value) (first_answer x.value)) c.self.view_is)
    c.self.invariant.load_is (ap (λ l. decided l i.first) c.in-Err.ensures)
