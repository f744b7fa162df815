use Rattle.std.proofs.Common.{ap, subst, sym, Err}
use Rattle.addr2line_functions.specs.Calls.{Returns}
use Rattle.addr2line_functions.specs.Results.{refusal_of}
use Rattle.addr2line_functions.specs.FirstAnswers.{FirstAnswer}
use Rattle.addr2line_unit.specs.ResolvedUnits.{ResolvedUnit, decided, first_answer}
use Rattle.addr2line_unit.proofs.KeptParses.{decided_by_load}
use Rattle.addr2line_unit.proofs.unit.ResUnit.check_decided.Goals as goal

pub returns-in-Ok : goal.returns-in-Ok
returns-in-Ok g c =
    let i = c.self.inside in
    let P : FirstAnswer → Type 0 = λ d. Returns c.check_load.result (refusal_of d) in
    subst P
    (decided_by_load c.args.self.now i.main.counted.unit i.load i.first _
    (ap (λ (x : ResolvedUnit). first_answer x.value) c.self.view_is) c.self.invariant.load_is
    (ap (λ l. decided l i.first) c.in-Ok.ensures))
    c.check_load.ensures

pub returns-in-Err : goal.returns-in-Err
returns-in-Err g c =
    let i = c.self.inside in
    ap refusal_of
    (sym (decided_by_load c.args.self.now i.main.counted.unit i.load i.first (Err c.in-Err.error)
    (ap (λ (x : ResolvedUnit). first_answer x.value) c.self.view_is) c.self.invariant.load_is
    (ap (λ l. decided l i.first) c.in-Err.ensures)))
