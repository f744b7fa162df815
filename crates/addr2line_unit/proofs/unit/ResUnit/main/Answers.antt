use Rattle.std.proofs.Common.{ap}
use Rattle.addr2line_unit.specs.ResolvedUnits.{ResolvedUnit, main_unit}
use Rattle.addr2line_unit.proofs.KeptParses.{whole_or_no_load}
use Rattle.addr2line_unit.proofs.unit.ResUnit.main.Goals as goal

pub returns : goal.returns
returns g c =
    let i = c.self.inside in
    whole_or_no_load (λ x. x.now) c.whole.result i.main.is_whole i.main.counted.unit (main_unit c.args.self.now.value)
    (ap (λ (u : ResolvedUnit). main_unit u.value) c.self.view_is) c.whole.ensures
