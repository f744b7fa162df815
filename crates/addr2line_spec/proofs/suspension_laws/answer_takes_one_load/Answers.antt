use Rattle.std.proofs.Common.{◌∙◌, ap}
use Rattle.addr2line_spec.specs.FirstAnswers.{load_of}
use Rattle.addr2line_spec.specs.Pairs.{Pair, covering_pairs}
use Rattle.addr2line_spec.specs.Contexts.{ContextUnit, ranges_of}
use Rattle.addr2line_spec.specs.Lookups.{unit_in, one_each}
use Rattle.addr2line_spec.proofs.PendingLoads.{takes_one, pending_under, one_each_other}
use Rattle.addr2line_spec.proofs.suspension_laws.answer_takes_one_load.Goals as goal

pub returns : goal.returns
returns _ c answers a p first within =
    let pairs = covering_pairs ranges_of c.context.units a in
    let number = λ (q : Pair ContextUnit). q.number in
    let load = λ (q : Pair ContextUnit). load_of (unit_in c q.unit) in
    ap one_each (takes_one number load answers p.number first within pairs)
    ∙ one_each_other p.number (pending_under number load answers p.number first within answers pairs)
