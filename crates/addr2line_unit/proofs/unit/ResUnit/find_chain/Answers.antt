use Rattle.std.proofs.Common.{Option, Result, sym, subst, ap, ◌∙◌}
use Rattle.addr2line_functions.specs.Error.{Error}
use Rattle.addr2line_functions.specs.InlinedCalls.{FunctionCalls}
use Rattle.addr2line_root.specs.ProbedLists.{ProbeCount}
use Rattle.addr2line_root.specs.Searches.{AtMostProbes}
use Rattle.addr2line_unit.specs.KeptFunctions.{kept_at, kept_chain_probes, plain_calls}
use Rattle.addr2line_unit.specs.ResolvedUnits.{ResolvedUnit}
use Rattle.addr2line_unit.proofs.FunctionParses.{kept_at-map}
use Rattle.addr2line_unit.proofs.unit.ResUnit.find_chain.Goals as goal

pub returns-clause-cost : goal.returns-clause-cost
returns-clause-cost g c =
    let n = c.args.function in
    let P : Option (Result FunctionCalls Error) → Type 0 =
    λ o. AtMostProbes (kept_chain_probes o c.args.probe) c.self.inside.probes c.find_chain.new.probes in
    let Q : ProbeCount → Type 0 =
    λ p. AtMostProbes (kept_chain_probes (kept_at c.args.self.now.calls n) c.args.probe) p c.find_chain.new.probes in
    subst Q (ap (λ (u : ResolvedUnit). u.probes) c.self.view_is)
    (subst P
    (sym (kept_at-map plain_calls c.self.inside.functions.calls n)
    ∙ ap (λ (u : ResolvedUnit). kept_at u.calls n) c.self.view_is)
    c.find_chain.ensures.cost)
