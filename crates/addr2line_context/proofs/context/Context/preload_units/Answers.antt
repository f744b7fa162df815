use Rattle.std.proofs.Common.{sym, subst, map, List, Ok}
use Rattle.addr2line_lookups.specs.Calls.{ReturnsAsOrNoMemory}
use Rattle.addr2line_lookups.specs.FirstAnswers.{PendingLoad}
use Rattle.addr2line_lookups.specs.Preloads.{load_of_item}
use Rattle.addr2line_context.proofs.ContextLoads.{loads_of_context}
use Rattle.addr2line_context.proofs.ContextParts.{value_is}
use Rattle.addr2line_context.proofs.FirstLoads.{none_of_units}
use Rattle.addr2line_context.proofs.context.Context.preload_units.Goals as goal

pub returns-clause-loads : goal.returns-clause-loads
returns-clause-loads g c =
    let P : List PendingLoad → Type 0 =
    λ l. ReturnsAsOrNoMemory (λ found. map load_of_item found.items) c.pending_loads.result (Ok l) in
    subst P
    (sym (loads_of_context _ _ _ c.self.invariant.are_of_file c.args.probe c.args.self.now.value
    (value_is _ _ _ _ c.self.view_is))) c.pending_loads.ensures.loads

pub returns-clause-free : goal.returns-clause-free
returns-clause-free g c = λ none.
    c.pending_loads.ensures.free
    (none_of_units _ _ _ c.self.invariant.are_of_file c.args.probe _ (value_is _ _ _ _ c.self.view_is) none)
