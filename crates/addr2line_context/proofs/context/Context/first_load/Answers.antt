use Rattle.std.proofs.lemmas.Result.{err_from_is_err_and}
use Rattle.addr2line_context.proofs.ContextParts.{value_is}
use Rattle.addr2line_context.proofs.FirstLoads.{load_found, no_load_found, load_refused}
use Rattle.addr2line_context.proofs.KeptUnits.{loads_pending}
use Rattle.addr2line_context.proofs.context.Context.first_load.Goals as goal

pub returns-in_err-load : goal.returns-in_err-load
returns-in_err-load g c =
    let p = err_from_is_err_and c.from_residual.result c.from_residual.ensures.1 in
    rw (p.1, p.2) (load_refused _ _ _ c.self.invariant.are_of_file c.args.probe _ (value_is _ _ _ _ c.self.view_is) _
    c.in_err-load.ensures c.requires)

pub returns : goal.returns
returns g c =
    load_found _ _ _ c.self.invariant.are_of_file c.args.probe _ (value_is _ _ _ _ c.self.view_is) _ c.in-Some.load
    c.in-Some.is c.in_ok-load.ensures

pub unreachable-requires : goal.unreachable-requires
unreachable-requires g c =
    no_load_found _ _ _ c.self.invariant.are_of_file c.args.probe _ (value_is _ _ _ _ c.self.view_is) _ c.in-None.is
    c.in_ok-load.ensures c.requires

pub first_load-requires : goal.first_load-requires
first_load-requires g c = loads_pending _ _ _ c.self.invariant c.args.probe _ c.furthest_for-from.ensures
