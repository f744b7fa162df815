use Rattle.std.proofs.lemmas.Result.{err_from_is_err_and}
use Rattle.linemap_lookup.proofs.RunSteps.{item_more, item_stop}
use Rattle.linemap_lookup.proofs.engine.Engine.write_addresses.Goals as goal

pub loop-item-preserved : goal.loop-item-preserved
loop-item-preserved g c =
    item_more g.T.ToAddress.address c.args.items.now c.loop-item.item-index c.item-item.result c.loop-item-test.true
    c.item-item.is c.to_address.ensures c.loop-item.invariant c.in_ok-write.ensures.whole

pub returns-in_err-write-clause-stop : goal.returns-in_err-write-clause-stop
returns-in_err-write-clause-stop g c =
    let same = err_from_is_err_and c.from_residual.result c.from_residual.ensures.1 in
    rw (same.1, same.2)
    (item_stop g.T.ToAddress.address c.args.items.now c.loop-item.item-index c.item-item.result c.loop-item-test.true
    c.item-item.is c.to_address.ensures c.loop-item.invariant c.in_err-write.ensures.stop)
