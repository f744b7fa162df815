use Rattle.std.proofs.Common.{map, take}
use Rattle.linemap_lookup.specs.LookupRuns.{WritesAddresses}
use Rattle.linemap_lookup.proofs.engine.Engine.write_addresses.Given as goal

-- the items so far are answered
abbrev pub invariant-loop-item : goal.invariant-loop-item
invariant-loop-item g l =
    WritesAddresses g.S.SplitSource.answers l.question.options.now l.question.section
    (map g.T.ToAddress.address (take l.item-index l.items))
    (record { file = l.fn.self.loader.file; source = l.fn.source })
    (record { file = l.self.loader.file; source = l.source })
    (record { out = g.O.Write.contents l.fn.out; err = g.E.Write.contents l.fn.err })
    (record { out = g.O.Write.contents l.out; err = g.E.Write.contents l.err }) l.fn.ended l.ended
