use Rattle.addr2line_context.specs.ContextCosts.{unit_search}
use Rattle.addr2line_context.proofs.UnitLoads.{first_load_of_unit}
use Rattle.linemap_replay.proofs.KeptReads.{searched}
use Rattle.linemap_replay.proofs.address_lookup.UnitLookupAddressLookup.settle.Goals as goal

pub returns-clause-first : goal.returns-clause-first
returns-clause-first g c = first_load_of_unit c.args.context.now.value c.args.probe

pub returns-clause-kept : goal.returns-clause-kept
returns-clause-kept g c =
    searched unit_search _ c.args.probe c.args.context.now c.settle_unit.new.context c.settle_unit.ensures.after
