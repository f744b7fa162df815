use Rattle.std.proofs.Common.{◌≡◌, ◌-◌, ◌^◌, length}
use Rattle.addr2line_context.specs.Contexts.{stretches}
use Rattle.addr2line_context.specs.RangeWalks.{stretches_left}
use Rattle.linemap_lookup.proofs.AllAddresses.{TakesSoFar}
use Rattle.linemap_lookup.proofs.all.all_addresses.Given as goal

-- the file is the same, and some addresses are taken
abbrev pub invariant-stretch : goal.invariant-stretch
invariant-stretch l = record {
  same : l.loader.file ≡ l.fn.loader.file;
  taken :
      TakesSoFar l.addresses.items l.last (stretches_left l.fn.loader.file.context.context.units l.walk)
      (stretches l.fn.loader.file.context.context 0 (2 ^ 64 - 1));
}

-- each stretch is one less
abbrev pub decreases-stretch : goal.decreases-stretch
decreases-stretch l = length (stretches_left l.fn.loader.file.context.context.units l.walk).items
