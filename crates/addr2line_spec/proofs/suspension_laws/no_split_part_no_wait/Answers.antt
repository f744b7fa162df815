use Rattle.addr2line_spec.specs.Pairs.{covering_pairs}
use Rattle.addr2line_spec.specs.Contexts.{ranges_of}
use Rattle.addr2line_spec.specs.SuspensionLaws.{HasNoSplitPart}
use Rattle.addr2line_spec.proofs.LookupsWithoutLoads.{all_covering, without_loads}
use Rattle.addr2line_spec.proofs.suspension_laws.no_split_part_no_wait.Goals as goal

pub returns : goal.returns
returns _ c naming answers a none =
    without_loads c naming answers a (covering_pairs ranges_of c.context.units a)
    (all_covering ranges_of HasNoSplitPart c.context.units a none)
