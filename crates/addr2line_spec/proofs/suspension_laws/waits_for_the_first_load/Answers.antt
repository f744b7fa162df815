use Rattle.std.proofs.Common.{None, Ok, []}
use Rattle.addr2line_spec.specs.Pairs.{Pair, covering_pairs}
use Rattle.addr2line_spec.specs.Contexts.{ContextUnit, ranges_of}
use Rattle.addr2line_spec.specs.Lookups.{decision_of, frames_under, is_answer, unit_under, is_there}
use Rattle.addr2line_spec.proofs.PendingLoads.{waits_for_first, first_of_each}
use Rattle.addr2line_spec.proofs.suspension_laws.waits_for_the_first_load.Goals as goal

pub returns : goal.returns
returns _ c naming answers a p =
    let decide = λ (q : Pair ContextUnit). decision_of c answers q.number q.unit in
    let pairs = covering_pairs ranges_of c.context.units a in (
      λ h. first_of_each _ p (waits_for_first decide is_answer (Ok []) (λ q. frames_under c naming a q.unit)
          (λ q first. first) p pairs h),
      λ h. first_of_each _ p (waits_for_first decide is_there None (λ q. unit_under c naming a q.unit)
          (λ q first. first) p pairs h),
    )
