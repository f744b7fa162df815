-- The load for which the unit of an address waits.
use Rattle.std.proofs.Common.{◌≡◌, ℕ, List, ◌∷◌, None}
use Rattle.addr2line_lookups.specs.FirstAnswers.{FirstAnswer, PendingLoad, Lookup, pending}
use Rattle.addr2line_lookups.specs.Lookups.{decision_of, unit_under, is_there}
use Rattle.addr2line_lookups.specs.Pairs.{Pair, covering_pairs}
use Rattle.addr2line_lookups.specs.ContextNames.{naming_in}
use Rattle.addr2line_lookups.specs.Contexts.{ContextUnit, ranges_of}
use Rattle.addr2line_lookups.proofs.PendingLoads.{waits_for_first, first_of_each}
use Rattle.addr2line_context.specs.AnsweredContexts.{AnsweredContext}
use Rattle.addr2line_context.specs.SettledLookups.{unit_in, loads_in}

-- it is the first of the address's
pub first_load_of_unit : (c : AnsweredContext) (a : ℕ) (p : PendingLoad) → unit_in c a ≡ pending p
    → (rest : List PendingLoad) × (loads_in c a ≡ p ∷ rest)
first_load_of_unit c a p h =
    first_of_each _ p
    (waits_for_first (λ (q : Pair ContextUnit). decision_of c.plain c.answers q.number q.unit) is_there None
    (λ q. unit_under c.plain (naming_in c.plain) a q.unit) (λ q (first : FirstAnswer). first) p
    (covering_pairs ranges_of c.plain.context.units a) h)
