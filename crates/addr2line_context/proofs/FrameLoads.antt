-- The load for which the frames of an address wait.
use Rattle.std.proofs.Common.{◌≡◌, ◌≢◌, ℕ, zero, suc, ◌+◌, ◌<◌, ◌≤◌, List, [], ◌∷◌, length, Option, Result, Ok, Err, OnOk, arith, sym, ap, subst}
use Rattle.addr2line_lookups.specs.Error.{Error}
use Rattle.addr2line_lookups.specs.Error.TheVariants.{Memory}
use Rattle.addr2line_lookups.specs.FirstAnswers.{FirstAnswer, PendingLoad, Lookup, output, pending}
use Rattle.addr2line_lookups.specs.Lookups.{decision_of, frames_under, is_answer}
use Rattle.addr2line_lookups.specs.Pairs.{Pair, covering_pairs}
use Rattle.addr2line_lookups.specs.ContextNames.{naming_in}
use Rattle.addr2line_lookups.specs.Contexts.{ContextUnit, ranges_of}
use Rattle.addr2line_lookups.specs.Frames.{Frame}
use Rattle.addr2line_lookups.specs.ResolvedUnits.{ResolvedUnit}
use Rattle.addr2line_lookups.specs.UnitLookups.{IsPending, SettlesFrames}
use Rattle.addr2line_lookups.specs.declared.frame_place.FramePlace.{FramePlace}
use Rattle.addr2line_lookups.specs.declared.settled.Settled.{Settled}
use Rattle.addr2line_lookups.specs.declared.settled.Settled.TheVariants.{Waits, Nothing, Found}
use Rattle.addr2line_lookups.proofs.PendingLoads.{waits_for_first, first_of_each}
use Rattle.addr2line_context.specs.AnsweredContexts.{AnsweredContext}
use Rattle.addr2line_context.specs.FrameLoads.{IsDone, DecidesUnlessWaiting, DecidesFrames, IsSettled}
use Rattle.addr2line_context.specs.SettledLookups.{frames_in, loads_in}
use Rattle.addr2line_context.specs.declared.frame_loads.DecidedFrames.{DecidedFrames}
use Rattle.addr2line_context.proofs.AnsweredFirst.{frames_have_load}

-- it is the first of the address's
pub first_load_of_frames : (c : AnsweredContext) (a : ℕ) (p : PendingLoad) → frames_in c a ≡ pending p
    → (rest : List PendingLoad) × (loads_in c a ≡ p ∷ rest)
first_load_of_frames c a p h =
    first_of_each _ p
    (waits_for_first (λ (q : Pair ContextUnit). decision_of c.plain c.answers q.number q.unit) is_answer (Ok [])
    (λ q. frames_under c.plain (naming_in c.plain) a q.unit) (λ q (first : FirstAnswer). first) p
    (covering_pairs ranges_of c.plain.context.units a) h)

-- there are fewer loads where there are fewer if any are left
pub fewer_loads_of_frames : (c new : AnsweredContext) (a : ℕ) (r : Result (Unit {0}) Error) → IsPending (frames_in c a)
    → OnOk r (0 < length (loads_in new a) → length (loads_in new a) + 1 ≤ length (loads_in c a))
    → OnOk r (length (loads_in new a) < length (loads_in c a))
fewer_loads_of_frames c new a (Ok done) waits fewer =
    by (length (loads_in new a)) fewer (frames_have_load c a waits)
  where
    by : (n : ℕ) → (0 < n → n + 1 ≤ length (loads_in c a)) → 0 < length (loads_in c a) → n < length (loads_in c a)
    by zero h some = some
    by (suc n) h some = let next = h (omega arith) in omega (arith, next)
fewer_loads_of_frames c new a (Err e) waits fewer = tt

-- what decides them, by what settling found
pub frames_decided : (us : List ResolvedUnit) (m : Lookup (Result (List Frame) Error))
    (settled : Result (Settled FramePlace) Error) (r : Result (Option DecidedFrames) Error) → SettlesFrames us m settled
    → IsSettled settled r → DecidesUnlessWaiting (DecidesFrames us) m r
frames_decided us m (Ok Waits) r h is = subst (DecidesUnlessWaiting (DecidesFrames us) m) (sym is) h
frames_decided us m (Ok Nothing) r h is = subst (DecidesUnlessWaiting (DecidesFrames us) m) (sym is) ((Ok [], h), h)
frames_decided us m (Ok (Found p)) r h is =
    subst (DecidesUnlessWaiting (DecidesFrames us) m) (sym is) ((h.answer, h.is_found), h)
frames_decided us m (Err e) (Ok o) h is =
    subst (λ d. DecidesUnlessWaiting (DecidesFrames us) m (Ok d)) (sym is.0) ((Err e, h is.1), h is.1)
frames_decided us m (Err e) (Err d) h is = is.1

-- where that isn't out of memory, neither was settling
pub settled_with_memory : (settled : Result (Settled FramePlace) Error) (r : Result (Option DecidedFrames) Error)
    → IsSettled settled r → r ≢ Err Memory → settled ≢ Err Memory
settled_with_memory (Ok s) r decided has is = cc
settled_with_memory (Err e) (Ok o) decided has is = let same : e ≡ Memory = cc in decided.1 same
settled_with_memory (Err e) (Err d) decided has is = has (ap refused decided.1)
  where
    refused : Error → Result (Option DecidedFrames) Error
    refused f = Err f

-- what is found waits for no load
pub waits_not : {A : Type 0} (m : Lookup A) → IsDone m → IsPending m → ⊥
waits_not (output x) is waits = cc
waits_not (pending p) is waits = cc
