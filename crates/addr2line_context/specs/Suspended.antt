-- Lookups that wait for loads, and what they find in the end.
use Rattle.std.specs.Prelude.{◌≡◌, ◌≢◌, ℕ, ◌+◌, Result, Ok, Err}
use Rattle.std.specs.Borrow.{GName, Fml, RattleType, MutBor, follows_so}
use mathlib.Core.Option as maybe
use Rattle.addr2line_lookups.specs.Error.{Error}
use Rattle.addr2line_lookups.specs.Error.TheVariants.{Memory}
use Rattle.addr2line_lookups.specs.FirstAnswers.{Lookup, output}
use Rattle.addr2line_lookups.specs.UnitLookups.{IsPending}
use Rattle.addr2line_context.specs.declared.lookup.LookupResult.{LookupResult}
use Rattle.addr2line_context.specs.declared.lookup.LookupResult.TheVariants.{Load, Output}

-- ---- lookups of any kind

-- how many loads a lookup can wait for, that for which it waits now too
abbrev pub loads_left : {L O B W S E F : Type 0} → (L → ℕ) → LookupResult L O B W S E F → ℕ
loads_left left (Output found) = 0
loads_left left (Load wait) = left wait + 1

-- what holds of a lookup that waits
abbrev pub IfLoad : {L O B W S E F : Type 0} → (L → Type 0) → LookupResult L O B W S E F
    → Type 0
IfLoad P (Output found) = Unit {0}
IfLoad P (Load wait) = P wait

-- What is found once all loads are skipped: the output, if there is one, or else what the lookup
-- that waits finds then.
abbrev pub SkipsTo : {L O B W S E F : Type 0} → (L → O → Type 0) → LookupResult L O B W S E F → O
    → Type 0
SkipsTo skips_to (Output found) x = x ≡ found
SkipsTo skips_to (Load wait) x = skips_to wait x

-- what holds of that
abbrev pub IfSkipped : {L O B W S E F : Type 0} → (L → O → Type 0) → LookupResult L O B W S E F
    → (O → Type 0) → Type 0
IfSkipped {O = O} skips_to result P = (x : O) → SkipsTo skips_to result x → P x

-- the name of the reference that is in a lookup that waits
abbrev pub waiting_name : {L O B W S E F : Type 0} → (L → GName)
    → LookupResult L O B W S E F → maybe.Option GName
waiting_name name (Output found) = maybe.none
waiting_name name (Load wait) = maybe.some (name wait)

-- The reference s is in a lookup that waits; where none waits, P holds of what the loan leaves.
abbrev pub RestsUnlessWaiting : {L O B W S E F : Type 0} (R : RattleType) → MutBor R.Denot
    → (L → GName) → LookupResult L O B W S E F → (R.Denot → Type 0) → Fml
RestsUnlessWaiting R s name result P =
    follows_so R R s.ghost_name (waiting_name name result) (λ w n. IfLoad (λ v. n ≡ w) result) P

-- a lookup isn't out of memory
abbrev pub HasMemory : {L X B W S E F : Type 0} → LookupResult L (Result X Error) B W S E F
    → Type 0
HasMemory result = result ≢ Output (Err Memory)

-- ---- their meaning

-- What is found, as a definition has it, or out of memory. A lookup waits where its definition
-- does.
abbrev pub FollowsLookup : {L X B W S E F A : Type 0} → (X → A)
    → LookupResult L (Result X Error) B W S E F → Lookup (Result A Error) → Type 0
FollowsLookup see (Output (Ok x)) meaning = meaning ≡ output (Ok (see x))
FollowsLookup see (Output (Err e)) meaning = e ≢ Memory → meaning ≡ output (Err e)
FollowsLookup see (Load wait) meaning = IsPending meaning
