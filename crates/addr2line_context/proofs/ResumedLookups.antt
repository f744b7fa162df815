-- How often a lookup waits, and what one that goes on leaves.
use Rattle.std.proofs.Common.{◌≡◌, ◌≢◌, inl, inr, ℕ, ◌<◌, ◌≤◌, ◌+◌, length, Option, Result, Err, sym, ap, ◌∙◌, subst, arith}
use Rattle.addr2line_lookups.specs.Error.{Error}
use Rattle.addr2line_lookups.specs.Error.TheVariants.{Memory}
use Rattle.addr2line_lookups.specs.DwarfFiles.{DwarfFile}
use Rattle.addr2line_lookups.specs.KeptUnits.{KeepsFunctionList, ReadsAsked, ReadsNoLines, ReadsAskedFunctions, ReadsNoFunctions}
use Rattle.addr2line_lookups.specs.LookupCosts.{AtMostLooks}
use Rattle.addr2line_lookups.specs.PassedUnits.{KeepsAskedFunctions}
use Rattle.addr2line_lookups.proofs.UnitChanges.{changes_nothing, changes_after}
use Rattle.addr2line_lookups.proofs.AskedFunctions.{is_other}
use Rattle.addr2line_lookups.proofs.AskedLines.{reads_nothing, reads_after}
use Rattle.addr2line_lookups.proofs.UnitProbes.{looks_both, looks_weaker}
use Rattle.addr2line_context.specs.AnsweredContexts.{AnsweredContext}
use Rattle.addr2line_context.specs.KeptContexts.{ResolvedContext}
use Rattle.addr2line_context.specs.ContextCosts.{Search, AfterSearch}
use Rattle.addr2line_context.specs.Suspended.{IfLoad, HasMemory, loads_left}
use Rattle.addr2line_context.specs.SettledLookups.{loads_in, after_answer, LeavesAnswer, RecordsAnswer, AfterAnswer, IsFor, WaitsAgain}
use Rattle.addr2line_context.specs.declared.lookup.LookupResult.{LookupResult}
use Rattle.addr2line_context.specs.declared.lookup.LookupResult.TheVariants.{Load, Output}

abbrev error_of : (A : Type 0) → Error → Result A Error
error_of A e = Err e

-- the looks of a lookup that goes on after an answer
abbrev looks_after : Search → ResolvedContext → ℕ → Option DwarfFile → ℕ
looks_after search old a file = search.looks (after_answer old.value a file) a

-- where a call has memory, so has one of which it is a part
pub with_memory : (search : Search) (has_memory part_has : Type 0) (a : ℕ)
    (old new : ResolvedContext) → (has_memory → part_has) → AfterSearch search part_has a old new
    → AfterSearch search has_memory a old new
with_memory search has_memory part_has a old new part after = record {
  value = after.value;
  cost = after.cost;
  reads = after.reads;
  functions = after.functions;
  asked = λ has. after.asked (part has);
}

-- of a context that is seen as another
pub search_of : (search : Search) (a : ℕ) (old : ResolvedContext)
    {has_memory part_has : Type 0} {seen new : ResolvedContext} → seen ≡ new → (has_memory → part_has)
    → AfterSearch search part_has a old new → AfterSearch search has_memory a old seen
search_of search a old {has_memory} {part_has} {seen} {new} is part after =
    subst (λ (x : ResolvedContext). AfterSearch search has_memory a old x) (sym is)
    (with_memory search has_memory part_has a old new part after)

-- an answer that ended when out of memory
module _ {L X B W S E F : Type 0} where
  abbrev refused : Error → LookupResult L (Result X Error) B W S E F
  refused e = Output (Err e)

  -- what refuses a lookup isn't out of memory, where the lookup isn't
  pub refused_with_memory : {A : Type 0} (e : Error) → HasMemory (refused e) → error_of A e ≢ error_of A Memory
  refused_with_memory {A} e has = is_other e (λ is. has (ap refused is))

  pub after_error : (search : Search) (e : Error) (old new : ResolvedContext) (a : ℕ)
      (file : Option DwarfFile) → e ≡ Memory → LeavesAnswer old.value a file new.value
      → AtMostLooks 0 old.units new.units → ReadsNoLines old.units new.units → ReadsNoFunctions old.units new.units
      → AfterAnswer search (refused e) old a file new
  after_error search e old new a file is left free none none_read = record {
    value = by left;
    cost = looks_weaker 0 (looks_after search old a file) old.units new.units (omega arith) free;
    reads = reads_nothing (search.asks (after_answer old.value a file) a) old.units new.units none;
    functions =
        changes_nothing KeepsFunctionList (search.asks (after_answer old.value a file) a) old.units new.units none_read;
    asked = λ has. absurd (has (ap refused is));
  }
    where
      by : LeavesAnswer old.value a file new.value → RecordsAnswer (refused e) old.value a file new.value
      by (inl recorded) = inl recorded
      by (inr same) = inr (ap refused is, same)

-- A lookup goes on in `mid`, the context after an answer to the first load of its address.
module _ (search : Search) (old mid : ResolvedContext) (a : ℕ) (file : Option DwarfFile)
    (answered : mid.value ≡ after_answer old.value a file) (free : AtMostLooks 0 old.units mid.units)
    (none : ReadsNoLines old.units mid.units) (none_read : ReadsNoFunctions old.units mid.units) where
  abbrev asked_after : ℕ → Type 0
  asked_after = search.asks (after_answer old.value a file) a

  module _ (has_memory : Type 0) (new : ResolvedContext) (after : AfterSearch search has_memory a mid new) where
    looks_again : AtMostLooks (looks_after search old a file) old.units new.units
    looks_again =
        subst (λ (c : AnsweredContext). AtMostLooks (search.looks c a) old.units new.units) answered
        (looks_weaker (0 + search.looks mid.value a) (search.looks mid.value a) old.units new.units (omega arith)
        (looks_both 0 (search.looks mid.value a) old.units mid.units new.units free after.cost))

    reads_again : ReadsAsked asked_after old.units new.units
    reads_again =
        let P : AnsweredContext → Type 0 = λ c. ReadsAsked (search.asks c a) mid.units new.units in
        reads_after asked_after old.units mid.units new.units none (subst P answered after.reads)

    functions_again : ReadsAskedFunctions asked_after old.units new.units
    functions_again =
        let P : AnsweredContext → Type 0 = λ c. ReadsAskedFunctions (search.asks c a) mid.units new.units in
        changes_after KeepsFunctionList asked_after old.units mid.units new.units none_read
        (subst P answered after.functions)

    asked_again : has_memory → KeepsAskedFunctions asked_after new.units
    asked_again has =
        let P : AnsweredContext → Type 0 = λ c. KeepsAskedFunctions (search.asks c a) new.units in
        subst P answered (after.asked has)

  pub after_again : {L X B W S E F : Type 0} (result : LookupResult L (Result X Error) B W S E F)
      (new : ResolvedContext) → AfterSearch search (HasMemory result) a mid new
      → AfterAnswer search result old a file new
  after_again result new after = record {
    value = inl (after.value ∙ answered);
    cost = looks_again (HasMemory result) new after;
    reads = reads_again (HasMemory result) new after;
    functions = functions_again (HasMemory result) new after;
    asked = asked_again (HasMemory result) new after;
  }

  module _ {L O B W S E F : Type 0} (now : L → ResolvedContext) (probe : L → ℕ) where
    pub waits_again : (result : LookupResult L O B W S E F) → IfLoad (λ w. IsFor search mid a (now w) (probe w)) result
        → IfLoad (λ w. WaitsAgain search old a file (now w) (probe w)) result
    waits_again (Output x) h = tt
    waits_again (Load w) h = record {
      value = h.after.value ∙ answered;
      cost = looks_again (Unit {0}) (now w) h.after;
      reads = reads_again (Unit {0}) (now w) h.after;
      functions = functions_again (Unit {0}) (now w) h.after;
      asked = asked_again (Unit {0}) (now w) h.after tt;
      place = h.place;
    }

-- the loads that are left to it
module _ (search : Search) (old mid : ResolvedContext) (a : ℕ) {L : Type 0}
    (now : L → ResolvedContext) (probe : L → ℕ) where
  abbrev left : L → ℕ
  left w = length (loads_in (now w).value (probe w))

  same_left : (w : L) → IsFor search mid a (now w) (probe w) → left w ≡ length (loads_in mid.value a)
  same_left w h =
      ap (λ p. length (loads_in (now w).value p)) h.place ∙ ap (λ c. length (loads_in c a)) h.after.value

  pub has_loads : {O B W S E F : Type 0} (result : LookupResult L O B W S E F)
      → IfLoad (λ w. IsFor search mid a (now w) (probe w)) result → IfLoad (λ w. 0 < left w) result
  has_loads (Output x) h = tt
  has_loads (Load w) h = subst (λ n. 0 < n) (sym (same_left w h)) h.has_load

  -- fewer, where an answer leaves fewer
  pub fewer_left : {O B W S E F : Type 0}
      → (0 < length (loads_in mid.value a) → length (loads_in mid.value a) + 1 ≤ length (loads_in old.value a))
      → (result : LookupResult L O B W S E F) → IfLoad (λ w. IsFor search mid a (now w) (probe w)) result
      → loads_left left result ≤ length (loads_in old.value a)
  fewer_left fewer (Output x) h = omega arith
  fewer_left fewer (Load w) h =
      subst (λ n. n + 1 ≤ length (loads_in old.value a)) (sym (same_left w h)) (fewer h.has_load)
