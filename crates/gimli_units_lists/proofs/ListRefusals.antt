-- What a call of `next` promises where it hands on a refusal by `?`, and what it learns of the calls that it makes.
use Rattle.std.proofs.Common.{◌≡◌, ◌≢◌, ℕ, List, ◌∷◌, Option, Some, None, option_map, Result, Ok, Err, sym, ◌∙◌, ap, subst}
use Rattle.std.specs.Result.{IsErrAnd}
use Rattle.gimli_core_readers.specs.Error.{Error}
use Rattle.gimli_core_readers.specs.Error.TheVariants.{Memory}
use Rattle.gimli_core_readers.specs.declared.range.Range.{Range}
use Rattle.gimli_core_readers.specs.Calls.{Returns, ReturnsAs}
use Rattle.gimli_core_readers.specs.Iterators.{ReturnsNext, ReturnsNextOrNoMemory}
use Rattle.gimli_units_lists.specs.ListSections.{RemainingRanges, range_list}
use Rattle.gimli_units_lists.specs.Lists.{ListKind, RemainingList}
use Rattle.gimli_units_lists.specs.RangeEntries.{range_lists}
use Rattle.gimli_units_lists.specs.ListProgress.{Skips, Finds, TakesEntries, TakesRange}

-- the refusal d is handed on
pub refusal_is_next : {A B : Type 0} (see : A → B) (r : Result (Option A) Error) (old new : List (Result B Error))
    (d : Error) → IsErrAnd r (λ e. e ≡ d) → (d ≢ Memory → old ≡ Err d ∷ new) → (d ≡ Memory → new ≡ old)
    → ReturnsNextOrNoMemory see r old new
refusal_is_next see (Ok x) old new d h k m = absurd h
refusal_is_next {A} {B} see (Err e) old new d h k m =
    ((λ ne. k (λ is. ne (h ∙ is)) ∙ ap (λ (x : Error). Err x ∷ new) (sym h)), (λ is. m (sym h ∙ is)))

-- and the entries up to where it comes from are taken
pub refusal_takes : {H E A B : Type 0} (kind : ListKind H E A) (see : B → A) (limit : ℕ) (r : Result (Option B) Error)
    (old new : RemainingList H) (d : Error) → IsErrAnd r (λ e. e ≡ d) → (d ≢ Memory → Finds kind limit old new (Err d))
    → (d ≡ Memory → Skips kind limit old new) → TakesEntries kind see limit r old new
refusal_takes kind see limit (Ok x) old new d h k m = absurd h
refusal_takes kind see limit (Err e) old new d h k m = (
  (λ ne. subst (λ (x : Error). Finds kind limit old new (Err x)) (sym h) (k (λ is. ne (h ∙ is)))),
  (λ is. m (sym h ∙ is)),
)

-- an item was answered
pub item_is_next : {A B : Type 0} (see : A → B) (o : Option A) (x : A) (old new : List (Result B Error))
    → o ≡ Some x → ReturnsNextOrNoMemory see (Ok o) old new → old ≡ Ok (see x) ∷ new
item_is_next see None x old new is h = absurd cc
item_is_next {A} {B} see (Some y) x old new is h =
    let same : y ≡ x = cc in h ∙ ap (λ (z : A). Ok (see z) ∷ new) same

-- ---- calls that take no memory

-- the same refusal, of a call with answers
abbrev error_of : {A : Type 0} → Error → Result (Option A) Error
error_of e = Err e

not_memory : {A : Type 0} (e : Error) → (error_of {A = A} e ≢ Err Memory) → e ≢ Memory
not_memory {A} e free = λ is. free (ap (λ (d : Error). error_of {A = A} d) is)

pub next_without_memory : {A B : Type 0} (see : A → B) (r : Result (Option A) Error) (old new : List (Result B Error))
    → ReturnsNextOrNoMemory see r old new → r ≢ Err Memory → ReturnsNext see r old new
next_without_memory see (Ok None) old new h free = h
next_without_memory see (Ok (Some x)) old new h free = h
next_without_memory {A} see (Err e) old new h free = h.0 (not_memory {A = A} e free)

pub next_or_no_memory : {A B : Type 0} (see : A → B) (r : Result (Option A) Error) (old new : List (Result B Error))
    → ReturnsNext see r old new → r ≢ Err Memory → ReturnsNextOrNoMemory see r old new
next_or_no_memory see (Ok None) old new h free = h
next_or_no_memory see (Ok (Some x)) old new h free = h
next_or_no_memory {A} see (Err e) old new h free = ((λ ne. h), (λ is. absurd (not_memory {A = A} e free is)))

pub seen_as_it_is : {A : Type 0} (r meaning : Result (Option A) Error) → Returns r meaning
    → ReturnsAs (option_map (λ x. x)) r meaning
seen_as_it_is (Ok None) meaning h = h
seen_as_it_is (Ok (Some x)) meaning h = h
seen_as_it_is (Err e) meaning h = h

pub takes_range : (limit : ℕ) (r : Result (Option Range) Error) (old new : RemainingRanges)
    → TakesEntries range_lists (λ x. x) limit r (range_list old) (range_list new) → r ≢ Err Memory
    → TakesRange limit r old new
takes_range limit (Ok None) old new h free = h
takes_range limit (Ok (Some x)) old new h free = h
takes_range limit (Err e) old new h free = h.0 (not_memory {A = Range} e free)
