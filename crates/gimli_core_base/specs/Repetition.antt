-- Items that follow each other: read until there are no more or one can't be read.
use Rattle.std.specs.Prelude.{ℕ, zero, suc, ◌==◌, List, [], ◌∷◌, ◌++◌, map, length, Option, Some, None, Result, Ok, Err, if◌then◌else◌}
use Rattle.gimli_core_base.specs.declared.error.Error.{Error}
use Rattle.gimli_core_base.specs.Parsers.{Step, Parser, ◌>>=◌, proceed, give}

-- Items, and what ends them: the state after them, or the fault of the one that can't be read.
pub record Listing (S A : Type 0) : Type 0 where
  pub items : List A
  pub ending : Result S Error

-- no more items
abbrev pub no_items : {S A : Type 0} → Result S Error → Listing S A
no_items r = record { items = []; ending = r }

-- the items, before those of a listing
abbrev pub prepend : {S A : Type 0} → List A → Listing S A → Listing S A
prepend xs l = record { items = xs ++ l.items; ending = l.ending }

-- an item and what the state after it lists, or the end
abbrev pub item_or_end : {S A : Type 0} → Option A → S → (S → Listing S A) → Listing S A
item_or_end None s rest = no_items (Ok s)
item_or_end (Some x) s rest = prepend (x ∷ []) (rest s)

abbrev pub next_item : {S A : Type 0}
    → Result (Option A × S) Error → (S → Listing S A) → Listing S A
next_item (Ok r) rest = item_or_end r.0 r.1 rest
next_item (Err e) rest = no_items (Err e)

-- at most n items
unfoldable pub items_within : {S A : Type 0} → ℕ → Step S (Option A) → S → Listing S A
items_within zero p s = no_items (Ok s)
items_within (suc n) p s = next_item (p s) (items_within n p)

-- All items from a state on. Each makes the state's size smaller, so there are no more of them than
-- that size.
unfoldable pub listing_in : {S A : Type 0} → (S → ℕ) → Step S (Option A) → S
    → Listing S A
listing_in size p s = items_within (suc (size s)) p s

-- all items, or the first fault
abbrev pub whole_of : {S A : Type 0} → List A → Result S Error → Result (List A × S) Error
whole_of xs (Ok s) = Ok (xs, s)
whole_of xs (Err e) = Err e

abbrev pub whole : {S A : Type 0} → Listing S A → Result (List A × S) Error
whole l = whole_of l.items l.ending

-- all items of a state, or the first fault
abbrev pub all_of : {S A : Type 0} → (S → ℕ) → Step S (Option A) → Step S (List A)
all_of size p s = whole (listing_in size p s)

-- the fault that ends a listing, if one does
abbrev pub fault_in : {S : Type 0} → Result S Error → Option Error
fault_in (Ok s) = None
fault_in (Err e) = Some e

abbrev pub fault_of : {S A : Type 0} → Listing S A → Option Error
fault_of l = fault_in l.ending

-- an item as an answer
abbrev pub answer : {A : Type 0} → A → Result A Error
answer x = Ok x

-- the fault that ends a listing as the last answer, if one does
abbrev pub last_answer : {S A : Type 0} → Result S Error → List (Result A Error)
last_answer (Ok s) = []
last_answer (Err e) = Err e ∷ []

-- the items as answers, and the fault that ends them, if one does
abbrev pub answers_of : {S A : Type 0} → Listing S A → List (Result A Error)
answers_of l = map answer l.items ++ last_answer l.ending

-- an item, or none where no byte is left
abbrev pub until_end : {A : Type 0} → Parser A → Parser (Option A)
until_end p v =
    if length v.bytes == 0 then Ok (None, v) else proceed (p v) (λ x. give (Some x))

-- n items
unfoldable pub times : {S A : Type 0} → ℕ → Step S A → Step S (List A)
times zero p s = Ok ([], s)
times (suc n) p s = proceed (p s) (λ x. (times n p >>= λ xs. give (x ∷ xs)))
