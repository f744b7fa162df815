-- How a listing goes on by one item, and how it ends: what a loop that reads items needs.
use Rattle.std.proofs.Common.{◌≡◌, ℕ, zero, suc, ◌≤◌, ◌<◌, List, [], ◌∷◌, ◌++◌, Option, Some, None, Result, Ok, Err, refl, sym, ◌∙◌, ap, arith, append_assoc, append-nil, map}
use Rattle.std.proofs.lemmas.List.{map-append}
use Rattle.gimli_core_base.specs.declared.error.Error.{Error}
use Rattle.gimli_core_base.specs.Parsers.{Step}
use Rattle.gimli_core_base.specs.Repetition.{Listing, no_items, prepend, next_item, item_or_end, items_within, listing_in, whole, whole_of, all_of}
use Rattle.gimli_core_base.proofs.StepParts.{read}
use Rattle.gimli_core_base.proofs.StepSizes.{SomeBelow}

-- each item makes the size smaller
pub record Shrinks {S A : Type 0} (size : S → ℕ) (p : Step S (Option A)) : Type 0 where
  pub smaller : (s : S) (n : ℕ) → size s ≤ n → SomeBelow size n (p s)

-- listings whose rests are alike where there is an item
item_same : {S A : Type 0} (o : Option A) (t : S) (f g : S → Listing S A) → ((x : A) → o ≡ Some x → f t ≡ g t)
    → item_or_end o t f ≡ item_or_end o t g
item_same None t f g k = refl
item_same {S} {A} (Some x) t f g k = ap (λ (l : Listing S A). prepend (x ∷ []) l) (k x refl)

next_same : {S A : Type 0} (r : Result (Option A × S) Error) (f g : S → Listing S A)
    → ((x : A) (t : S) → r ≡ Ok (Some x, t) → f t ≡ g t) → next_item r f ≡ next_item r g
next_same (Err d) f g k = refl
next_same {S} {A} (Ok r) f g k = item_same r.0 r.1 f g (λ x e. k x r.1 (ap (λ (o : Option A). read o r.1) e))

-- more rounds than the size change nothing
within-enough : {S A : Type 0} {size : S → ℕ} {p : Step S (Option A)} → Shrinks size p → (m n : ℕ) (s : S) → size s < m
    → size s < n → items_within m p s ≡ items_within n p s
unfolding items_within
within-enough h zero n s j k = absurd (omega arith)
within-enough h (suc m) zero s j k = absurd (omega arith)
within-enough {size = size} {p = p} h (suc m) (suc n) s j k =
    next_same (p s) (items_within m p) (items_within n p) (λ x t e.
    let lt : size t < size s = (h.smaller s (size s) (omega arith)).left x t e in within-enough h m n t (omega arith)
    (omega arith))

-- what one step makes of a listing
pub listing_next : {S A : Type 0} {size : S → ℕ} {p : Step S (Option A)} → Shrinks size p → (s : S)
    → listing_in size p s ≡ next_item (p s) (listing_in size p)
unfolding listing_in items_within
listing_next {size = size} {p = p} h s = next_same (p s) (items_within (size s) p) (listing_in size p) (λ x t e.
    let lt : size t < size s = (h.smaller s (size s) (omega arith)).left x t e in within-enough h (size s)
    (suc (size t)) t lt (omega arith))

-- an item that is read comes after those before it
pub listing_item : {S A : Type 0} {size : S → ℕ} {p : Step S (Option A)} → Shrinks size p
    → (xs : List A) (x : A) (s t : S) → p s ≡ Ok (Some x, t)
    → prepend xs (listing_in size p s) ≡ prepend (xs ++ x ∷ []) (listing_in size p t)
listing_item {S} {A} {size} {p} h xs x s t e =
    ap (λ (l : Listing S A). prepend xs l) (listing_next h s ∙ ap (λ r. next_item r (listing_in size p)) e)
    ∙ ap (λ (ys : List A). record { items = ys; ending = (listing_in size p t).ending })
    (sym (append_assoc xs (x ∷ []) (listing_in size p t).items))

-- where there is no item the listing ends
pub listing_end : {S A : Type 0} {size : S → ℕ} {p : Step S (Option A)} → Shrinks size p → (s t : S)
    → p s ≡ Ok (None, t) → listing_in size p s ≡ no_items (Ok t)
listing_end {size = size} {p = p} h s t e = listing_next h s ∙ ap (λ r. next_item r (listing_in size p)) e

-- where an item can't be read its fault ends the listing
pub listing_fault : {S A : Type 0} {size : S → ℕ} {p : Step S (Option A)} → Shrinks size p → (s : S) (d : Error)
    → p s ≡ Err d → listing_in size p s ≡ no_items (Err d)
listing_fault {size = size} {p = p} h s d e = listing_next h s ∙ ap (λ r. next_item r (listing_in size p)) e

-- ---- a loop that began at s, has read the items xs and is at t

-- the next item can't be read: its fault is that of all
pub all_of_fault : {S A : Type 0} {size : S → ℕ} {p : Step S (Option A)} → Shrinks size p
    → (xs : List A) (s t : S) (d : Error) → prepend xs (listing_in size p t) ≡ listing_in size p s → p t ≡ Err d
    → all_of size p s ≡ Err d
all_of_fault {S} {A} {size} {p} h xs s t d same e =
    let at : listing_in size p s ≡ prepend xs (no_items (Err d)) = sym same
    ∙ ap (λ (l : Listing S A). prepend xs l) (listing_fault h t d e) in
    ap whole at

-- there is no further item: all were read
pub all_of_end : {S A : Type 0} {size : S → ℕ} {p : Step S (Option A)} → Shrinks size p → (xs : List A) (s t u : S)
    → prepend xs (listing_in size p t) ≡ listing_in size p s → p t ≡ Ok (None, u) → all_of size p s ≡ Ok (xs, u)
all_of_end {S} {A} {size} {p} h xs s t u same e =
    let at : listing_in size p s ≡ prepend xs (no_items (Ok u)) = sym same
    ∙ ap (λ (l : Listing S A). prepend xs l) (listing_end h t u e) in
    ap whole at ∙ ap (λ (ys : List A). whole_of ys (Ok u)) (append-nil xs)

-- a further item is read, which a contract sees by a function
pub listing_push : {S A X : Type 0} {size : S → ℕ} {p : Step S (Option A)} → Shrinks size p
    → (see : X → A) (xs ys : List X) (x : X) (s t u : S)
    → prepend (map see xs) (listing_in size p t) ≡ listing_in size p s → p t ≡ Ok (Some (see x), u) → ys ≡ xs ++ x ∷ []
    → prepend (map see ys) (listing_in size p u) ≡ listing_in size p s
listing_push {S} {A} {X} {size} {p} h see xs ys x s t u same e pushed =
    ap (λ (zs : List A). prepend zs (listing_in size p u)) (ap (map see) pushed ∙ map-append see xs (x ∷ []))
    ∙ sym (listing_item h (map see xs) (see x) t u e) ∙ same

-- with each item the size falls
pub item_smaller : {S A : Type 0} {size : S → ℕ} {p : Step S (Option A)} → Shrinks size p → (s : S) (x : A) (t : S)
    → p s ≡ Ok (Some x, t) → size t < size s
item_smaller {size = size} h s x t e = (h.smaller s (size s) (omega arith)).left x t e
