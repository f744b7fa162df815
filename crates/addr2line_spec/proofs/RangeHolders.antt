-- What holds an address is among those that it is chosen from.
use Rattle.std.proofs.Common.{◌≡◌, ℕ, Bool, true, false, cond, nat_lt, nat_le, List, [], ◌∷◌, filter, Option, Some, None, refl, subst}
use Rattle.std.specs.List.{AllByRecursion}
use Rattle.gimli_lines_machine.specs.Range.{Range}
use Rattle.addr2line_spec.specs.Choice.{later_of, is_later, latest, holder, only_if}

module _ {X : Type 0} (range : X → Range) where
  -- of two, of which the second is among others
  later_holds : (P : X → Type 0) (x y z : X) (b : Bool) → P x → (Some z ≡ Some y → P y) → Some (cond b x z) ≡ Some y
      → P y
  later_holds P x y z true h k e = let same : x ≡ y = cc in subst P same h
  later_holds P x y z false h k e = k e

  latest_of : (P : X → Type 0) (x y : X) (o : Option X) → P x → (o ≡ Some y → P y) → Some (later_of range x o) ≡ Some y
      → P y
  latest_of P x y None h k e = let same : x ≡ y = cc in subst P same h
  latest_of P x y (Some z) h k e = later_holds P x y z (is_later (range x) (range z)) h k e

  latest_holds : (P : X → Type 0) (xs : List X) (y : X) → AllByRecursion P xs → latest range xs ≡ Some y → P y
  latest_holds P [] y all e = absurd cc
  latest_holds P (x ∷ xs) y all e = latest_of P x y (latest range xs) all.0 (latest_holds P xs y all.1) e

  only_is : (test : X → Bool) (o : Option X) (y : X) → only_if test o ≡ Some y → o ≡ Some y
  only_is test None y e = absurd cc
  only_is test (Some x) y e = by (test x) e
    where
      by : (b : Bool) → cond b (Some x) None ≡ Some y → Some x ≡ Some y
      by true e = e
      by false e = absurd cc

-- what holds of all holds of those that are left
all_of_filter_step : {X : Type 0} (P : X → Type 0) (x : X) (xs : List X) (b : Bool) → P x → AllByRecursion P xs
    → AllByRecursion P (cond b (x ∷ xs) xs)
all_of_filter_step P x xs true h k = (h, k)
all_of_filter_step P x xs false h k = k

pub all_of_filter : {X : Type 0} (P : X → Type 0) (p : X → Bool) (xs : List X) → AllByRecursion P xs
    → AllByRecursion P (filter p xs)
all_of_filter P p [] h = tt
all_of_filter P p (x ∷ xs) h = all_of_filter_step P x (filter p xs) (p x) h.0 (all_of_filter P p xs h.1)

-- what is left passes
pass_step : {X : Type 0} (p : X → Bool) (x : X) (xs : List X) (b : Bool) → p x ≡ b → AllByRecursion (λ y. p y ≡ true) xs
    → AllByRecursion (λ y. p y ≡ true) (cond b (x ∷ xs) xs)
pass_step p x xs true h k = (h, k)
pass_step p x xs false h k = k

all_pass : {X : Type 0} (p : X → Bool) (xs : List X) → AllByRecursion (λ y. p y ≡ true) (filter p xs)
all_pass p [] = tt
all_pass p (x ∷ xs) = pass_step p x (filter p xs) (p x) refl (all_pass p xs)

-- what holds of all holds of the one that holds an address
pub holder_is : {X : Type 0} (range : X → Range) (P : X → Type 0) (a : ℕ) (xs : List X) (y : X) → AllByRecursion P xs
    → holder range a xs ≡ Some y → P y
holder_is {X} range P a xs y all e =
    let begins = λ (x : X). nat_le (range x).begin a in
    latest_holds range P (filter begins xs) y (all_of_filter P begins xs all)
    (only_is range (λ x. nat_lt a (range x).end) (latest range (filter begins xs)) y e)

pub holder_passes : {X : Type 0} (range : X → Range) (p : X → Bool) (a : ℕ) (xs : List X) (y : X)
    → holder range a (filter p xs) ≡ Some y → p y ≡ true
holder_passes range p a xs y e = holder_is range (λ x. p x ≡ true) a (filter p xs) y (all_pass p xs) e
