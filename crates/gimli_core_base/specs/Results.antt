-- Results: a value, or the first refusal of what was asked for in order. `◌>>=◌` is for `do`.
use Rattle.std.specs.Prelude.{List, [], ◌∷◌, Option, Some, None, Result, Ok, Err}

-- what follows from a value; a refusal stays
abbrev pub and_then : {A B E : Type 0} → Result A E → (A → Result B E) → Result B E
and_then (Ok x) f = f x
and_then (Err e) f = Err e

infixl 10 ◌>>=◌
abbrev pub ◌>>=◌ : {A B E : Type 0} → Result A E → (A → Result B E) → Result B E
r >>= f = and_then r f

-- the refusal, without the value
abbrev pub refusal_of : {A E : Type 0} → Result A E → Result (Unit {0}) E
refusal_of r = and_then r (λ x. Ok tt)

-- the value as one that may be absent
abbrev pub some_of : {A E : Type 0} → Result A E → Result (Option A) E
some_of r = and_then r (λ x. Ok (Some x))

-- the result, unless there is a fault
abbrev pub unless : {A E : Type 0} → Option E → Result A E → Result A E
unless None r = r
unless (Some e) r = Err e

-- the result for each, or the first refusal
abbrev pub each : {A B E : Type 0} → (A → Result B E) → List A → Result (List B) E
each f [] = Ok []
each f (x ∷ xs) = and_then (f x) (λ y. and_then (each f xs) (λ ys. Ok (y ∷ ys)))
