-- What is known of the parts of a step that gave a value, or was refused.
use Rattle.std.proofs.Common.{◌≡◌, Result, Ok, Err, refl, sym, ap}
use Rattle.gimli_core_base.specs.declared.error.Error.{Error}
use Rattle.gimli_core_base.specs.Parsers.{Step, proceed, value_of, lift}

-- a step that went on and gave a value began with one
pub begins : {S A B : Type 0} (r : Result (A × S) Error) (f : A → Step S B) (y : B) (t : S) → proceed r f ≡ Ok (y, t)
    → (x : A) × (s : S) × (r ≡ Ok (x, s)) × (f x s ≡ Ok (y, t))
begins (Ok r) f y t e = (r.0, r.1, refl, e)
begins (Err d) f y t e = absurd cc

-- going on thrice is going on with what goes on
pub proceed-proceed : {S A B C : Type 0} (r : Result (A × S) Error) (f : A → Step S B) (g : B → Step S C)
    → proceed (proceed r f) g ≡ proceed r (λ x s. proceed (f x s) g)
proceed-proceed (Ok r) f g = refl
proceed-proceed (Err d) f g = refl

-- the parts of a value
abbrev pub read : {S A : Type 0} → A → S → Result (A × S) Error
read x s = Ok (x, s)

pub value_is : {S A : Type 0} (x y : A) (s t : S) → read x s ≡ read y t → x ≡ y
value_is {S} {A} x y s t e = let is : (x, s) ≡ (y, t) = cc in ap (λ (p : A × S). p.0) is

pub state_is : {S A : Type 0} (x y : A) (s t : S) → read x s ≡ read y t → s ≡ t
state_is {S} {A} x y s t e = let is : (x, s) ≡ (y, t) = cc in ap (λ (p : A × S). p.1) is

-- a value whose rest is dropped came with one
pub value_of-Ok : {S A : Type 0} (r : Result (A × S) Error) (x : A) → value_of r ≡ Ok x → (s : S) × (r ≡ Ok (x, s))
value_of-Ok {S} {A} (Ok r) x e = let is : r.0 ≡ x = cc in (r.1, ap (λ (y : A). read y r.1) is)
value_of-Ok (Err d) x e = absurd cc

-- what is lifted keeps the state
abbrev answer : {A : Type 0} → A → Result A Error
answer x = Ok x

pub lift-Ok : {S A : Type 0} (r : Result A Error) (s : S) (x : A) (t : S) → lift r s ≡ Ok (x, t) → (r ≡ Ok x) × (t ≡ s)
lift-Ok (Ok y) s x t e = (ap answer (value_is y x s t e), sym (state_is y x s t e))
lift-Ok (Err d) s x t e = absurd cc
