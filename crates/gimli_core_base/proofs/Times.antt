-- How n items go on by one: what a loop that counts needs.
use Rattle.std.proofs.Common.{◌≡◌, ℕ, suc, ◌+◌, ◌-◌, ◌<◌, ◌≤◌, List, [], ◌∷◌, ◌++◌, Result, Ok, Err, refl, sym, ◌∙◌, ap, append_assoc, append-nil, arith}
use Rattle.gimli_core_base.specs.declared.error.Error.{Error}
use Rattle.gimli_core_base.specs.Parsers.{Step, proceed, give}
use Rattle.gimli_core_base.specs.Repetition.{times}

-- further items in front of those that are read
abbrev pub prepend : {S A : Type 0} → List A → Result (List A × S) Error → Result (List A × S) Error
prepend xs (Ok r) = Ok (xs ++ r.0, r.1)
prepend xs (Err e) = Err e

prepend-onward : {S A : Type 0} (xs : List A) (x : A) (r : Result (List A × S) Error)
    → prepend xs (proceed r (λ ys. give (x ∷ ys))) ≡ prepend (xs ++ x ∷ []) r
prepend-onward {S} {A} xs x (Ok r) = ap (λ (zs : List A). read zs r.1) (sym (append_assoc xs (x ∷ []) r.0))
  where
    read : List A → S → Result (List A × S) Error
    read zs s = Ok (zs, s)
prepend-onward xs x (Err e) = refl

-- an item that is read comes after those before it
pub times_item : {S A : Type 0} (p : Step S A) (n : ℕ) (xs : List A) (x : A) (s t : S) → p s ≡ Ok (x, t)
    → prepend xs (times (suc n) p s) ≡ prepend (xs ++ x ∷ []) (times n p t)
unfolding times
times_item {S} {A} p n xs x s t e =
    ap (λ (r : Result (A × S) Error). prepend xs (proceed r (λ y u. proceed (times n p u) (λ ys. give (y ∷ ys))))) e
    ∙ prepend-onward xs x (times n p t)

-- an item that can't be read ends them
pub times_fault : {S A : Type 0} (p : Step S A) (n : ℕ) (xs : List A) (s : S) (d : Error) → p s ≡ Err d
    → prepend xs (times (suc n) p s) ≡ Err d
unfolding times
times_fault {S} {A} p n xs s d e =
    ap (λ (r : Result (A × S) Error). prepend xs (proceed r (λ y u. proceed (times n p u) (λ ys. give (y ∷ ys))))) e

-- after the last item nothing is left to read
pub times_end : {S A : Type 0} (p : Step S A) (xs : List A) (s : S) → prepend xs (times 0 p s) ≡ Ok (xs, s)
unfolding times
times_end {S} {A} p xs s = ap (λ (zs : List A). read zs s) (append-nil xs)
  where
    read : List A → S → Result (List A × S) Error
    read zs t = Ok (zs, t)

-- ---- count items, of which i are read

-- a further item is read
pub count_item : {S A : Type 0} (p : Step S A) (count i : ℕ) (xs : List A) (x : A) (s t : S)
    (all : Result (List A × S) Error) → i < count → p s ≡ Ok (x, t) → prepend xs (times (count - i) p s) ≡ all
    → prepend (xs ++ x ∷ []) (times (count - (i + 1)) p t) ≡ all
count_item {S} {A} p count i xs x s t all more read same =
    let left : count - i ≡ suc (count - (i + 1)) = omega arith in
    sym (times_item p (count - (i + 1)) xs x s t read) ∙ ap (λ (n : ℕ). prepend xs (times n p s)) (sym left) ∙ same

-- the same, where the item was pushed after the others
pub count_push : {S A : Type 0} (p : Step S A) (count i : ℕ) (xs ys : List A) (x : A) (s t : S)
    (all : Result (List A × S) Error) → i < count → p s ≡ Ok (x, t) → ys ≡ xs ++ x ∷ []
    → prepend xs (times (count - i) p s) ≡ all → prepend ys (times (count - (i + 1)) p t) ≡ all
count_push {S} {A} p count i xs ys x s t all more read pushed same =
    ap (λ (zs : List A). prepend zs (times (count - (i + 1)) p t)) pushed
    ∙ count_item p count i xs x s t all more read same

-- an item can't be read
pub count_fault : {S A : Type 0} (p : Step S A) (count i : ℕ) (xs : List A) (s : S) (d : Error)
    (all : Result (List A × S) Error) → i < count → p s ≡ Err d → prepend xs (times (count - i) p s) ≡ all → all ≡ Err d
count_fault p count i xs s d all more fault same =
    let left : count - i ≡ suc (count - (i + 1)) = omega arith in
    sym same ∙ ap (λ (n : ℕ). prepend xs (times n p s)) left ∙ times_fault p (count - (i + 1)) xs s d fault

-- all are read
pub count_end : {S A : Type 0} (p : Step S A) (count i : ℕ) (xs : List A) (s : S) (all : Result (List A × S) Error)
    → count ≤ i → prepend xs (times (count - i) p s) ≡ all → all ≡ Ok (xs, s)
count_end p count i xs s all over same =
    let none : count - i ≡ 0 = omega arith in
    sym same ∙ ap (λ (n : ℕ). prepend xs (times n p s)) none ∙ times_end p xs s
