-- Lists of parts, item by item.
use Rattle.std.proofs.Common.{◌≡◌, ℕ, zero, suc, ◌+◌, ◌<◌, ◌≤◌, Bool, true, false, ◌||◌, List, [], ◌∷◌, ◌++◌, length, drop, flat_map, sum_by, get_or, map, refl, sym, ap, ◌∙◌, arith, add-one, drop-cons}
use Rattle.std.proofs.Math.ListN.{drop_of_length-le}
use Rattle.std.specs.List.{list_any}
use Rattle.std.proofs.lemmas.List.Folds.{fold-map}

-- a test over parts is a test over what they are parts of
pub list_any_map : {A B : Type 0} (test : B → Bool) (part : A → B) (xs : List A)
    → list_any test (map part xs) ≡ list_any (λ x. test (part x)) xs
list_any_map test part [] = refl
list_any_map test part (x ∷ xs) = ap (λ b. test (part x) || b) (list_any_map test part xs)

pub sum_by_map : {A B : Type 0} (f : B → ℕ) (part : A → B) (xs : List A)
    → sum_by f (map part xs) ≡ sum_by (λ x. f (part x)) xs
sum_by_map f part xs = fold-map (λ n y. n + f y) part 0 xs

-- what the items from i on have: what the i-th has, and then what those after it have
pub flat_map_drop : {A B : Type 0} (f : A → List B) (xs : List A) (i : ℕ) (x : A) → i < length xs → x ≡ get_or xs i x
    → flat_map f (drop i xs) ≡ f x ++ flat_map f (drop (i + 1) xs)
flat_map_drop f xs i x below is = rw (drop-cons xs i x, ← is, add-one)

pub flat_map_drop_all : {A B : Type 0} (f : A → List B) (xs : List A) (i : ℕ) → length xs ≤ i
    → flat_map f (drop i xs) ≡ []
flat_map_drop_all f xs i past = rw (drop_of_length-le xs past)

-- a list of parts from a place on
pub drop_map : {A B : Type 0} (part : A → B) (xs : List A) (i : ℕ) (x : A) → i < length xs → x ≡ get_or xs i x
    → drop i (map part xs) ≡ part x ∷ drop (i + 1) (map part xs)
drop_map part [] i x below is = absurd (omega arith)
drop_map part (y ∷ ys) zero x below is = ap (λ z. part z ∷ map part ys) (sym is)
drop_map part (y ∷ ys) (suc i) x below is =
    let here : i < length ys = omega arith in rw add-one (drop_map part ys i x here is ∙ rw add-one)

or_later : (a b : Bool) → b ≡ true → (a || b) ≡ true
or_later true b e = refl
or_later false b e = e

or_here : (a b : Bool) → a ≡ true → (a || b) ≡ true
or_here true b e = refl
or_here false b e = absurd (let no : false ≡ true = e in cc)

-- what passes at a place passes in the whole
pub list_any-get : {A B : Type 0} (test : B → Bool) (part : A → B) (xs : List A) (i : ℕ) (x : A) → i < length xs
    → x ≡ get_or xs i x → test (part x) ≡ true → list_any test (map part xs) ≡ true
list_any-get test part [] i x below is h = absurd (omega arith)
list_any-get test part (y ∷ ys) zero x below is h = or_here (test (part y)) _ (ap (λ z. test (part z)) (sym is) ∙ h)
list_any-get test part (y ∷ ys) (suc i) x below is h =
    let here : i < length ys = omega arith in
    or_later (test (part y)) _ (list_any-get test part ys i x here is h)
