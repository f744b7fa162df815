-- The item with a number, as a function sees it.
use Rattle.std.proofs.Common.{◌≡◌, ℕ, ◌-◌, Bool, true, false, cond, leb, eqb, List, map, Option, option_map, refl}
use Rattle.std.proofs.lemmas.Option.{slice_get-map}
use Rattle.gimli_lines_header.specs.LineHeaders.{item_at}

item_of_either : {A B : Type 0} (f : A → B) (b : Bool) (x y : Option A) (u w : Option B) → u ≡ option_map f x
    → w ≡ option_map f y → cond b u w ≡ option_map f (cond b x y)
item_of_either f true x y u w h k = h
item_of_either f false x y u w h k = k

pub item_at_map : {A B : Type 0} (f : A → B) (version : ℕ) (zeroth : Option A) (xs : List A) (n : ℕ)
    → item_at version (option_map f zeroth) (map f xs) n ≡ option_map f (item_at version zeroth xs n)
item_at_map f version zeroth xs n =
    item_of_either f (leb version 4) _ _ _ _ (item_of_either f (eqb n 0) _ _ _ _ refl (slice_get-map f xs (n - 1)))
    (slice_get-map f xs n)
